-- The rules for the operators, over any rule for the leaves and any further rule for an or.
use Rattle.std.specs.Prelude.{ℕ, suc, ◌<◌, ◌≡◌, Bool, not, ◌||◌, ◌⊎◌}
use Rattle.std.proofs.Math.Path.{refl, ap, subst}
use Rattle.std.proofs.Common.{sym, ◌∙◌, arith}
use Rattle.std.proofs.Math.Bool.{true, false, not-not}
use Rattle.std.proofs.Math.Logic.{inl, inr, ⊎_elim}
use Rattle.std.proofs.Math.Dec.{T, not_T}
use Rattle.grammar.specs.Grammar.{Form, top, leaf, neg, and, or, next, until, release, ev, gl}
use Rattle.row.specs.Lasso.{next_step, step_of}
use Rattle.row.specs.Round.{step_next, step_below, next_below}
use Rattle.cltl.specs.Meaning.{Until, Holds}
use Rattle.cltl.specs.Broken.{Val}
use Rattle.cltl.specs.Rules.{join, fix, judge, nothing, has_next}
use Rattle.cltl.proofs.Pace.{Pace, until_map, until_either, pull, push}
use Rattle.cltl.proofs.Basics.{or_cases, or_l, or_r, and_l, and_r, or_absorb, join_mono, join-not, T_or_not}
use Rattle.cltl.proofs.Lap.{reach, kept, fix_mono, fix-not, fix_cong, fix_absorb}

module _ (h l : ℕ) (ok : l < h) (lo : ℕ → ℕ) (pace : Pace lo) where
  abbrev at : ℕ → ℕ
  at t = step_of h l (lo t)

  run_until : (a b : ℕ → Bool) {A B : ℕ → Type 0} (t : ℕ) → T (fix h l true a b h (at t)) → ((w : ℕ) → T (a (at w)) → A w)
      → ((w : ℕ) → T (b (at w)) → B w) → Until A B t
  run_until a b t x f g = until_map t f g (pull lo pace t (reach h l ok a b (lo t) x))

  run_release : (a b : ℕ → Bool) {A B : ℕ → Type 0} (t : ℕ) → T (fix h l false a b h (at t)) → ((w : ℕ) → T (a (at w)) → A w → ⊥)
      → ((w : ℕ) → T (b (at w)) → B w → ⊥) → Until A B t → ⊥
  run_release a b t x f g u = kept h l ok a b (lo t) x (push lo pace t (until_map t (λ w p q. f w q p) (λ w p q. g w q p) u))

  -- "next" in a part is "next" in the whole
  nl : {L : Type 0} {E : Type 0} (a b : Form L) → (T (has_next a || has_next b) → E) → T (has_next a) → E
  nl a b e n = e (or_l (has_next a) (has_next b) n)

  nr : {L : Type 0} {E : Type 0} (a b : Form L) → (T (has_next a || has_next b) → E) → T (has_next b) → E
  nr a b e n = e (or_r (has_next a) (has_next b) n)

  module _ {L : Type 0} (rule : Bool → L → ℕ → Bool) (also : Bool → Form L → ℕ → Bool) (Leaf : L → ℕ → Type 0)
      (leaf-sound : (p : Bool) (x : L) (t : ℕ) → T (rule p x (at t)) → Val p (Leaf x t))
      (or_sound : (p : Bool) (a b : Form L) (t : ℕ) → T (also p (or a b) (at t)) → T p × (Val p (Holds Leaf a t) ⊎ Val p (Holds Leaf b t)))
      (and_sound : (p : Bool) (a b : Form L) (t : ℕ) → T (also p (and a b) (at t)) → T (not p) × (Val p (Holds Leaf a t) ⊎ Val p (Holds Leaf b t))) where
    abbrev J : Bool → Form L → ℕ → Bool
    J p a t = judge h l rule also p a (at t)

    -- what is true by the further rule or by the sides
    by : {E : Type 0} (p : Bool) (c : Form L) (x : Bool) (t : ℕ) → (T (also p c (at t)) → E) → (T x → E) → T (also p c (at t) || x) → E
    by p c x t f g y = ⊎_elim f g (or_cases (also p c (at t)) x y)

    pub sound : (p : Bool) (c : Form L) → (T (has_next c) → (t : ℕ) → lo (suc t) ≡ suc (lo t)) → (t : ℕ) → T (judge h l rule also p c (at t)) → Val p (Holds Leaf c t)
    unfolding judge
    sound true top e t x = tt
    sound false top e t x = λ _. x
    sound p (leaf y) e t x = leaf-sound p y t x
    sound true (neg a) e t x = sound false a e t x
    sound false (neg a) e t x = λ n. n (sound true a e t x)
    sound true (and a b) e t x =
        by true (and a b) _ t (λ z. absurd (and_sound true a b t z).0)
        (λ y. (sound true a (nl a b e) t (and_l (J true a t) (J true b t) y), sound true b (nr a b e) t (and_r (J true a t) (J true b t) y))) x
    sound false (and a b) e t x =
        λ y.
        ⊎_elim (λ z. z y.0) (λ z. z y.1)
        (by false (and a b) _ t (λ z. (and_sound false a b t z).1)
        (λ z. ⊎_elim (λ u. inl (sound false a (nl a b e) t u)) (λ u. inr (sound false b (nr a b e) t u)) (or_cases (J false a t) (J false b t) z)) x)
    sound true (or a b) e t x =
        by true (or a b) _ t (λ z. (or_sound true a b t z).1)
        (λ z. ⊎_elim (λ u. inl (sound true a (nl a b e) t u)) (λ u. inr (sound true b (nr a b e) t u)) (or_cases (J true a t) (J true b t) z)) x
    sound false (or a b) e t x =
        by false (or a b) _ t (λ z. absurd (or_sound false a b t z).0)
        (λ y. ⊎_elim (sound false a (nl a b e) t (and_l (J false a t) (J false b t) y)) (sound false b (nr a b e) t (and_r (J false a t) (J false b t) y))) x
    sound p (next a) e t x = sound p a (λ _. e tt) (suc t) (rw (e tt t, step_next h l ok) x)
    sound true (until a b) e t x =
        until_either
        (run_until _ _ t x (λ w. by true (or a b) _ w (λ z. (or_sound true a b w z).1) (λ z. inl (sound true a (nl a b e) w z)))
        (λ w. sound true b (nr a b e) w))
    sound false (until a b) e t x =
        run_release _ _ t x (λ w. by false (or a b) _ w (λ z. absurd (or_sound false a b w z).0) (sound false a (nl a b e) w))
        (λ w. sound false b (nr a b e) w)
    sound true (release a b) e t x =
        run_release _ _ t x (λ w y n. by true (and a b) _ w (λ z. absurd (and_sound true a b w z).0) (λ z. n (sound true a (nl a b e) w z)) y)
        (λ w y n. n (sound true b (nr a b e) w y))
    sound false (release a b) e t x =
        λ u.
        u
        (until_either
        (run_until _ _ t x (λ w. by false (and a b) _ w (λ z. (and_sound false a b w z).1) (λ z. inl (sound false a (nl a b e) w z)))
        (λ w. sound false b (nr a b e) w)))
    sound true (ev a) e t x = run_until _ _ t x (λ w _. tt) (λ w. sound true a e w)
    sound false (ev a) e t x = run_release _ _ t x (λ w y _. y) (λ w. sound false a e w)
    sound true (gl a) e t x = run_release _ _ t x (λ w y _. y) (λ w y n. n (sound true a e w y))
    sound false (gl a) e t x = λ u. u (run_until _ _ t x (λ w _. tt) (λ w. sound false a e w))

-- with no further rule for an or: where each leaf's rule for its negation is the negation of its rule, so is each form's
module _ (h l : ℕ) (ok : l < h) {L : Type 0} (rule : Bool → L → ℕ → Bool)
    (opp : (p : Bool) (x : L) (s : ℕ) → s < h → rule (not p) x s ≡ not (rule p x s)) where
  abbrev Jd : Bool → Form L → ℕ → Bool
  Jd p a s = judge h l rule nothing p a s

  pub dual : (p : Bool) (c : Form L) (s : ℕ) → s < h → judge h l rule nothing (not p) c s ≡ not (judge h l rule nothing p c s)
  unfolding judge
  dual p top s q = refl
  dual p (leaf x) s q = opp p x s q
  dual p (neg a) s q = dual (not p) a s q
  dual p (and a b) s q = rw (dual p a s q, dual p b s q) (join-not p (Jd p a s) (Jd p b s))
  dual p (or a b) s q = rw (dual p a s q, dual p b s q) (join-not (not p) (Jd p a s) (Jd p b s))
  dual p (next a) s q = dual p a (next_step h l s) (next_below h l ok s)
  dual p (until a b) s q = fix-not h l ok p _ _ _ _ (λ s q. dual p a s q) (λ s q. dual p b s q) h s q
  dual p (release a b) s q = fix-not h l ok (not p) _ _ _ _ (λ s q. dual p a s q) (λ s q. dual p b s q) h s q
  dual p (ev a) s q = fix-not h l ok p _ _ _ _ (λ s q. refl) (λ s q. dual p a s q) h s q
  dual p (gl a) s q = fix-not h l ok (not p) _ _ _ _ (λ s q. refl) (λ s q. dual p a s q) h s q

-- more is true by rules by which more is true
module _ (h l : ℕ) {L : Type 0} (rule rule' : Bool → L → ℕ → Bool) (also also' : Bool → Form L → ℕ → Bool)
    (imp : (p : Bool) (x : L) (s : ℕ) → T (rule p x s) → T (rule' p x s))
    (also-imp : (p : Bool) (c : Form L) (s : ℕ) → T (also p c s) → T (also' p c s)) where
  abbrev J₀ : Bool → Form L → ℕ → Bool
  J₀ p a s = judge h l rule also p a s

  abbrev J₁ : Bool → Form L → ℕ → Bool
  J₁ p a s = judge h l rule' also' p a s

  or_mono : (p : Bool) (c : Form L) (x x' : Bool) (s : ℕ) → (T x → T x') → T (also p c s || x) → T (also' p c s || x')
  or_mono p c x x' s f y = join_mono false (also p c s) (also' p c s) x x' (also-imp p c s) f y

  pub judge_mono : (p : Bool) (c : Form L) (s : ℕ) → T (judge h l rule also p c s) → T (judge h l rule' also' p c s)
  unfolding judge
  judge_mono p top s x = x
  judge_mono p (leaf y) s x = imp p y s x
  judge_mono p (neg a) s x = judge_mono (not p) a s x
  judge_mono p (and a b) s x =
      or_mono p (and a b) _ _ s (join_mono p (J₀ p a s) (J₁ p a s) (J₀ p b s) (J₁ p b s) (judge_mono p a s) (judge_mono p b s)) x
  judge_mono p (or a b) s x =
      or_mono p (or a b) _ _ s (join_mono (not p) (J₀ p a s) (J₁ p a s) (J₀ p b s) (J₁ p b s) (judge_mono p a s) (judge_mono p b s)) x
  judge_mono p (next a) s x = judge_mono p a (next_step h l s) x
  judge_mono p (until a b) s x = fix_mono h l p _ _ _ _ (λ s. or_mono p (or a b) _ _ s (judge_mono p a s)) (λ s. judge_mono p b s) h s x
  judge_mono p (release a b) s x = fix_mono h l (not p) _ _ _ _ (λ s. or_mono p (and a b) _ _ s (judge_mono p a s)) (λ s. judge_mono p b s) h s x
  judge_mono p (ev a) s x = fix_mono h l p _ _ _ _ (λ s y. y) (λ s. judge_mono p a s) h s x
  judge_mono p (gl a) s x = fix_mono h l (not p) _ _ _ _ (λ s y. y) (λ s. judge_mono p a s) h s x

-- a further rule that makes nothing true but what is true without it makes no difference
module _ (h l : ℕ) (ok : l < h) {L : Type 0} (rule : Bool → L → ℕ → Bool) (also : Bool → Form L → ℕ → Bool)
    (imp : (p : Bool) (c : Form L) (s : ℕ) → s < h → T (also p c s) → T (judge h l rule nothing p c s)) where
  abbrev Jn : Bool → Form L → ℕ → Bool
  Jn p a s = judge h l rule nothing p a s

  pub judge_plain : (p : Bool) (c : Form L) (s : ℕ) → s < h → judge h l rule also p c s ≡ judge h l rule nothing p c s
  unfolding judge
  judge_plain p top s q = refl
  judge_plain p (leaf x) s q = refl
  judge_plain p (neg a) s q = judge_plain (not p) a s q
  judge_plain p (and a b) s q = rw (judge_plain p a s q, judge_plain p b s q) (or_absorb (also p (and a b) s) (join p (Jn p a s) (Jn p b s)) (imp p (and a b) s q))
  judge_plain p (or a b) s q =
      rw (judge_plain p a s q, judge_plain p b s q) (or_absorb (also p (or a b) s) (join (not p) (Jn p a s) (Jn p b s)) (imp p (or a b) s q))
  judge_plain p (next a) s q = judge_plain p a (next_step h l s) (next_below h l ok s)
  judge_plain p (until a b) s q =
      fix_cong h l ok p _ _ _ _ (λ s q. ap (λ (x : Bool). also p (or a b) s || x) (judge_plain p a s q)) (λ s q. judge_plain p b s q) h s q
      ∙ fix_absorb h l ok p (also p (or a b)) (Jn p a) (Jn p b) (λ s q. imp p (or a b) s q) h s q
  judge_plain p (release a b) s q =
      fix_cong h l ok (not p) _ _ _ _ (λ s q. ap (λ (x : Bool). also p (and a b) s || x) (judge_plain p a s q)) (λ s q. judge_plain p b s q) h s q
      ∙ fix_absorb h l ok (not p) (also p (and a b)) (Jn p a) (Jn p b)
      (λ s q z. subst (λ (o : Bool). T (join o (Jn p a s) (Jn p b s))) (sym (not-not p)) (imp p (and a b) s q z)) h s q
  judge_plain p (ev a) s q = fix_cong h l ok p _ _ _ _ (λ s q. refl) (λ s q. judge_plain p a s q) h s q
  judge_plain p (gl a) s q = fix_cong h l ok (not p) _ _ _ _ (λ s q. refl) (λ s q. judge_plain p a s q) h s q

-- over counters themselves the rules are exact, "next" included
pub counters : Pace (λ t. t)
counters = record { up = λ t. omega arith; one = λ t. omega arith; grows = λ t. (suc t, omega arith, omega arith) }

module _ (h l : ℕ) (ok : l < h) {L : Type 0} (rule : Bool → L → ℕ → Bool) (Leaf : L → ℕ → Type 0)
    (leaf-sound : (p : Bool) (x : L) (t : ℕ) → T (rule p x (step_of h l t)) → Val p (Leaf x t))
    (opp : (p : Bool) (x : L) (s : ℕ) → s < h → rule (not p) x s ≡ not (rule p x s)) where
  pub exact_sound : (p : Bool) (c : Form L) (t : ℕ) → T (judge h l rule nothing p c (step_of h l t)) → Val p (Holds Leaf c t)
  exact_sound p c t x = sound h l ok (λ t. t) counters rule nothing Leaf leaf-sound (λ p a b t z. absurd z) (λ p a b t z. absurd z) p c (λ _ t. refl) t x

  pub exact_complete : (p : Bool) (c : Form L) (t : ℕ) → Val p (Holds Leaf c t) → T (judge h l rule nothing p c (step_of h l t))
  exact_complete true c t v =
      ⊎_elim (λ x. x) (λ x. absurd (exact_sound false c t (rw (dual h l ok rule opp true c (step_of h l t) (step_below h l ok t)) x) v))
      (T_or_not (judge h l rule nothing true c (step_of h l t)))
  exact_complete false c t v =
      rw (dual h l ok rule opp true c (step_of h l t) (step_below h l ok t))
      (not_T (judge h l rule nothing true c (step_of h l t)) (λ x. v (exact_sound true c t x)))
