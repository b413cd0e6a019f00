-- A window is a running count above the drift.
use Prim.Native.Nat.{ℕ, zero, suc, ◌+◌, ◌-◌, ◌≤◌, ◌<◌, min}
use Rattle.std.specs.Prelude.{◌≡◌, ◌&&◌, ◌||◌, List, [], ◌∷◌, ◌⊎◌, ◌↔◌, eqb}
use Rattle.std.proofs.Math.Path.{refl, sym, ap, ap₂, subst, fun_ext}
use Rattle.std.proofs.Common.{◌∙◌, inr, ltb→lt, lt-ltb, le-ltb}
use Rattle.std.proofs.Math.Bool.{Bool, true, false, cond, and-true}
use Rattle.std.proofs.Math.Logic.{inl, ⊎_elim}
use native.Mathlib.Omega.{arith}
use Rattle.std.proofs.Math.Dec.{T, leb, ltb, lt→ltb}
use Rattle.grammar.specs.Grammar.{Counted, Clause}
use Rattle.row.specs.Lasso.{step_of}
use Rattle.row.specs.Round.{pick, step_low, step_below, step_from, step_lap}
use Rattle.cltl.specs.Meaning.{Rows, Proper}
use Rattle.cltl.specs.Counting.{tally, every}
use Rattle.cltl.specs.Rules.{window, throughout, quorum, judge, leaves, asked, text, count, slack, some_text, uniform, joint, joined, rules}
use Rattle.cltl.specs.Running.{back, walk, lap_count, running_count, count_read, joint_read, rules_read}
use Rattle.cltl.proofs.Basics.{and_l, and_r, and_i, bool_ext}
use Rattle.cltl.proofs.Tally.{every_at, every_of, every_agrees}
use Rattle.cltl.proofs.Agree.{tally_agrees}
use Rattle.cltl.proofs.Quorum.{step_on, window_at, window_of}

-- the first one apart
pub every_first : (f : ℕ → Bool) (n : ℕ) → every f (suc n) ≡ (f 0 && every (λ i. f (suc i)) n)
unfolding every
every_first f zero = refl
every_first f (suc n) =
    bool_ext _ _
    (λ t. and_i (f 0) _ (every_at f (suc (suc n)) 0 (omega arith) t)
    (every_of (λ i. f (suc i)) (suc n) (λ i p. every_at f (suc (suc n)) (suc i) (omega arith) t)))
    (λ t. every_of f (suc (suc n)) (go t))
  where
    go : T (f 0 && every (λ i. f (suc i)) (suc n)) → (i : ℕ) → i < suc (suc n) → T (f i)
    go t zero p = and_l (f 0) _ t
    go t (suc i) p = every_at (λ i. f (suc i)) (suc n) i (omega arith) (and_r (f 0) _ t)

-- in unary: above 0 where the text is true, and above one more where the count behind was above
pub above_none : (t : Bool) (c : ℕ) → ltb 0 (back t c) ≡ t
above_none true c = lt-ltb 0 (back true c) (omega arith)
above_none false c = refl

pub above_more : (t : Bool) (c j : ℕ) → j < 16 → ltb (suc j) (back t c) ≡ (t && ltb j c)
above_more true c j p =
    bool_ext _ _ (λ x. let q = ltb→lt (suc j) (back true c) x in lt→ltb j c (omega arith))
    (λ x. let q = ltb→lt j c x in lt→ltb (suc j) (back true c) (omega arith))
above_more false c j p = le-ltb (suc j) 0 (omega arith)

-- what a count at counter v is to tell: above j exactly if the j + 1 counters from v on keep it true
abbrev Tells : (ℕ → Bool) → (v c : ℕ) → Type 0
Tells g v c = (j : ℕ) → j ≤ 16 → ltb j c ≡ every (λ i. g (v + i)) (suc j)

module _ (g : ℕ → Bool) where
  first_apart : (v j : ℕ) → every (λ i. g (v + i)) (suc j) ≡ (g v && every (λ i. g (suc v + i)) j)
  first_apart v j =
      let e : v + 0 ≡ v = omega arith in
      every_first (λ i. g (v + i)) j
      ∙ ap₂ (λ (a b : Bool). a && b) (ap g e) (every_agrees _ _ j (λ i _. let e : v + suc i ≡ suc v + i = omega arith in ap g e))

  tells_back : (v c : ℕ) → Tells g (suc v) c → Tells g v (back (g v) c)
  unfolding every
  tells_back v c t zero p = above_none (g v) c ∙ sym (first_apart v 0 ∙ and-true (g v))
  tells_back v c t (suc j) p = above_more (g v) c j (omega arith) ∙ ap (λ (b : Bool). g v && b) (t j (omega arith)) ∙ sym (first_apart v (suc j))

  module _ (f : ℕ → Bool) where
    -- the text of n steps from s on, at the counters of the same numbers
    abbrev Same : (s n : ℕ) → Type 0
    Same s n = (i : ℕ) → s ≤ i → i < s + n → f i ≡ g i

    tells_walk : (s n c : ℕ) → Same s n → Tells g (s + n) c → Tells g s (walk f s n c)
    unfolding walk
    tells_walk s zero c e t = let z : s + 0 ≡ s = omega arith in subst (λ (v : ℕ). Tells g v c) z t
    tells_walk s (suc n) c e t =
        let z : s + suc n ≡ suc s + n = omega arith in
        subst (λ (b : Bool). Tells g s (back b (walk f (suc s) n c))) (sym (e s (omega arith) (omega arith)))
        (tells_back s _ (tells_walk (suc s) n c (λ i p q. e i (omega arith) (omega arith)) (subst (λ (v : ℕ). Tells g v c) z t)))

    -- whatever count stands behind them, one where the text fails is forgotten
    tells_or_all : (s n c : ℕ) → Same s n → ((i : ℕ) → s ≤ i → i < s + n → T (f i)) ⊎ Tells g s (walk f s n c)
    unfolding walk
    tells_or_all s zero c e = inl (λ i p q. absurd (omega arith))
    tells_or_all s (suc n) c e = go (f s) refl (tells_or_all (suc s) n c (λ i p q. e i (omega arith) (omega arith)))
      where
        here : f s ≡ g s
        here = e s (omega arith) (omega arith)

        go : (b : Bool) → f s ≡ b → ((i : ℕ) → suc s ≤ i → i < suc s + n → T (f i)) ⊎ Tells g (suc s) (walk f (suc s) n c)
            → ((i : ℕ) → s ≤ i → i < s + suc n → T (f i)) ⊎ Tells g s (back (f s) (walk f (suc s) n c))
        go false z _ =
            inr (λ j p. ap (λ (b : Bool). ltb j (back b (walk f (suc s) n c))) z ∙ le-ltb j 0 (omega arith)
            ∙ sym (first_apart s j ∙ ap (λ (b : Bool). b && every (λ i. g (suc s + i)) j) (sym here ∙ z)))
        go true z (inl all) =
            inl (λ i p q. pick s i (T (f i)) (λ r. all i (omega arith) (omega arith))
            (λ r. let e : s ≡ i = omega arith in subst (λ (k : ℕ). T (f k)) e (subst T (sym z) tt)))
        go true z (inr t) = inr (subst (λ (b : Bool). Tells g s (back b (walk f (suc s) n c))) (sym here) (tells_back s _ t))

  -- the whole lap true counts as 17
  all_17 : (f : ℕ → Bool) (s n : ℕ) → ((i : ℕ) → s ≤ i → i < s + n → T (f i)) → walk f s n 17 ≡ 17
  unfolding walk
  all_17 f s zero t = refl
  all_17 f s (suc n) t = go (f s) (t s (omega arith) (omega arith)) (all_17 f (suc s) n (λ i p q. t i (omega arith) (omega arith)))
    where
      go : (b : Bool) → T b → walk f (suc s) n 17 ≡ 17 → back b (walk f (suc s) n 17) ≡ 17
      go true _ e = omega arith
      go false x e = absurd x

-- the count over n steps with 17 behind them: above j exactly if the first j + 1 of them are true, or all where they are fewer
pub lap_above : (f : ℕ → Bool) (s n j : ℕ) → j ≤ 16 → ltb j (walk f s n 17) ≡ every (λ i. f (s + i)) (min (suc j) n)
unfolding walk every
lap_above f s zero j p = let e : min (suc j) 0 ≡ 0 = omega arith in lt-ltb j 17 (omega arith) ∙ ap (every (λ i. f (s + i))) (sym e)
lap_above f s (suc n) zero p =
    let e : min 1 (suc n) ≡ 1 = omega arith in
    above_none (f s) _ ∙ sym (first_apart f s 0 ∙ and-true (f s)) ∙ ap (every (λ i. f (s + i))) (sym e)
lap_above f s (suc n) (suc j) p =
    let e : min (suc (suc j)) (suc n) ≡ suc (min (suc j) n) = omega arith in
    above_more (f s) _ j (omega arith) ∙ ap (λ (b : Bool). f s && b) (lap_above f (suc s) n j (omega arith)) ∙ sym (first_apart f s (min (suc j) n))
    ∙ ap (every (λ i. f (s + i))) (sym e)

module _ (h l : ℕ) (some : l < h) where
  -- behind the last step the lap begins again
  step_again : (i : ℕ) → step_of h l (l + i) ≡ step_of h l (h + i)
  step_again i =
      let e : l + i + (h - l) ≡ h + i = omega arith in
      sym (step_lap h l some (l + i) (omega arith)) ∙ ap (step_of h l) e

  module _ (f : ℕ → Bool) where
    -- the text at the step of a counter
    abbrev at : ℕ → Bool
    at v = f (step_of h l v)

    same : (i : ℕ) → i < h → f i ≡ at i
    same i p = ap f (sym (step_low h l i p))

    lap_tells : Tells at h (lap_count h l f)
    unfolding lap_count
    lap_tells j p =
        ⊎_elim whole (λ t. t j p) (tells_or_all at f l (h - l) 17 (λ i _ q. same i (omega arith)))
        ∙ every_agrees _ _ (suc j) (λ i _. ap f (step_again i))
      where
        whole : ((i : ℕ) → l ≤ i → i < l + (h - l) → T (f i)) → ltb j (walk f l (h - l) 17) ≡ every (λ i. at (l + i)) (suc j)
        whole all =
            ap (ltb j) (all_17 at f l (h - l) all)
            ∙ bool_ext _ _
            (λ _. every_of (λ i. at (l + i)) (suc j)
            (λ i _. let below = step_below h l some (l + i) in all (step_of h l (l + i)) (omega (arith, step_from h l some (l + i) (omega arith))) (omega arith)))
            (λ _. lt→ltb j 17 (omega arith))

    running_tells : (s : ℕ) → s ≤ h → Tells at s (running_count h l f s)
    unfolding running_count
    running_tells s p =
        let e : h ≡ s + (h - s) = omega arith in
        tells_walk at f s (h - s) (lap_count h l f) (λ i _ q. same i (omega arith)) (subst (λ (v : ℕ). Tells at v (lap_count h l f)) e lap_tells)

    -- "the text holds at all of counters s to s + d exactly if the count at s is above d", at every counter
    pub window_above : (d s : ℕ) → d ≤ 16 → window h l f d s ≡ ltb d (running_count h l f (step_of h l s))
    unfolding window
    window_above d s p =
        every_agrees _ _ (suc d) (λ j _. ap f (sym (step_on h l some s j)))
        ∙ sym (running_tells (step_of h l s) (omega (arith, step_below h l some s)) d p)

    pub holds_above : (d v : ℕ) → d ≤ 16 → ((j : ℕ) → j ≤ d → T (f (step_of h l (v + j)))) ↔ (d < running_count h l f (step_of h l v))
    holds_above d v p = (
      λ x. ltb→lt d _ (subst T (window_above d v p) (window_of h l f d v x)),
      λ q j r. window_at h l f d v j r (subst T (sym (window_above d v p)) (lt→ltb d _ q)),
    )

  pub throughout_above : (carts d : ℕ) → d ≤ 16 → (f : ℕ → ℕ → Bool) (s : ℕ)
      → throughout h l carts d f s ≡ tally (λ i. ltb d (running_count h l (f i) (step_of h l s))) carts
  throughout_above carts d p f s = tally_agrees _ _ carts (λ i _. window_above (f i) d s p)

-- step by step, as it is kept
module _ (h l : ℕ) (f : ℕ → Bool) where
  pub running_back : (s : ℕ) → s < h → running_count h l f s ≡ cond (f s) (min 17 (suc (running_count h l f (suc s)))) 0
  unfolding running_count walk
  running_back s p =
      let e : h - s ≡ suc (h - suc s) = omega arith in
      ap (λ (n : ℕ). walk f s n (lap_count h l f)) e ∙ either (f s) (walk f (suc s) (h - suc s) (lap_count h l f))
    where
      either : (b : Bool) (c : ℕ) → back b c ≡ cond b (min 17 (suc c)) 0
      either true c = refl
      either false c = refl

  pub running_last : running_count h l f h ≡ walk f l (h - l) 17
  unfolding running_count walk lap_count
  running_last = let e : h - h ≡ 0 = omega arith in ap (λ (n : ℕ). walk f h n (lap_count h l f)) e

-- all verdicts stay
module _ (P : Rows) (proper : Proper P) (d : ℕ) (few : d ≤ 16) where
  count_read_lem : (p : Bool) (x : Counted) (s : ℕ) → count_read P d p x s ≡ count P d p x s
  unfolding count_read count quorum
  count_read_lem p x s =
      ap (λ (n : ℕ). leb (asked P (p, x)) n || (eqb (asked P (p, x)) 1 && every (λ i. text P i (p, x) s) P.carts))
      (sym (throughout_above P.h P.l proper.lap P.carts d few (λ i. text P i (p, x)) s))

  joint_read_lem : (xs : List (Bool × Counted)) (s : ℕ) → joint_read P d xs s ≡ joint P d xs s
  unfolding joint_read joint
  joint_read_lem xs s =
      ap (λ (n : ℕ). uniform P xs && ltb (slack P xs) n) (sym (throughout_above P.h P.l proper.lap P.carts d few (some_text P xs) s))

  pub rules_read_lem : (c : Clause) (s : ℕ) → rules_read P d c s ≡ rules P d c s
  unfolding rules_read rules joined
  rules_read_lem c s =
      ap₂ (λ (rule : Bool → Counted → ℕ → Bool) (also : Bool → Clause → ℕ → Bool). judge P.h P.l rule also true c s)
      (fun_ext (λ p. fun_ext (λ x. fun_ext (λ s. count_read_lem p x s)))) (fun_ext (λ p. fun_ext (λ c. fun_ext (λ s. joint_read_lem (leaves p c) s))))
