-- What is true in step of rows that go on where others are after s moves.
use Rattle.std.specs.Prelude.{ℕ, suc, ◌+◌, ◌<◌, ◌≡◌, refl, ◌⊎◌, ◌↔◌, T}
use Rattle.std.proofs.Common.{sym, ap, subst, subst₂, ◌∙◌, inl, inr, ⊎_elim, arith}
use Rattle.grammar.specs.Grammar.{Form, top, leaf, neg, and, or, next, until, release, ev, gl, Inner, Over, fleet, group, amount, Counted, counted, Clause}
use Rattle.cltl.specs.Counting.{tally}
use Rattle.cltl.specs.Threshold.{threshold}
use Rattle.cltl.specs.Meaning.{Rows, Proper, Until, Holds, AtLeast, run_in_step, Bears, Satisfies, among, size, Counts, InStepAt, TrueInStep}
use Rattle.cltl.proofs.Pace.{Pace, pull, push, until_map}
use Rattle.cltl.proofs.Tally.{at_least_map}
use Rattle.cltl.proofs.Agree.{tally_agrees}
use Rattle.cltl.proofs.Exact.{moment_step}
use Rattle.cltl.specs.Suffix.{Suffix, TrueOnStep}

-- counted from s on, every later moment is passed
pace_from : (s : ℕ) → Pace (λ t. s + t)
pace_from s = record { up = λ t. omega arith; one = λ t. omega arith; grows = λ t. (suc t, omega arith, omega arith) }

until_onward : {A B A' B' : ℕ → Type 0} (s : ℕ) → ((w : ℕ) → A w ↔ A' (s + w)) → ((w : ℕ) → B w ↔ B' (s + w)) → (t : ℕ) → Until A B t ↔ Until A' B' (s + t)
until_onward {A} {B} {A'} {B'} s a b t = (
  λ u. push (λ w. s + w) (pace_from s) {A = A'} {B = B'} t (until_map t (λ w. (a w).0) (λ w. (b w).0) u),
  λ u. until_map t (λ w. (a w).1) (λ w. (b w).1) (pull (λ w. s + w) (pace_from s) {A = A'} {B = B'} t u),
)

not_cong : {A B : Type 0} → A ↔ B → (A → ⊥) ↔ (B → ⊥)
not_cong e = (λ f b. f (e.1 b), λ f a. f (e.0 a))

-- a text whose leaves are at each moment t what others are at s + t
module _ {L : Type 0} (s : ℕ) (A B : L → ℕ → Type 0) (same : (x : L) (t : ℕ) → A x t ↔ B x (s + t)) where
  holds_onward : (a : Form L) (t : ℕ) → Holds A a t ↔ Holds B a (s + t)
  holds_onward top t = (λ x. x, λ x. x)
  holds_onward (leaf x) t = same x t
  holds_onward (neg a) t = not_cong (holds_onward a t)
  holds_onward (and a b) t =
      let x = holds_onward a t in
      let y = holds_onward b t in
      (λ z. (x.0 z.0, y.0 z.1), λ z. (x.1 z.0, y.1 z.1))
  holds_onward (or a b) t =
      let x = holds_onward a t in
      let y = holds_onward b t in
      (λ z. ⊎_elim (λ w. inl (x.0 w)) (λ w. inr (y.0 w)) z, λ z. ⊎_elim (λ w. inl (x.1 w)) (λ w. inr (y.1 w)) z)
  holds_onward (next a) t =
      let e : s + suc t ≡ suc (s + t) = omega arith in
      subst (λ (u : ℕ). Holds A a (suc t) ↔ Holds B a u) e (holds_onward a (suc t))
  holds_onward (until a b) t = until_onward s (holds_onward a) (holds_onward b) t
  holds_onward (ev a) t = until_onward s (λ w. (λ x. x, λ x. x)) (holds_onward a) t
  holds_onward (gl a) t = not_cong (until_onward s (λ w. (λ x. x, λ x. x)) (λ w. not_cong (holds_onward a w)) t)
  holds_onward (release a b) t = not_cong (until_onward s (λ w. not_cong (holds_onward a w)) (λ w. not_cong (holds_onward b w)) t)

module _ (P Q : Rows) (s : ℕ) (later : Suffix P Q s) where
  among_same : (o : Over) (i : ℕ) → i < P.carts → among Q o i ≡ among P o i
  among_same fleet i p = refl
  among_same (group g) i p = later.member g i p

  size_same : (o : Over) → size Q o ≡ size P o
  size_same fleet = later.carts
  size_same (group g) = ap (tally (Q.member g)) later.carts ∙ tally_agrees (Q.member g) (P.member g) P.carts (later.member g)

  -- inner text of a cart, and so a count, and so a clause
  satisfies_later : (i : ℕ) → i < P.carts → (a : Inner) (v : ℕ) → Satisfies Q i a v ↔ Satisfies P i a (s + v)
  satisfies_later i p a v = holds_onward s (Bears Q i) (Bears P i) (λ k w. (subst T (later.bears i k w p), subst T (sym (later.bears i k w p)))) a v

  counts_later : (x : Counted) (t : ℕ) → Counts Q (run_in_step Q.carts).at x t ↔ Counts P (run_in_step P.carts).at x (s + t)
  counts_later (counted a (amount k percent o)) t = (
    λ y. at_least_map (In Q t) (In P (s + t)) P.carts
        (λ i p z. (subst T (among_same o i p) z.0, (satisfies_later i p a t).0 z.1)) (threshold k percent (size P o))
        (subst₂ (λ (m n : ℕ). AtLeast (In Q t) (threshold k percent m) n) (size_same o) later.carts y),
    λ y. subst₂ (λ (m n : ℕ). AtLeast (In Q t) (threshold k percent m) n) (sym (size_same o)) (sym later.carts)
        (at_least_map (In P (s + t)) (In Q t) P.carts
        (λ i p z. (subst T (sym (among_same o i p)) z.0, (satisfies_later i p a t).1 z.1)) (threshold k percent (size P o)) y),
  )
    where
      In : Rows → ℕ → ℕ → Type 0
      In R v i = T (among R o i) × Satisfies R i a v

  pub in_step_later : (c : Clause) (t : ℕ) → InStepAt Q c t ↔ InStepAt P c (s + t)
  in_step_later c t = holds_onward s (Counts Q (run_in_step Q.carts).at) (Counts P (run_in_step P.carts).at) counts_later c t

-- what is true at the start is what was true at the step of counter s
pub start_later : (P : Rows) → Proper P → (Q : Rows) (s : ℕ) → Suffix P Q s → (c : Clause) → TrueInStep Q c ↔ TrueOnStep P s c
start_later P proper Q s later c =
    let e : s + 0 ≡ s = omega arith in
    let x = subst (λ (v : ℕ). TrueInStep Q c ↔ InStepAt P c v) e (in_step_later P Q s later c 0) in
    let y = moment_step P proper c s in
    (λ z. y.0 (x.0 z), λ z. x.1 (y.1 z))
