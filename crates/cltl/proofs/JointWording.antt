-- What the words on joined counts need a proof for.
use Rattle.std.specs.Prelude.{ℕ, suc, ◌+◌, ◌≤◌, ◌<◌, ◌≡◌, ◌&&◌, ◌||◌, ◌⊎◌, ◌↔◌, length}
use Rattle.std.proofs.Math.Path.{refl, ap}
use Rattle.std.proofs.Common.{sym, ◌∙◌, arith, le→leb}
use Rattle.std.proofs.Math.Bool.{Bool, true, false, true≢false}
use mathlib.Core.List.{List, [], ◌∷◌}
use Rattle.std.proofs.Math.Logic.{inl, inr, ⊎_elim}
use Rattle.std.proofs.Math.Dec.{T}
use Rattle.grammar.specs.Grammar.{or, Over, Counted, Clause}
use Rattle.row.specs.Lasso.{step_of}
use Rattle.cltl.specs.Meaning.{Rows, Proper, AtLeast, among}
use Rattle.cltl.specs.Rules.{throughout, both, leaves, same, over, asked, text, count, slack, some_text, same_carts, all_over, uniform, joint, joined, rules, plain_rules, nothing}
use Rattle.cltl.proofs.Basics.{and_l, and_r, and_i, or_l, or_r, or_cases, lt_or_le}
use Rattle.cltl.proofs.Members.{Text, text_exact, SameCarts}
use Rattle.cltl.proofs.Operators.{judge_mono}
use Rattle.cltl.proofs.Quorum.{throughout_quorum}
use Rattle.cltl.proofs.Tally.{every_at, every_of}
use Rattle.cltl.proofs.Wording.{throughout_holds}
use Rattle.cltl.proofs.Joint.{Some, some_map, leaf_ruled, joint_more}

-- where b is not true, "a or b" is a, or what else makes the or true
pub ask_or : (also a b rest : Bool) → (b || ((also || a) && rest)) ≡ (b || ((also || (a || b)) && rest))
ask_or also a true rest = refl
ask_or true a false rest = refl
ask_or false true false rest = refl
ask_or false false false rest = refl

pub ask_is_or : (also a b : Bool) → T (also || a) → T (also || (a || b))
ask_is_or also a b x = ⊎_elim (λ z. or_l also (a || b) z) (λ z. or_r also (a || b) (or_l a b z)) (or_cases also a x)

module _ (P : Rows) where
  -- the thresholds together
  abbrev pub total : List (Bool × Counted) → ℕ
  total [] = 0
  total (x ∷ xs) = asked P x + total xs

  -- subtracting 1 from each is subtracting as many as there are, unless one is 0
  pub slack-total : (xs : List (Bool × Counted)) → Some (λ x. asked P x ≡ 0) xs ⊎ (slack P xs + length xs ≡ total xs)
  unfolding slack
  slack-total [] = inr refl
  slack-total (x ∷ xs) =
      ⊎_elim (λ z. inl (inr z)) (λ z. ⊎_elim (λ q. inl (inl (omega arith))) (λ q. inr (omega arith)) (lt_or_le (asked P x) 1)) (slack-total xs)

  -- and a count whose threshold is 0 is true by itself
  pub asks_no_cart : (d : ℕ) (c : Clause) (s : ℕ) → Some (λ x. asked P x ≡ 0) (leaves true c) → T (rules P d c s)
  unfolding rules count
  asks_no_cart d c s z =
      leaf_ruled P.h P.l (count P d) (joined P d) s true c
      (some_map _ _ (λ x e. throughout_quorum P.h P.l P.carts (asked P x) (λ i. text P i x) d s (omega arith)) (leaves true c) z)

  -- an or with a side that has no counts joins none
  pub mixed_none : (d s : ℕ) (a b : Clause) → (leaves true a ≡ []) ⊎ (leaves true b ≡ []) → joined P d true (or a b) s ≡ false
  unfolding joined joint leaves uniform
  mixed_none d s a b none = ap (λ xs. joint P d xs s) (⊎_elim (λ e. ap (λ xs. both xs (leaves true b)) e) (λ e. ap (both (leaves true a)) e ∙ right (leaves true a)) none)
    where
      right : (xs : List (Bool × Counted)) → both xs [] ≡ []
      right [] = refl
      right (x ∷ xs) = refl

  -- what is kept without joining is kept
  pub plain_kept : (d : ℕ) (c : Clause) (s : ℕ) → T (plain_rules P d c s) → T (rules P d c s)
  unfolding rules plain_rules
  plain_kept d c s x = judge_mono P.h P.l (count P d) (count P d) nothing (joined P d) (λ p x s y. y) (λ p c s y. absurd y) true c s x

  module _ (proper : Proper P) where
    -- the or of the texts is exact
    some_exact : (xs : List (Bool × Counted)) (i v : ℕ) → T (some_text P xs i (step_of P.h P.l v)) ↔ Some (λ x. Text P i x v) xs
    unfolding some_text
    some_exact [] i v = (λ z. z, λ z. z)
    some_exact (x ∷ xs) i v =
        let here = text_exact P proper i x v in
        let rest = some_exact xs i v in
        let yes : Bool = text P i x (step_of P.h P.l v) in (
          λ z. ⊎_elim (λ u. inl (here.0 u)) (λ u. inr (rest.0 u)) (or_cases yes _ z),
          ⊎_elim (λ u. or_l yes _ (here.1 u)) (λ u. or_r yes _ (rest.1 u)),
        )

    abbrev Joined : ℕ → ℕ → List (Bool × Counted) → Type 0
    Joined d s xs = AtLeast (λ i. (j : ℕ) → j ≤ d → Some (λ x. Text P i x (s + j)) xs) (suc (slack P xs)) P.carts

    more_holds : (d s : ℕ) (xs : List (Bool × Counted)) → (slack P xs < throughout P.h P.l P.carts d (some_text P xs) s) ↔ Joined d s xs
    more_holds d s xs =
        throughout_holds P.h P.l P.carts (some_text P xs) (λ i v. Some (λ x. Text P i x v) xs) (some_exact xs) d s (suc (slack P xs))

    pub joint_holds : (d s : ℕ) (xs : List (Bool × Counted)) → T (joint P d xs s) ↔ (T (uniform P xs) × Joined d s xs)
    unfolding joint
    joint_holds d s xs = (
      λ z. (and_l (uniform P xs) _ z, (more_holds d s xs).0 (joint_more P d xs s z)),
      λ z. and_i (uniform P xs) _ z.0 (le→leb _ _ ((more_holds d s xs).1 z.1)),
    )

  -- counts over the same carts, in the words of their carts
  pub same_carts_lem : (o o' : Over) → T (same_carts P o o') ↔ SameCarts P o o'
  unfolding same_carts
  same_carts_lem o o' = (
    λ x i p. (same_bool (among P o i) (among P o' i)).0 (every_at _ P.carts i p x),
    λ x. every_of _ P.carts (λ i p. (same_bool (among P o i) (among P o' i)).1 (x i p)),
  )
    where
      same_bool : (a b : Bool) → T (same a b) ↔ (a ≡ b)
      same_bool true true = (λ _. refl, λ _. tt)
      same_bool true false = (λ x. absurd x, λ e. true≢false e)
      same_bool false true = (λ x. absurd x, λ e. true≢false (sym e))
      same_bool false false = (λ _. refl, λ _. tt)

  abbrev pub EachOver : Over → List (Bool × Counted) → Type 0
  EachOver o [] = Unit {0}
  EachOver o (x ∷ xs) = SameCarts P o (over P x) × EachOver o xs

  pub each_over : (o : Over) (xs : List (Bool × Counted)) → T (all_over P o xs) ↔ EachOver o xs
  unfolding all_over
  each_over o [] = (λ _. tt, λ _. tt)
  each_over o (x ∷ xs) =
      let here = same_carts_lem o (over P x) in
      let rest = each_over o xs in (
        λ z. (here.0 (and_l (same_carts P o (over P x)) _ z), rest.0 (and_r (same_carts P o (over P x)) _ z)),
        λ z. and_i (same_carts P o (over P x)) _ (here.1 z.0) (rest.1 z.1),
      )
