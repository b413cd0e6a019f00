-- The operand that needs more pairs goes first: what operands need is there.
use Rattle.std.specs.Prelude.{ℕ, ◌+◌, ◌≤◌, ◌<◌, ◌≡◌, refl, List, get_or}
use Rattle.std.proofs.Common.{sym, subst, ◌∙◌, ⊎_elim, arith, eq-eqb, ne_eqb}
use Rattle.std.proofs.Math.Nat.{le-max_left, le-max_right}
use Rattle.cltl.proofs.Basics.{lt_or_le}
use Rattle.drift.specs.Tree.{Ordered, kind_at, first_at, second_at}
use Rattle.drift.specs.Need.{more, need_node, Needs}
use Rattle.drift.specs.NodeIs.{of_one, of_two, of_count}
use Rattle.drift.specs.NodeTruth.{first_low}

module _ (a b : ℕ) where
  less_more : a < b → b ≤ more a b
  less_more q = rw (ne_eqb a b (λ e. omega arith)) (le-max_right a b)

  least_more : b ≤ a → (a ≤ more a b) × (b < more a b)
  least_more q = ⊎_elim (λ z. unequal z) (λ z. equal (omega arith)) (lt_or_le b a)
    where
      unequal : b < a → (a ≤ more a b) × (b < more a b)
      unequal z = rw (ne_eqb a b (λ e. omega arith)) (let m = le-max_left a b in (m, omega arith))

      equal : a ≡ b → (a ≤ more a b) × (b < more a b)
      equal e = rw (eq-eqb a b e) (omega arith, omega arith)

module _ (block needs : List ℕ) (k : ℕ) (w : Needs block needs (k + 1)) where
  abbrev needed : ℕ → ℕ
  needed i = get_or needs i 0

  pub one_need : 2 ≤ kind_at block k → kind_at block k < 6 → (needed (first_at block k) ≤ needed k) × (0 < needed k)
  one_need q q' =
      let e = w.each k (omega arith) ∙ sym (of_one (need_node needs) block k (kind_at block k) refl q q') in
      let m = le-max_left 1 (needed (first_at block k)) in
      let m' = le-max_right 1 (needed (first_at block k)) in
      (omega arith, omega arith)

  -- a count needs what its text needs
  pub count_need_lem : 10 ≤ kind_at block k → needed (first_at block k) ≡ needed k
  count_need_lem q = of_count (need_node needs) block k (kind_at block k) refl q ∙ sym (w.each k (omega arith))

  module _ (q : 6 ≤ kind_at block k) (q' : kind_at block k < 10) (x y : ℕ) (ex : x ≡ first_at block k) (ey : y ≡ second_at block k) where
    two_need : needed k ≡ more (needed x) (needed y)
    two_need = w.each k (omega arith) ∙ sym (of_two (need_node needs) block k (kind_at block k) refl q q') ∙ rw (ex, ey)

    pub right_first : needed x < needed y → (needed y ≤ needed k) × (needed x < needed k)
    right_first z = let m = less_more (needed x) (needed y) z in let n = two_need in (omega arith, omega arith)

    pub left_first : needed y ≤ needed x → (needed x ≤ needed k) × (needed y < needed k)
    left_first z = let m = least_more (needed x) (needed y) z in let n = two_need in (omega arith, omega arith)

-- the operand of "not", "next", F or G is below it and needs no more pairs; it needs one itself
pub operand : (block needs : List ℕ) (k x : ℕ) → Ordered block (k + 1) → Needs block needs (k + 1) → 2 ≤ kind_at block k → kind_at block k < 6
    → x ≡ first_at block k → (x < k) × (get_or needs x 0 ≤ get_or needs k 0) × (0 < get_or needs k 0)
operand block needs k x o n more less e =
    let low = first_low block k o more in
    let need = one_need block needs k n more less in
    (omega (arith, e, low), subst (λ (i : ℕ). get_or needs i 0 ≤ get_or needs k 0) (sym e) need.0, need.1)
