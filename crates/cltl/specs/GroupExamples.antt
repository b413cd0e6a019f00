-- Worked cases of document 02, 6), by computation: counts over a group.
use Rattle.std.specs.Prelude.{ℕ, ◌+◌, ◌≡◌, refl, Bool, true, false, not, cond, ◌&&◌, ◌||◌, eqb, leb}
use Rattle.grammar.specs.Grammar.{leaf, neg, and, or, until, ev, gl, Over, fleet, group, amount, counted, Clause}
use Rattle.row.specs.Lasso.{next_step, step_of}
use Rattle.cltl.specs.Counting.{tally, every}
use Rattle.cltl.specs.Threshold.{threshold, quota}
use Rattle.cltl.specs.Meaning.{Rows, size}
use Rattle.cltl.specs.Rules.{fix, window, quorum, judge, leaves, mark, inner, count, slack, some_text, same_carts, all_over, uniform, joint, joined, rules}
use Rattle.cltl.specs.Step.{lowest, failing}

-- The carts of groups 0 to 5: cart 0, cart 1, none, carts 0 and 1, cart 0 again, all. There is no group 6.
abbrev groups : ℕ → ℕ → Bool
groups g i = (eqb g 0 && eqb i 0) || (eqb g 1 && eqb i 1) || (eqb g 3 && leb i 1) || (eqb g 4 && eqb i 0) || eqb g 5

-- two carts: m1 for cart 0 and m2 for cart 1 at step 0 alone, m3 for cart 1 and m4 for cart 0 always
abbrev two : Rows
two = record {
  carts = 2;
  h = 2;
  l = 1;
  bears = λ i s k. (eqb s 0 && eqb k (i + 1)) || (eqb i 1 && eqb k 3) || (eqb i 0 && eqb k 4);
  member = groups;
}

-- example 3 of document 002 and a fourth cart without marks: of three carts one always m1, one m1 once and then m2, one always m2; groups 0 and 2 are these
-- three, group 1 the first two, group 3 all, and group 4 none
abbrev four : Rows
four = record {
  carts = 4;
  h = 2;
  l = 1;
  bears = λ i s k. leb i 2 && eqb k (cond (leb (i + s) 1) 1 2);
  member = λ g i. (eqb g 0 && leb i 2) || (eqb g 1 && leb i 1) || (eqb g 2 && leb i 2) || eqb g 3;
}

-- `[mk,m]`, `[mk,m@g]` and `[mk,p%@g]`
abbrev plain : ℕ → ℕ → Clause
plain k m = leaf (counted (leaf k) (amount m false fleet))

abbrev of : ℕ → ℕ → ℕ → Clause
of g k m = leaf (counted (leaf k) (amount m false (group g)))

abbrev share : ℕ → ℕ → ℕ → Clause
share g k p = leaf (counted (leaf k) (amount p true (group g)))

-- `[m1 | m2,1@g]`
abbrev either : ℕ → Clause
either g = leaf (counted (or (leaf 1) (leaf 2)) (amount 1 false (group g)))

-- the definitions that the tables compute with, under one name
computing : Rows → ℕ → Clause → Bool × ℕ
unfolding
    threshold quota tally every fix window quorum next_step step_of leaves judge mark inner count slack some_text same_carts all_over uniform joint joined rules
    lowest failing
computing P d c = (rules P d c 0, failing P d c)

-- whether a clause is kept with drift d
abbrev kept : Rows → ℕ → Clause → Bool
kept P d c = rules P d c 0

pub worked :
    -- "because the hindmost cart may be outside": cart 0 has m1 at counter 0 alone
    (kept two 1 (of 0 1 1) ≡ false)
    × (kept two 0 (of 0 1 1) ≡ true)
    -- nor where the group is empty; but where it has every cart, each has m1 or m2 at counter 0 alone
    × (kept two 1 (of 2 4 1) ≡ false)
    × (kept two 1 (either 0) ≡ false)
    × (kept two 1 (either 2) ≡ false)
    × (kept two 1 (either 3) ≡ true)
    × (kept two 1 (either 5) ≡ true)
    -- "then only that group's carts are counted"
    × (kept two 1 (of 0 4 1) ≡ true)
    × (kept two 1 (of 1 4 1) ≡ false)
    × (kept two 1 (of 3 4 1) ≡ true)
    × (kept two 1 (of 4 4 1) ≡ true)
    -- "negation use[s] the group's size": ![m4,1@1] is [!m4,1@1], and ![m4,1] is [!m4,2]
    × (kept two 1 (neg (of 1 4 1)) ≡ true)
    × (kept two 1 (neg (plain 4 1)) ≡ false)
    × (kept two 1 (neg (of 0 4 1)) ≡ false)
    -- an empty group has no cart: [m4,0@2] is true and ![m4,0@2] not, ![m4,1@2] is [!m4,0@2]
    × (kept two 1 (of 2 4 0) ≡ true)
    × (kept two 1 (neg (of 2 4 0)) ≡ false)
    × (kept two 1 (neg (of 2 4 1)) ≡ true)
    -- "Percentages .. use the group's size": half of one cart is one, less is none; all of one cart, of two and of none
    × (kept two 1 (share 1 4 50) ≡ false)
    × (kept two 1 (share 1 4 49) ≡ true)
    × (kept two 1 (share 0 4 100) ≡ true)
    × (kept two 1 (share 5 4 100) ≡ false)
    × (kept two 1 (share 2 4 100) ≡ true)
    × (size four (group 0) ≡ 3)
    × (size four (group 1) ≡ 2)
    × (kept four 0 (share 0 1 67) ≡ true)
    × (kept four 0 (share 0 1 84) ≡ false)
    -- "only if all its counts are over the same carts": m3 only for cart 1, m4 only for cart 0, each asked of the other
    × (kept two 1 (or (of 0 3 1) (of 1 4 1)) ≡ false)
    × (kept two 0 (or (of 0 3 1) (of 1 4 1)) ≡ false)
    -- example 3 within its group, by the group's number, and by another number for the same carts; by plain counts; with a plain count, which is over one
    -- cart more, and with part of the group; a full group with a plain count, and the empty group with itself
    × (kept four 1 (or (of 0 1 2) (of 0 2 2)) ≡ true)
    × (kept four 1 (or (of 0 1 2) (of 2 2 2)) ≡ true)
    × (kept four 1 (or (plain 1 2) (plain 2 2)) ≡ true)
    × (kept four 1 (or (of 0 1 2) (plain 2 2)) ≡ false)
    × (kept four 1 (or (of 0 1 2) (of 1 2 2)) ≡ false)
    × (kept four 1 (or (of 3 1 2) (plain 2 2)) ≡ true)
    × (kept four 1 (or (of 4 1 1) (of 4 2 1)) ≡ false)
    -- an or of one group inside another that is not stays joined
    × (kept four 1 (or (or (of 0 1 2) (of 0 2 2)) (plain 3 4)) ≡ true)
    × (kept four 1 (or (of 0 1 2) (or (of 0 2 2) (plain 3 4))) ≡ false)
    -- what U asks for is an or too
    × (kept four 1 (until (of 0 1 2) (of 0 2 2)) ≡ true)
    × (kept four 1 (until (of 0 1 2) (of 1 2 2)) ≡ false)
    -- a negated and is an or of negated counts: the three carts of the group are each off m1 or off m2
    × (kept four 1 (neg (and (of 0 1 2) (of 0 2 2))) ≡ true)
    × (kept four 1 (neg (and (of 0 1 2) (of 1 2 1))) ≡ false)
    -- the step of 17
    × (failing two 1 (gl (of 0 1 1)) ≡ 0)
    × (failing two 0 (gl (of 0 1 1)) ≡ 1)
unfolding computing
worked = (
  refl,
  refl,
  refl,
  refl,
  refl,
  refl,
  refl,
  refl,
  refl,
  refl,
  refl,
  refl,
  refl,
  refl,
  refl,
  refl,
  refl,
  refl,
  refl,
  refl,
  refl,
  refl,
  refl,
  refl,
  refl,
  refl,
  refl,
  refl,
  refl,
  refl,
  refl,
  refl,
  refl,
  refl,
  refl,
  refl,
  refl,
  refl,
  refl,
  refl,
  refl,
  refl,
  refl,
)
