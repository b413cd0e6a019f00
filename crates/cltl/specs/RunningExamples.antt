-- Worked cases of running counts, by computation.
use Rattle.std.specs.Prelude.{ℕ, suc, ◌+◌, ◌≡◌, refl, Bool, true, false, not, cond, ◌&&◌, eqb, leb, ltb}
use Rattle.grammar.specs.Grammar.{leaf, or, amount, fleet, counted, Clause}
use Rattle.row.specs.Lasso.{next_step, step_of}
use Rattle.cltl.specs.Threshold.{threshold, quota}
use Rattle.cltl.specs.Meaning.{Rows}
use Rattle.cltl.specs.Counting.{tally, every}
use Rattle.cltl.specs.Rules.{fix, leaves, judge, mark, inner, slack, some_text, same_carts, all_over, uniform}
use Rattle.cltl.specs.Running.{walk, lap_count, running_count, count_read, joint_read, rules_read}

-- tests of a step
abbrev always : ℕ → Bool
always s = true

abbrev but : ℕ → ℕ → Bool
but k s = not (eqb s k)

-- two carts on three steps, the lap from step 1 on: both bear m0 but cart 0 at step 0
abbrev rows : Rows
rows = record { carts = 2; h = 3; l = 1; bears = λ i s k. eqb k 0 && not (eqb i 0 && eqb s 0); member = λ g i. false }

abbrev at_least : ℕ → ℕ → Clause
at_least k m = leaf (counted (leaf k) (amount m false fleet))

-- document 002's example 3: of three carts one always bears m1, one m1 once and then m2, one always m2
abbrev three : Rows
three = record { carts = 3; h = 2; l = 1; bears = λ i s k. eqb k (cond (leb (i + s) 1) 1 2); member = λ g i. false }

-- cart 0 bears m1 and cart 1 m2, at step 0 alone
abbrev once : Rows
once = record { carts = 2; h = 2; l = 1; bears = λ i s k. eqb s 0 && eqb k (suc i); member = λ g i. false }

-- the definitions that the table computes with, under one name
computing : ℕ → Clause → ℕ → Bool
unfolding threshold quota tally every fix next_step step_of leaves judge mark inner slack some_text same_carts all_over uniform walk lap_count running_count count_read joint_read rules_read
computing d c s = rules_read rows d c s

pub worked :
    -- a lap of one step, always true, never ends: two passes that begin with 0 would make 2 of it
    (running_count 1 0 always 0 ≡ 17)
    × (lap_count 1 0 always ≡ 17)
    -- true at steps 0 and 1 of three: two in a row, then one, then none
    × (running_count 3 0 (but 2) 0 ≡ 2)
    × (running_count 3 0 (but 2) 1 ≡ 1)
    × (running_count 3 0 (but 2) 2 ≡ 0)
    -- where the text fails the count begins again: step 2 is true, but step 1 lies between, so that step 0 counts alone
    × (running_count 3 0 (but 1) 0 ≡ 1)
    -- from the last step on into the lap: steps 2 and 0, and step 1 is not
    × (running_count 3 0 (but 1) 2 ≡ 2)
    -- where the lap begins at step 1, what is true of it all never ends, whatever step 0 says; step 0 counts for itself
    × (running_count 3 1 (but 0) 2 ≡ 17)
    × (running_count 3 1 (but 0) 0 ≡ 0)
    -- true at steps 0 and 2: after either comes step 1, where it fails
    × (running_count 3 1 (but 1) 2 ≡ 1)
    × (running_count 3 1 (but 1) 0 ≡ 1)
    -- the lap's own count begins at l, not at step 0
    × (lap_count 3 1 (but 0) ≡ 17)
    × (lap_count 3 1 (but 2) ≡ 1)
    -- cut off at 17 and not before: 19, 17 and 16 in a row
    × (running_count 20 19 (but 19) 0 ≡ 17)
    × (running_count 20 19 (but 19) 2 ≡ 17)
    × (running_count 20 19 (but 19) 3 ≡ 16)
    -- so all of 17 counters, drift 16, from step 2 on and not from step 3 on
    × (ltb 16 (running_count 20 19 (but 19) 2) ≡ true)
    × (ltb 16 (running_count 20 19 (but 19) 3) ≡ false)
    × (ltb 15 (running_count 20 19 (but 19) 3) ≡ true)
    -- a lap's own count of 16 and of 17
    × (lap_count 17 0 (but 16) ≡ 16)
    × (lap_count 18 0 (but 17) ≡ 17)
    -- the rules so read: from step 1 on both carts bear m0 for ever, at step 0 only cart 1
    × (rules_read rows 16 (at_least 0 2) 1 ≡ true)
    × (rules_read rows 16 (at_least 0 1) 0 ≡ true)
    × (rules_read rows 16 (at_least 0 2) 0 ≡ false)
    -- `[m0,2] | [m1,1]` asks for more than one cart with either
    × (rules_read rows 1 (or (at_least 0 2) (at_least 1 1)) 1 ≡ true)
    × (rules_read rows 1 (or (at_least 0 2) (at_least 1 1)) 0 ≡ false)
    -- true by joining alone, and three carts are not more than three
    × (rules_read three 16 (or (at_least 1 2) (at_least 2 2)) 0 ≡ true)
    × (rules_read three 1 (or (at_least 1 2) (at_least 2 3)) 0 ≡ false)
    -- cart 1's count of m1 is 1 at step 0: above 0, and not above 1
    × (rules_read three 0 (at_least 1 2) 0 ≡ true)
    × (rules_read three 1 (at_least 1 2) 0 ≡ false)
    -- either mark at step 0, and then neither
    × (rules_read once 1 (or (at_least 1 2) (at_least 2 1)) 0 ≡ false)
unfolding computing
worked = (
  refl,
  refl,
  refl,
  refl,
  refl,
  refl,
  refl,
  refl,
  refl,
  refl,
  refl,
  refl,
  refl,
  refl,
  refl,
  refl,
  refl,
  refl,
  refl,
  refl,
  refl,
  refl,
  refl,
  refl,
  refl,
  refl,
  refl,
  refl,
  refl,
  refl,
  refl,
)
