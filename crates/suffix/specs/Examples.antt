-- Worked cases of document 02, 7): clauses at the start of a moved plan, by computation.
use Rattle.std.specs.Prelude.{ℕ, ◌<◌, ◌≡◌, refl, Bool, true, false}
use Rattle.std.proofs.Common.{arith}
use mathlib.Core.List.{List, [], ◌∷◌, flatten}
use Rattle.endian.specs.Little.{value}
use Rattle.record.specs.Record.{split, records_in}
use Rattle.floor.specs.Numbers.{bodies_of}
use Rattle.floor.specs.declared.Floor.{Floor}
use Rattle.plan.specs.Plan.{PlanNumbers}
use Rattle.plan.specs.Numbers.{head_of}
use Rattle.row.specs.Lasso.{next_step, step_of}
use Rattle.grammar.specs.Grammar.{leaf, next, until, release, ev, gl, Inner, fleet, group, amount, counted, Clause}
use Rattle.edit.specs.Moved.{moved_row, moved_head, moved}
use Rattle.cltl.specs.Counting.{tally, every}
use Rattle.cltl.specs.Threshold.{threshold, quota}
use Rattle.cltl.specs.Meaning.{Rows, Proper, TrueInStep}
use Rattle.cltl.specs.Rules.{fix, window, quorum, judge, leaves, mark, inner, count, slack, some_text, same_carts, all_over, uniform, joint, joined, rules}
use Rattle.cltl.specs.Suffix.{TrueOnStep}
use Rattle.cltl.proofs.Promises.{in_step, in_step_at}
use Rattle.plancheck.specs.Check.{plan_rows}

-- place 0 with m0 only, place 1 with m1 only, two carts; group 0 is cart 1
abbrev floor : List ℕ
floor =
    4 ∷ 0 ∷ 1 ∷ 0 ∷ 1 ∷ 0 ∷ 0 ∷ 0 ∷
    4 ∷ 0 ∷ 1 ∷ 0 ∷ 2 ∷ 0 ∷ 0 ∷ 0 ∷
    2 ∷ 0 ∷ 3 ∷ 0 ∷ 0 ∷ 0 ∷
    2 ∷ 0 ∷ 3 ∷ 0 ∷ 0 ∷ 0 ∷
    4 ∷ 0 ∷ 7 ∷ 0 ∷ 2 ∷ 0 ∷ 0 ∷ 0 ∷ []

abbrev sizes : Floor
sizes = record { places = 2; lanes = 0; carts = 2; narrow = 0; groups = 1 }

-- document 01's rows with the lap from step 1 on, drift 3: on place 1 are none at step 0, then one cart, both, and one
abbrev plan : PlanNumbers
plan = record { head = head_of 4 1 3; rows = (0 ∷ 1 ∷ 1 ∷ 0 ∷ []) ∷ (0 ∷ 0 ∷ 1 ∷ 1 ∷ []) ∷ [] }

abbrev rows_of : PlanNumbers → Rows
rows_of p = plan_rows floor sizes p

-- `[a,m]` and `[mk,m]`; `[mk,p%]`; `[a,1@0]` and `[mk,p%@0]`
abbrev inside : Inner → ℕ → Clause
inside a m = leaf (counted a (amount m false fleet))

abbrev on : ℕ → ℕ → Clause
on k m = inside (leaf k) m

abbrev share : ℕ → ℕ → Clause
share k p = leaf (counted (leaf k) (amount p true fleet))

abbrev grouped : Inner → Clause
grouped a = leaf (counted a (amount 1 false (group 0)))

abbrev group_share : ℕ → ℕ → Clause
group_share k p = leaf (counted (leaf k) (amount p true (group 0)))

-- the definitions that the table computes with, under one name
computing : ℕ → Clause → Bool
unfolding
    flatten value split records_in bodies_of moved_row moved_head next_step step_of
    threshold quota tally every fix window quorum leaves judge mark inner count slack some_text same_carts all_over uniform joint joined rules
computing s c = rules (rows_of (moved s plan)) 0 c 0

-- what the rules say without drift at the start of the plan moved on by s
abbrev starts : ℕ → Clause → Bool
starts s c = rules (rows_of (moved s plan)) 0 c 0

pub worked :
    (starts 0 (on 0 2) ≡ true)
    -- by l: no step of the lap is passed over
    × (starts 1 (on 1 1) ≡ true)
    × (starts 1 (on 1 2) ≡ false)
    -- into the lap, and not what was true at the plan's own start
    × (starts 2 (on 1 2) ≡ true)
    × (starts 2 (on 0 2) ≡ false)
    -- "next" goes round the lap, not to step 0
    × (starts 3 (next (on 1 1)) ≡ true)
    × (starts 3 (next (on 0 2)) ≡ false)
    -- the run-in does not come again
    × (starts 0 (ev (on 0 2)) ≡ true)
    × (starts 1 (ev (on 0 2)) ≡ false)
    -- a lap later, and far beyond: 65,535 − 1 is 21,844 laps of 3 and 2
    × (starts 4 (on 1 2) ≡ false)
    × (starts 4 (next (on 1 2)) ≡ true)
    × (starts 65535 (on 1 2) ≡ false)
    × (starts 65535 (next (on 1 2)) ≡ false)
    × (starts 65535 (next (next (on 1 2))) ≡ true)
    -- G, R and U over the lap alone, and over the run-in too
    × (starts 1 (gl (on 1 1)) ≡ true)
    × (starts 0 (gl (on 1 1)) ≡ false)
    × (starts 1 (release (on 0 2) (on 1 1)) ≡ true)
    × (starts 0 (release (on 0 2) (on 1 1)) ≡ false)
    × (starts 2 (until (on 1 2) (on 0 1)) ≡ true)
    × (starts 1 (until (on 1 1) (on 0 2)) ≡ false)
    -- a group, percentages, and "next" inside a count
    × (starts 3 (grouped (leaf 1)) ≡ true)
    × (starts 1 (grouped (leaf 1)) ≡ false)
    × (starts 3 (group_share 1 100) ≡ true)
    × (starts 3 (share 1 50) ≡ true)
    × (starts 3 (share 1 100) ≡ false)
    × (starts 3 (inside (next (leaf 1)) 1) ≡ true)
    × (starts 3 (grouped (next (leaf 1))) ≡ false)
    × (starts 1 (inside (next (leaf 1)) 2) ≡ true)
    -- moved on again, where no run-in is left
    × (rules (rows_of (moved 1 (moved 1 plan))) 0 (on 1 2) 0 ≡ true)
    × (rules (rows_of (moved 2 (moved 3 plan))) 0 (on 1 2) 0 ≡ true)
    × (rules (rows_of (moved 0 (moved 3 plan))) 0 (next (on 1 1)) 0 ≡ true)
unfolding computing
worked = (
  refl,
  refl,
  refl,
  refl,
  refl,
  refl,
  refl,
  refl,
  refl,
  refl,
  refl,
  refl,
  refl,
  refl,
  refl,
  refl,
  refl,
  refl,
  refl,
  refl,
  refl,
  refl,
  refl,
  refl,
  refl,
  refl,
  refl,
  refl,
  refl,
  refl,
  refl,
)

proper : (s : ℕ) → (moved s plan).head.stem < (moved s plan).head.steps → Proper (rows_of (moved s plan))
proper s lap = record { some = omega arith; lap = lap }

-- `[m1,2]` is true in step at the start of the plan moved on by 2, as at the step of counter 2, and not at moment 0 of the plan
pub meant : TrueInStep (rows_of (moved 2 plan)) (on 1 2) × TrueOnStep (rows_of plan) 2 (on 1 2) × (TrueInStep (rows_of plan) (on 1 2) → ⊥)
unfolding computing
meant = (
  (in_step (rows_of (moved 2 plan)) (proper 2 (omega arith)) (on 1 2)).0 tt,
  (in_step_at (rows_of plan) (record { some = omega arith; lap = omega arith }) (on 1 2) 2).0 tt,
  λ x. (in_step (rows_of plan) (record { some = omega arith; lap = omega arith }) (on 1 2)).1 x,
)
