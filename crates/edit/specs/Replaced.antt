-- "Replacing a row".
use Rattle.std.specs.Prelude.{ℕ, cond, List, leb, set, Result, Ok, Err}
use Rattle.refusal.specs.Results.{told}
use Rattle.refusal.specs.Codes.{refused}
use Rattle.refusal.specs.Stages.{is_accepted, and_then}
use Rattle.refusal.specs.Outcome.{Outcome, unchanged}
use Rattle.refusal.specs.declared.Verdict.{Verdict}
use Rattle.refusal.specs.declared.Verdict.TheVariants.{Accepted, Plan as AboutPlan}
use Rattle.record.specs.Buffer.{stored}
use Rattle.floor.specs.declared.Floor.{Floor}
use Rattle.plan.specs.Plan.{PlanNumbers, judged_row}
use Rattle.plan.specs.Numbers.{row_at}
use Rattle.plan.specs.After.{after_reading}
use Rattle.plan.specs.declared.Head.{Head}
use Rattle.moves.specs.Carts.{cart_verdict, moves_verdict}
use Rattle.plan.specs.declared.RowFault.TheVariants.{Absent, WrongLength}
use Rattle.plan.specs.declared.RowFault.{RowFault}

-- the plan with another row for cart c
abbrev pub replaced : ℕ → List ℕ → PlanNumbers → PlanNumbers
replaced c row p = record { head = p.head; rows = set p.rows c row }

-- "4 length not h (0, 0), 9 (cart, lowest step)"
abbrev pub places_verdict : ℕ → Result (Unit {0}) RowFault → Verdict
places_verdict c (Ok tt) = Accepted
places_verdict c (Err WrongLength) = AboutPlan (refused 4 0 0)
places_verdict c (Err (Absent s)) = AboutPlan (refused 9 c s)

-- a row for cart c: 4 and 9, then 10 and 11
abbrev pub new_row_verdict : List ℕ → Floor → Head → ℕ → List ℕ → Verdict
new_row_verdict floor f h c row = and_then (places_verdict c (judged_row row h.steps f.places)) (cart_verdict floor c row h.steps h.stem)

-- "19 no such cart (cart, 0)", carts being numbered from 0
abbrev pub cart_row_verdict : List ℕ → Floor → PlanNumbers → ℕ → List ℕ → Verdict
cart_row_verdict floor f p c row = cond (leb f.carts c) (AboutPlan (refused 19 c 0)) (new_row_verdict floor f p.head c row)

-- the moves of all carts, then the new row
abbrev pub replace_verdict : List ℕ → Floor → PlanNumbers → ℕ → List ℕ → Verdict
replace_verdict floor f p c row = and_then (moves_verdict floor f p) (cart_row_verdict floor f p c row)

-- "Otherwise only that row's bytes change."
abbrev pub replaced_in : List ℕ → ℕ → ℕ → List ℕ → Verdict → Outcome
replaced_in plan steps c row v = record { answer = v; out = cond (is_accepted v) (stored plan (row_at steps c) row) plan }

-- "floor, plan and its moves; 19 .., 4 .., 9 .., 10, 11"
unfoldable pub replace_row : List ℕ → List ℕ → ℕ → List ℕ → Outcome
replace_row floor plan c row =
    after_reading (λ e. unchanged (told e) plan) (λ f p. replaced_in plan p.head.steps c row (replace_verdict floor f p c row)) floor plan
