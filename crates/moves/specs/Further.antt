-- Rows that fit, and a row judged beyond the plan's.
use Rattle.std.specs.Prelude.{ℕ, ◌≤◌, ◌<◌, cond, List, eqb, length}
use Rattle.refusal.specs.Stages.{and_then}
use Rattle.refusal.specs.declared.Verdict.{Verdict}
use Rattle.refusal.specs.declared.Verdict.TheVariants.{Accepted}
use Rattle.floor.specs.declared.Floor.{Floor}
use Rattle.plan.specs.Plan.{PlanNumbers}
use Rattle.plan.specs.declared.Head.{Head}
use Rattle.moves.specs.Carts.{cart_verdict, moves_verdict}

-- the lap lies in the rows, and they in their places of the block
abbrev pub RowsFit : Head → Type 0
RowsFit h = (h.stem < h.steps) × (h.steps ≤ 64)

-- if the row has steps, cart c is one of so many, and the lap from l on lies in it
abbrev pub FurtherFits : ℕ → ℕ → List ℕ → ℕ → Type 0
FurtherFits carts c row l = 0 < length row → (c < carts) × (l < length row) × (length row ≤ 64)

-- as cart c's; a row without steps is none
abbrev pub further_verdict : List ℕ → ℕ → List ℕ → ℕ → Verdict
further_verdict floor c row l = cond (eqb (length row) 0) Accepted (cart_verdict floor c row (length row) l)

-- the moves of all carts, then the further row
abbrev pub with_further : List ℕ → Floor → PlanNumbers → ℕ → List ℕ → Verdict
with_further floor f p c row = and_then (moves_verdict floor f p) (further_verdict floor c row p.head.stem)
