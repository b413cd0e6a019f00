-- A plan that was read for a floor: what judging it rests on, and what its clauses are judged to be.
use Rattle.std.specs.Prelude.{ℕ, ◌<◌, List}
use Rattle.refusal.specs.declared.Verdict.{Verdict}
use Rattle.floor.specs.Promises.{AcceptedFloor}
use Rattle.plan.specs.Plan.{PlanNumbers, place_on_step, held_numbers}
use Rattle.plan.specs.Valid.{HeadInRange}
use Rattle.plan.specs.declared.PlanRead.{PlanRead}
use Rattle.grammar.specs.Reader.{read_sheet}
use Rattle.cltl.specs.Meaning.{Rows}
use Rattle.plancheck.specs.Check.{plan_rows, clauses_of, clauses_verdict}

-- the numbers that it holds
abbrev pub held : PlanRead → PlanNumbers
held r = held_numbers r.floor.carts r.plan.head r.plan.block

-- its rows
abbrev pub rows_read : List ℕ → PlanRead → Rows
rows_read floor r = plan_rows floor r.floor (held r)

pub record Readable (floor : List ℕ) (r : PlanRead) : Type 0 where
  pub accepted_floor : AcceptedFloor floor r.floor
  pub head_in_range : HeadInRange r.plan.head
  pub on_floor : (c s : ℕ) → c < r.floor.carts → s < r.plan.head.steps → place_on_step (held r) c s < r.floor.places

-- the verdict on a sheet's clauses
abbrev pub clauses_read : List ℕ → PlanRead → List ℕ → Verdict
clauses_read floor r sheet = clauses_verdict (rows_read floor r) r.plan.head.drift r.floor.groups (clauses_of (read_sheet sheet))
