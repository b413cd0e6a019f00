-- What an operation does once floor and plan are read.
use Rattle.std.specs.Prelude.{ℕ, ◌≡◌, List, Ok}
use Rattle.refusal.specs.declared.Refused.{Refused}
use Rattle.floor.specs.Floor.{read_floor}
use Rattle.floor.specs.declared.Floor.{Floor}
use Rattle.plan.specs.Plan.{PlanNumbers, accepted, read_plan, after_floor}

-- "floor and plan as for reading": their refusal, or what is done with the floor and the plan's numbers
unfoldable pub after_reading : {A : Type 0} → (Refused → A) → (Floor → PlanNumbers → A) → List ℕ → List ℕ → A
after_reading refuse go floor s = after_floor refuse go (read_floor floor) s

-- floor and plan are read as these
pub record ReadAs (floor s : List ℕ) (f : Floor) (n : PlanNumbers) : Type 0 where
  pub floor_read : read_floor floor ≡ Ok f
  pub plan_read_lem : read_plan f s ≡ accepted n
