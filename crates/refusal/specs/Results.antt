-- What an operation gives, as a verdict.
use Rattle.std.specs.Prelude.{ℕ, Result, Ok, Err}
use Rattle.refusal.specs.declared.Refused.{Refused}
use Rattle.refusal.specs.declared.Refused.TheVariants.{Floor as RefusedFloor, Plan as RefusedPlan, Rules as RefusedRules}
use Rattle.refusal.specs.declared.Verdict.{Verdict}
use Rattle.refusal.specs.declared.Verdict.TheVariants.{Accepted, Written, Floor, Plan, Rules}

-- a refusal of the file that it is about
abbrev pub told : Refused → Verdict
told (RefusedFloor r) = Floor r
told (RefusedPlan r) = Plan r
told (RefusedRules r) = Rules r

-- a check or a reading is done, or refused
abbrev pub checked : {A : Type 0} → Result A Refused → Verdict
checked (Ok a) = Accepted
checked (Err e) = told e

-- writing gives how many bytes it wrote, or is refused
abbrev pub wrote : Result ℕ Refused → Verdict
wrote (Ok n) = Written n
wrote (Err e) = told e
