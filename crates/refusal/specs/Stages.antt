-- Stages of a check, one after the other.
use Rattle.std.specs.Prelude.{Bool, true, false, cond}
use Rattle.refusal.specs.declared.Verdict.{Verdict}
use Rattle.refusal.specs.declared.Verdict.TheVariants.{Accepted, Written, Floor, Plan, Rules}

-- a result written is done, and no stage that another follows
abbrev pub is_accepted : Verdict → Bool
is_accepted Accepted = true
is_accepted (Written n) = false
is_accepted (Floor r) = false
is_accepted (Plan r) = false
is_accepted (Rules r) = false

-- a stage's verdict, and where it accepts that of the next stage
abbrev pub and_then : Verdict → Verdict → Verdict
and_then v next = cond (is_accepted v) next v
