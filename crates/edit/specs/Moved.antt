-- "Moving on by s (0 to 65,535)".
use Rattle.std.specs.Prelude.{ℕ, ◌-◌, ◌%◌, cond, List, ◌++◌, map, leb, take, drop}
use Rattle.refusal.specs.Results.{told}
use Rattle.refusal.specs.Outcome.{Outcome, unchanged, written}
use Rattle.refusal.specs.declared.Verdict.TheVariants.{Plan as AboutPlan}
use Rattle.plan.specs.Plan.{PlanNumbers}
use Rattle.plan.specs.Numbers.{head_of, plan_file}
use Rattle.plan.specs.After.{after_reading}
use Rattle.plan.specs.declared.Head.{Head}

-- a lap turned by k: what was k steps on comes first
abbrev pub turned : ℕ → List ℕ → List ℕ
turned k lap = drop k lap ++ take k lap

-- "For s up to l the first s steps go. Beyond it l becomes 0 and the lap is turned by (s − l) mod (h − l)."
unfoldable pub moved_row : ℕ → ℕ → ℕ → List ℕ → List ℕ
moved_row h l s row = cond (leb s l) (drop s row) (turned ((s - l) % (h - l)) (drop l row))

-- for s up to l both h and l fall by s; beyond it h is the lap's length, and l is 0; "d stays"
unfoldable pub moved_head : ℕ → Head → Head
moved_head s h = cond (leb s h.stem) (head_of (h.steps - s) (h.stem - s) h.drift) (head_of (h.steps - h.stem) 0 h.drift)

abbrev pub moved : ℕ → PlanNumbers → PlanNumbers
moved s p = record { head = moved_head s p.head; rows = map (moved_row p.head.steps p.head.stem s) p.rows }

-- "floor and plan as for reading; 18 if the lent buffer is shorter than the result"; "starts aren't compared", nor lanes
unfoldable pub move_on : List ℕ → List ℕ → ℕ → List ℕ → Outcome
move_on floor plan s out = after_reading (λ e. unchanged (told e) out) (λ f p. written AboutPlan (plan_file (moved s p)) out) floor plan
