use mathlib.Core.Path.{◌≡◌}
use lib.ListN.{length, drop}
use Rattle.plan.specs.Plan.{judged_places}
use Rattle.plan.proofs.rows.judge_row.Given as goal

abbrev pub invariant-loop-step : goal.invariant-loop-step
invariant-loop-step l = (length l.body ≡ l.steps) × (judged_places l.places 0 l.body ≡ judged_places l.places l.step (drop l.step l.body))
