use native.Mathlib.Omega.{arith}
use mathlib.Core.Path.{sym, ap, ◌∙◌}
use Rattle.std.specs.Prelude.{Err}
use Rattle.plan.specs.Passed.{absent_below}
use Rattle.edit.proofs.replacing.judge_fit.Goals as goal

pub map_err-requires : goal.map_err-requires
map_err-requires c = λ e q k v w f u s z. omega (arith, absent_below _ _ _ s (sym c.judge_row.ensures ∙ q ∙ ap Err z), c.requires.head_in_range.steps)
