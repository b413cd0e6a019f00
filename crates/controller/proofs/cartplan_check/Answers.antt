use Rattle.std.proofs.Common.{ap, ◌∙◌}
use Rattle.refusal.specs.Codes.{code_of}
use Rattle.controller.specs.Told.{plan_checked}
use Rattle.controller.proofs.cartplan_check.Goals as goal

pub returns : goal.returns
returns c = plan_checked _ _ _ _ c.check.ensures c.check.ensures.numbers _ (c.code_of.ensures ∙ ap code_of c.into.ensures)
