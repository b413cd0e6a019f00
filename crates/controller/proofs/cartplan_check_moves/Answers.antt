use Rattle.std.proofs.Common.{ap, ◌∙◌}
use Rattle.refusal.specs.Codes.{code_of}
use Rattle.controller.specs.Told.{moves_checked}
use Rattle.controller.proofs.cartplan_check_moves.Goals as goal

pub returns : goal.returns
returns c = moves_checked _ _ _ c.check.ensures c.check.ensures.numbers _ (c.code_of.ensures ∙ ap code_of c.into.ensures)
