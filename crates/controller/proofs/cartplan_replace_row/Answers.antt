use Rattle.std.proofs.Common.{ap, ◌∙◌}
use Rattle.refusal.specs.Codes.{code_of}
use Rattle.controller.specs.Told.{row_replaced}
use Rattle.controller.proofs.cartplan_replace_row.Goals as goal

pub returns : goal.returns
returns c = row_replaced _ _ _ _ _ _ c.replace_row.ensures c.replace_row.ensures.numbers _ (c.code_of.ensures ∙ ap code_of c.into.ensures)
