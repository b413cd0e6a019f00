use Rattle.std.proofs.Common.{ap, ◌∙◌}
use Rattle.refusal.specs.Codes.{code_of}
use Rattle.controller.specs.Told.{floor_written}
use Rattle.controller.proofs.cartplan_write_floor.Goals as goal

pub returns : goal.returns
returns c = floor_written _ _ _ _ c.write.ensures c.write.ensures.numbers _ (c.code_of.ensures ∙ ap code_of c.into.ensures)
