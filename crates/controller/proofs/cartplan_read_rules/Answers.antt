use Rattle.std.proofs.Common.{ap, ◌∙◌}
use Rattle.refusal.specs.Codes.{code_of}
use Rattle.controller.specs.Told.{rules_read_lem}
use Rattle.controller.proofs.cartplan_read_rules.Goals as goal

pub returns : goal.returns
returns c = rules_read_lem _ _ c.read.ensures c.read.ensures.numbers _ (c.code_of.ensures ∙ ap code_of c.into.ensures)
