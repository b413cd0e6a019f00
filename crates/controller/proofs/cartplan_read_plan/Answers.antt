use Rattle.std.proofs.Common.{◌≡◌, ap, ◌∙◌, rules}
use Rattle.refusal.specs.Codes.{code_of}
use Rattle.refusal.specs.Results.{checked}
use Rattle.controller.specs.Told.{plan_read_lem}
use Rattle.controller.proofs.cartplan_read_plan.Goals as goal

pub returns : goal.returns
returns c = let r = c.read.ensures in
    let same : checked c.map.result ≡ checked c.read.result = search rules in
    plan_read_lem _ _ _ r r.numbers _ (c.code_of.ensures ∙ ap code_of (c.into.ensures ∙ same))
