use Rattle.controller.specs.Told.{floor_read}
use Rattle.controller.proofs.cartplan_read_floor.Goals as goal

pub returns : goal.returns
returns c = let r = c.read.ensures in
    floor_read _ _ r r.numbers _ c.verdict_of.ensures _ c.code_of.ensures
