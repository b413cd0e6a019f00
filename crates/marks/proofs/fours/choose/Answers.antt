use Rattle.marks.proofs.Turning.{choose_bits}
use Rattle.marks.proofs.fours.choose.Goals as goal

pub returns : goal.returns
returns c = let a = c.args in choose_bits a.m a.x a.y
