use native.Mathlib.Omega.{arith}
use Rattle.marks.proofs.Turning.{odd_bits}
use Rattle.marks.proofs.fours.odds.Goals as goal

pub returns : goal.returns
returns c = let a = c.args in odd_bits a.a a.b _ _ _ _ c.choose.ensures (omega arith)
