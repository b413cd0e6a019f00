use native.Mathlib.Omega.{arith}
use Rattle.marks.proofs.Turning.{upper_bits}
use Rattle.marks.proofs.fours.upper.Goals as goal

pub returns : goal.returns
returns c = let a = c.args in upper_bits a.a a.b _ _ _ _ c.choose.ensures (omega arith)
