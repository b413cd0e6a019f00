use native.Mathlib.Omega.{arith}
use Rattle.marks.proofs.Turning.{lower_bits}
use Rattle.marks.proofs.fours.lower.Goals as goal

pub returns : goal.returns
returns c = let a = c.args in lower_bits a.a a.b _ _ _ _ c.choose.ensures (omega arith)
