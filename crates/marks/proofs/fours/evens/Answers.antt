use native.Mathlib.Omega.{arith}
use Rattle.marks.proofs.Turning.{even_bits}
use Rattle.marks.proofs.fours.evens.Goals as goal

pub returns : goal.returns
returns c = let a = c.args in even_bits a.a a.b _ _ _ _ c.choose.ensures (omega arith)
