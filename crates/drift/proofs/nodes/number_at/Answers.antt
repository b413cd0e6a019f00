use native.Mathlib.Omega.{arith}
use Rattle.endian.specs.Little.{value}
use Rattle.drift.proofs.nodes.number_at.Goals as goal

pub returns : goal.returns
unfolding value
returns c = let a = c.from.ensures in let b = c.number16.ensures in (omega arith, omega arith)
