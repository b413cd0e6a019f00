use Prim.Native.Nat.{◌+◌}
use native.Mathlib.Nat.{mul-le-mul}
use native.Mathlib.Omega.{arith}
use Rattle.plancheck.proofs.fits.Goals as goal

pub overflow_mul-result : goal.overflow_mul-result
overflow_mul-result c = let a = c.args in omega (arith, mul-le-mul {n₁ = a.marks + 14} {m₁ = a.steps} {n₂ = 46} {m₂ = 64} (omega arith) c.requires.1)
