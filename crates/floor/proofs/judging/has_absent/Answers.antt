use Prim.Native.Nat.{ℕ, ◌^◌}
use native.Mathlib.Omega.{arith}
use mathlib.Core.Path.{sym, ap}
use lib.Dec.{leb}
use lib.Pow.{pow_mono}
use borrow.Author.Tests.{lt-leb}
use Rattle.floor.proofs.judging.has_absent.Goals as goal

pub returns-then-carts-ge32 : goal.returns-then-carts-ge32
returns-then-carts-ge32 c = let a = c.args in
    sym (lt-leb (2 ^ a.carts) a.word (omega (arith, pow_mono {i = 32} {j = a.carts} c.if-carts-ge32.true)))

pub returns : goal.returns
returns c = let a = c.args in
    rw c.from.ensures (ap (λ (x : ℕ). leb x a.word) (omega (arith, pow_mono {i = a.carts} {j = 32} (omega arith))))
