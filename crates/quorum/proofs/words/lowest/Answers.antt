use Prim.Native.Nat.{◌^◌, ◌≤◌}
use native.Mathlib.Omega.{arith}
use lib.Pow.{pow_mono, pow_pos}
use Rattle.quorum.proofs.words.lowest.Goals as goal

pub overflow_cast-result : goal.overflow_cast-result
overflow_cast-result c = let room : 2 ^ c.args.n ≤ 2 ^ 32 = pow_mono {i = c.args.n} {j = 32} (omega arith) in
    omega (arith, room, pow_pos c.args.n)

pub returns : goal.returns
returns c = let room : 2 ^ c.args.n ≤ 2 ^ 32 = pow_mono {i = c.args.n} {j = 32} (omega arith) in
    omega (arith, room, pow_pos c.args.n)
