use Prim.Native.Nat.{◌^◌}
use mathlib.Core.Path.{◌≡◌}
use native.Mathlib.Omega.{arith}
use lib.Pow.{pow_mono}
use Rattle.table.specs.Storing.{begun, upward}
use Rattle.quorum.specs.OwnNumber.{own}
use Rattle.quorum.proofs.fill_bits.Goals as goal

pub loop-j-init : goal.loop-j-init
loop-j-init c = begun (λ j x. x ≡ 2 ^ j) 0 0 c.args.bits.now

pub loop-j-preserved : goal.loop-j-preserved
loop-j-preserved c = let v = c.loop-j in
    let room = pow_mono {i = v.j} {j = 31} (omega arith) in
    upward (λ j x. x ≡ 2 ^ j) 0 0 v.j _ _ c.args.bits.now v.bits v.invariant (omega arith) (omega arith) (omega arith) (omega (arith, room))

pub returns : goal.returns
returns c = let v = c.loop-j in
    record {
      size = omega arith;
      each = λ j p. own (λ j x. x ≡ 2 ^ j) 0 v.j c.args.bits.now v.bits v.invariant j (omega arith) (omega arith);
    }
