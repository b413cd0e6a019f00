use Prim.Native.Nat.{◌+◌}
use mathlib.Core.Path.{refl}
use native.Mathlib.Omega.{arith}
use lib.ListN.{get_or}
use Rattle.table.specs.Storing.{begun, upward, ended}
use Rattle.quorum.proofs.Unrolling.{carts_of}
use Rattle.quorum.proofs.words.unroll.Invariants.{Each}
use Rattle.quorum.proofs.words.unroll.Goals as goal

pub loop-s-init : goal.loop-s-init
loop-s-init c = let a = c.args in
    begun (Each a.t.now a.at a.p a.who) 0 0 a.w.now

pub loop-s-preserved : goal.loop-s-preserved
loop-s-preserved c = let a = c.args in
    let v = c.loop-s in
    let word = carts_of a.who (get_or a.t.now (a.at + v.s) 0) _ v.s a.p _ (λ i. refl) c.flip-flip.ensures in
    upward (Each a.t.now a.at a.p a.who) 0 0 v.s _ _ a.w.now v.w v.invariant (omega arith) (omega arith) (omega arith) word

pub returns : goal.returns
returns c = ended (omega arith) c.loop-s.invariant
