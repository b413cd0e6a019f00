use mathlib.Core.Path.{refl}
use native.Mathlib.Omega.{arith}
use lib.Count.{ones-le}
use Rattle.table.specs.Storing.{begun, upward, ended}
use Rattle.quorum.proofs.tallies.put_tallies.Invariants.{Each}
use Rattle.quorum.proofs.tallies.put_tallies.Goals as goal

pub loop-s-init : goal.loop-s-init
loop-s-init c = let a = c.args in
    begun (Each a.w.now a.from) a.at 0 a.tallies.now

pub overflow_cast-tallies : goal.overflow_cast-tallies
overflow_cast-tallies c = omega (arith, ones-le 32 _ (c.requires.by_index c.loop-s.s (omega arith)))

pub loop-s-preserved : goal.loop-s-preserved
loop-s-preserved c = let a = c.args in
    let v = c.loop-s in
    upward (Each a.w.now a.from) a.at 0 v.s _ _ a.tallies.now v.tallies v.invariant (omega arith) (omega arith) refl refl

pub returns : goal.returns
returns c = ended (omega arith) c.loop-s.invariant
