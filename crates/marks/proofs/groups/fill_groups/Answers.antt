use mathlib.Core.Path.{refl}
use native.Mathlib.Omega.{arith}
use Rattle.table.specs.Storing.{begun, upward, ended}
use Rattle.marks.proofs.groups.fill_groups.Invariants.{Each}
use Rattle.marks.proofs.groups.fill_groups.Goals as goal

pub loop-o-init : goal.loop-o-init
loop-o-init c = let a = c.args in begun (Each a.fleet a.floor.now) 32 0 a.words.now

pub loop-o-preserved : goal.loop-o-preserved
loop-o-preserved c = let a = c.args in
    let v = c.loop-o in
    upward (Each a.fleet a.floor.now) 32 0 v.o _ _ a.words.now v.words v.invariant (omega arith) (omega arith) refl c.word.ensures

pub returns : goal.returns
returns c = ended (omega arith) c.loop-o.invariant
