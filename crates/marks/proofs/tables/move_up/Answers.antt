use Prim.Native.Nat.{◌+◌, ◌*◌}
use native.Mathlib.Omega.{arith}
use Rattle.table.specs.Storing.{begun, upward, ended}
use Rattle.marks.specs.Tables.{MovedUp}
use Rattle.marks.proofs.tables.move_up.Goals as goal

pub loop-s-init : goal.loop-s-init
loop-s-init c = let a = c.args in
    begun (MovedUp a.t.now a.h a.words.now a.k) (a.k * a.h) 0 a.t.now

pub overflow_mul-t : goal.overflow_mul-t
overflow_mul-t c = let at = c.args.k * c.args.h + c.loop-s.s in
    omega (arith, c.loop-s.invariant.above at (omega arith), c.requires.each c.loop-s.s (omega arith))

pub overflow_add-t-in-loop-s : goal.overflow_add-t-in-loop-s
overflow_add-t-in-loop-s c = let at = c.args.k * c.args.h + c.loop-s.s in
    omega (arith, c.loop-s.invariant.above at (omega arith), c.requires.each c.loop-s.s (omega arith))

pub loop-s-preserved : goal.loop-s-preserved
loop-s-preserved c = let a = c.args in
    let v = c.loop-s in
    let same = v.invariant.above (a.k * a.h + v.s) (omega arith) in
    upward (MovedUp a.t.now a.h a.words.now a.k) (a.k * a.h) 0 v.s _ _ a.t.now v.t v.invariant (omega arith) (omega (arith, v.invariant.kept)) (omega arith)
    (omega (arith, same))

pub returns : goal.returns
returns c = ended (omega arith) c.loop-s.invariant
