use native.Mathlib.Omega.{arith}
use Rattle.drift.specs.Off.{off_here, off_later, off_none}
use Rattle.drift.proofs.refused.lowest_off.Goals as goal

pub returns-then-a-s-eq0 : goal.returns-then-a-s-eq0
returns-then-a-s-eq0 c =
    let v = c.loop-s in
    (off_here c.args.a c.args.h v.s v.invariant (omega arith) c.if-a-s-eq0.true, omega arith)

pub loop-s-preserved : goal.loop-s-preserved
loop-s-preserved c =
    let v = c.loop-s in
    off_later c.args.a c.args.h v.s v.invariant (omega arith) c.if-a-s-eq0.false

pub returns : goal.returns
returns c =
    let v = c.loop-s in
    (off_none c.args.a c.args.h v.s v.invariant (omega arith) (omega arith), omega arith)
