use Rattle.clause.proofs.Walking.{end_begin, end_again, end_here, end_end}
use native.Mathlib.Omega.{arith}
use Rattle.clause.proofs.line_end.Goals as goal

pub loop-i-init : goal.loop-i-init
loop-i-init c = (end_begin _ _, omega arith)

pub returns-then-s-i-eq10 : goal.returns-then-s-i-eq10
returns-then-s-i-eq10 c = end_here _ _ _ c.loop-i.invariant.0 c.loop-i-test.true c.if-s-i-eq10.true

pub loop-i-preserved : goal.loop-i-preserved
loop-i-preserved c = (end_again _ _ _ c.loop-i.invariant.0 c.loop-i-test.true c.if-s-i-eq10.false, omega arith)

pub returns : goal.returns
returns c =
    let e = end_end _ _ _ c.loop-i.invariant.0 c.loop-i-test.false in
    omega (arith, e, c.max.ensures)
