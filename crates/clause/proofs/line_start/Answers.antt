use Rattle.clause.proofs.Walking.{start_begin, start_again, start_here, start_end}
use native.Mathlib.Omega.{arith}
use Rattle.clause.proofs.line_start.Goals as goal

pub loop-i-init : goal.loop-i-init
loop-i-init c = start_begin _ _

pub returns-then-left-eq0 : goal.returns-then-left-eq0
returns-then-left-eq0 c = start_here _ _ _ _ c.loop-i.invariant c.if-left-eq0.true

pub ends_left-left-requires : goal.ends_left-left-requires
ends_left-left-requires c = omega arith

pub loop-i-preserved : goal.loop-i-preserved
loop-i-preserved c = let t = c in
    start_again _ _ _ _ t.loop-i.invariant t.loop-i-test.true (omega arith) _ c.ends_left-left.ensures

pub returns : goal.returns
returns c =
    let e = start_end _ _ _ _ c.loop-i.invariant c.loop-i-test.false in
    omega (arith, e, c.loop-i.invariant.within, c.loop-i-test.false)
