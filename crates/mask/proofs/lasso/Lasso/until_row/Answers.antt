use native.Mathlib.Omega.{arith}
use Rattle.mask.proofs.Doubling.{begun, onward, ended}
use Rattle.mask.proofs.lasso.Lasso.until_row.Goals as goal

pub loop-w-init : goal.loop-w-init
loop-w-init c = let a = c.args in
    begun a.self.h a.b c.complement-gap.result (omega arith) c.complement-gap.ensures.low

pub loop-w-preserved : goal.loop-w-preserved
loop-w-preserved c = let a = c.args in
    let v = c.loop-w in
    onward a.self.h a.b c.complement-gap.result v.r v.gap v.w v.invariant

pub returns : goal.returns
returns c = let a = c.args in
    let v = c.loop-w in
    let g = c.complement-gap in
    ended a.self.h a.self.l a.a a.b g.result v.r v.gap v.w c.turned.result (omega arith) (omega arith) g.ensures v.invariant
    c.loop-w-test.false c.turned.ensures
