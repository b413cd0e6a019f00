use Rattle.token.proofs.tokens.spaces.Goals as goal
-- `spaces` skips what `skip` skips. The loop's invariant: from where it stands the same is left behind the spaces. Assumes nothing.
use native.Mathlib.Omega.{arith}
use mathlib.Core.Path.{sym, ◌∙◌}
use Rattle.token.specs.Offsets.{skip_end, skip_stop, skip_on}

pub returns-then-s-i-ne32 : goal.returns-then-s-i-ne32
returns-then-s-i-ne32 c = let a = c.args in
    let v = c.loop-i in
    (sym (skip_stop a.s.now v.i (omega arith) c.if-s-i-ne32.true) ∙ v.invariant.1, v.invariant.0, v.invariant.2)

pub loop-i-preserved : goal.loop-i-preserved
loop-i-preserved c = let a = c.args in
    let v = c.loop-i in
    (omega arith, skip_on a.s.now v.i (omega arith) c.if-s-i-ne32.false ∙ v.invariant.1, λ h. omega (arith, c.loop-i-test.true))

pub returns : goal.returns
returns c = let a = c.args in
    let v = c.loop-i in
    (sym (skip_end a.s.now v.i (omega arith)) ∙ v.invariant.1, v.invariant.0, v.invariant.2)
