use native.Mathlib.Omega.{arith}
use Rattle.grammar.specs.Nodes.{mark_n}
use Rattle.std.proofs.lemmas.Result.{err_from_is_err_and}
use Rattle.token.proofs.Words.{refused_leaf, placed_leaf, mark_off, mark_bad, mark_spent, mark_wide, mark_read}
use Rattle.token.proofs.leaves.mark.Goals as goal

pub returns-then-s-i-ne109 : goal.returns-then-s-i-ne109
returns-then-s-i-ne109 c = let a = c.args in
    refused_leaf mark_n a.s.now a.p.n a.p.left _ _ 13 _ _ c.refused.ensures (λ z. omega arith) (omega (arith, c.requires.0))
    (mark_off a.s.now a.p.left a.p.at c.requires.0 c.if-s-i-ne109.true)

pub returns-in_err-k : goal.returns-in_err-k
returns-in_err-k c = let a = c.args in
    let k = c.in_err-k in
    let p = err_from_is_err_and c.from_residual.result c.from_residual.ensures.1 in
    rw (p.1, p.2)
    (mark_bad a.s.now a.p.left a.p.at c.requires.0 c.if-s-i-ne109.false _ k.ensures.value (k.ensures.inside (omega (arith, c.requires.0))) a.p.n a.nodes.now)

pub returns-then-p-eq0 : goal.returns-then-p-eq0
returns-then-p-eq0 c = let a = c.args in
    refused_leaf mark_n a.s.now a.p.n a.p.left _ _ 14 _ _ c.refused-then-p-eq0.ensures (λ z. omega arith) (omega (arith, c.requires.0))
    (mark_spent a.s.now a.p.left a.p.at c.requires.0 c.if-s-i-ne109.false _ c.in_ok-k.ensures.value c.if-p-eq0.true)

pub returns-then-k-gt31 : goal.returns-then-k-gt31
returns-then-k-gt31 c = let a = c.args in
    refused_leaf mark_n a.s.now a.p.n a.p.left _ _ 15 _ _ c.refused-then-k-gt31.ensures (λ z. omega arith) (omega (arith, c.requires.0))
    (mark_wide a.s.now a.p.left a.p.at c.requires.0 c.if-s-i-ne109.false _ c.in_ok-k.ensures.value
    (omega (arith, c.if-p-eq0.false)) (omega (arith, c.if-k-gt31.true)))

pub returns : goal.returns
returns c = let a = c.args in
    placed_leaf mark_n a.s.now a.p.n a.p.left _ _ _ _ _ _ c.alone.ensures.value (omega (arith, c.if-p-eq0.false))
    (c.in_ok-k.ensures.inside (omega (arith, c.requires.0))) c.alone.ensures.nodes_after
    (mark_read a.s.now a.p.left a.p.at c.requires.0 c.if-s-i-ne109.false _ c.in_ok-k.ensures.value
    (omega (arith, c.if-p-eq0.false)) (omega (arith, c.if-k-gt31.false)))
