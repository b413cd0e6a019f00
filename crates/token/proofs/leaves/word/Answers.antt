use Rattle.std.proofs.Common.{◌≡◌, ◌+◌, arith}
use Rattle.grammar.specs.Nodes.{top_n}
use Rattle.token.proofs.Words.{refused_leaf, placed_leaf, spelled_none, spelled_off, spelled_on, word_spent, word_read}
use Rattle.token.proofs.leaves.word.Goals as goal

pub loop-k-init : goal.loop-k-init
loop-k-init c = spelled_none c.args.s.now c.args.p.left c.args.p.at c.requires.0

pub returns-then-not-is_at : goal.returns-then-not-is_at
returns-then-not-is_at c = let a = c.args in
    let l = c.loop-k in
    refused_leaf (λ u. top_n) a.s.now a.p.n a.p.left _ _ 13 _ _ c.refused.ensures (λ z. omega arith) l.invariant.inside
    (spelled_off a.s.now a.p.left a.p.at l.k l.invariant (omega (arith, c.loop-k-test.true)) c.is_at.result c.is_at.ensures c.if-not-is_at.true)

pub loop-k-preserved : goal.loop-k-preserved
loop-k-preserved c = let a = c.args in
    let l = c.loop-k in
    spelled_on a.s.now a.p.left a.p.at l.k l.invariant (omega (arith, c.loop-k-test.true)) c.is_at.result c.is_at.ensures c.if-not-is_at.false

pub returns-then-p-eq0 : goal.returns-then-p-eq0
returns-then-p-eq0 c = let a = c.args in
    let l = c.loop-k in
    refused_leaf (λ u. top_n) a.s.now a.p.n a.p.left _ _ 14 _ _ c.refused-then-p-eq0.ensures (λ z. omega arith) (omega (arith, c.requires.0))
    (word_spent a.s.now a.p.left a.p.at l.k l.invariant (omega (arith, c.loop-k-test.false, l.auto.k-end)) c.if-p-eq0.true)

pub returns : goal.returns
returns c = let a = c.args in
    let l = c.loop-k in
    let e : l.k ≡ 3 = omega (arith, c.loop-k-test.false, l.auto.k-end) in
    placed_leaf (λ u. top_n) a.s.now a.p.n a.p.left _ _ _ tt (a.p.at + 4) _ c.alone.ensures.value
    (omega (arith, c.if-p-eq0.false)) (omega (arith, e, l.invariant.inside)) c.alone.ensures.nodes_after
    (word_read a.s.now a.p.left a.p.at l.k l.invariant e (omega (arith, c.if-p-eq0.false)))
