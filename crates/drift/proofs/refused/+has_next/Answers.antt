use Prim.Native.Nat.{ℕ, ◌+◌, ◌<◌}
use native.Mathlib.Omega.{arith}
use mathlib.Core.Path.{◌≡◌, refl, sym, subst, ◌∙◌}
use Rattle.cltl.specs.Rules.{has_next}
use Rattle.drift.specs.Tree.{clause_tree}
use Rattle.drift.specs.OperatorTruth.{ordered_less}
use Rattle.drift.specs.NodeTruth.{two_low}
use Rattle.drift.specs.Decoding.{leaf_is, number_next, same_unary, three}
use Rattle.drift.specs.Trees.{next_tells, leaf_tells, one_tells, two_tells}
use Rattle.drift.proofs.refused.+has_next.Goals as goal

pub returns-in-Next : goal.returns-in-Next
returns-in-Next t c =
    let e = rw c.in-Unary.is at c.kind_at.ensures in
    next_tells c.args.nodes.now c.args.k (number_next _ e.0 e.1 (rw c.in-Next.is at e.2))

pub returns-in_default-o : goal.returns-in_default-o
returns-in_default-o t c =
    let s = c.args in
    let e = rw c.in-Unary.is at c.kind_at.ensures in
    let a = subst (λ (x : ℕ). (n : ℕ) → x < n → c.has_next.result ≡ has_next (clause_tree s.nodes.now n x)) c.first_at.ensures c.has_next.ensures in
    let next = three _ _ c.kind_at.ensures in
    let other = c.in_default-o.not-Next in
    one_tells s.nodes.now s.k c.requires c.has_next.result a e.0 e.1 (λ q. other (same_unary _ _ (sym c.in-Unary.is ∙ next q)))

pub returns-in_default : goal.returns-in_default
returns-in_default t c =
    leaf_tells c.args.nodes.now c.args.k _ refl (leaf_is _ _ c.kind_at.ensures c.in_default.not-Unary c.in_default.not-Binary)

pub has_next-a-requires : goal.has_next-a-requires
has_next-a-requires t c =
    let a = c.args in
    let e = rw c.in-Binary.is at c.kind_at.ensures in
    let f = c.first_at-in-Binary.ensures in
    let low = two_low a.nodes.now a.k c.requires e.0 e.1 in
    (omega (arith, c.decreases), ordered_less a.nodes.now (a.k + 1) _ (omega arith) c.requires)

pub returns-in-Binary : goal.returns-in-Binary
returns-in-Binary t c =
    let s = c.args in
    let e = rw c.in-Binary.is at c.kind_at.ensures in
    let a =
    subst (λ (x : ℕ). (n : ℕ) → x < n → c.has_next-a.result ≡ has_next (clause_tree s.nodes.now n x)) c.first_at-in-Binary.ensures
    c.has_next-a.ensures in
    let b = subst (λ (x : ℕ). (n : ℕ) → x < n → c.has_next-b.result ≡ has_next (clause_tree s.nodes.now n x)) c.second_at.ensures c.has_next-b.ensures in
    two_tells s.nodes.now s.k c.requires c.has_next-a.result a c.has_next-b.result b e.0 e.1
