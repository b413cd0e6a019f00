use Prim.Native.Nat.{ℕ, ◌-◌, ◌/◌, ◌<◌}
use native.Mathlib.Omega.{arith}
use native.Mathlib.Numerals.{add-one}
use mathlib.Core.Path.{◌≡◌, sym, ap, ◌∙◌}
use Rattle.drift.specs.Lacking.{groups_from, first_lacked}
use Rattle.std.proofs.lemmas.Bool.Decides.{nat_tests}
use Rattle.drift.specs.Tree.{kind_at, third_at}
use Rattle.drift.specs.Lacked.{found_here, found_later, none_left}
use mathlib.Core.Bool.{true, ◌&&◌}
use lib.Dec.{ltb}
use Rattle.drift.proofs.refused.lacking_group.Goals as goal

beyond : (kind o many : ℕ) → (ltb 9 kind && ltb many o) ≡ true → many < o
beyond kind o many e = grind (arith, nat_tests)

pub returns-then-lacks : goal.returns-then-lacks
returns-then-lacks c =
    let a = c.args in
    let v = c.loop-k in
    let group : a.many < third_at a.nodes.now v.k / 4 = beyond (kind_at a.nodes.now v.k) _ a.many (sym c.lacks.ensures ∙ c.if-lacks.true) in (
      sym v.invariant ∙ found_here a.nodes.now a.many a.n v.k (omega arith) (sym c.lacks.ensures ∙ c.if-lacks.true) ∙ omega arith,
      omega arith,
    )

pub loop-k-preserved : goal.loop-k-preserved
loop-k-preserved c =
    let a = c.args in
    let v = c.loop-k in
    ap (λ (k : ℕ). first_lacked a.many (groups_from a.nodes.now (a.n - k) k)) (add-one v.k)
    ∙ sym (found_later a.nodes.now a.many a.n v.k (omega arith) (sym c.lacks.ensures ∙ c.if-lacks.false))
    ∙ v.invariant

pub returns : goal.returns
returns c =
    let a = c.args in
    let v = c.loop-k in
    sym v.invariant ∙ none_left a.nodes.now a.many a.n v.k (omega arith)
