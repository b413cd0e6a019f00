use Prim.Native.Nat.{ℕ, ◌/◌}
use mathlib.Core.Path.{ap, ◌∙◌}
use mathlib.Core.Bool.{Bool, cond}
use lib.Dec.{eqb}
use lib.Count.{ones}
use Rattle.cltl.specs.Threshold.{threshold, quota}
use Rattle.drift.specs.Tree.{third_at}
use Rattle.drift.specs.Carts.{size_is, asked_is}
use Rattle.drift.proofs.counts.asked_at.Goals as goal

pub returns : goal.returns
returns c = let s = c in
    let a = s.args in
    let size = c.size_of-size in
    let o = c.over_at.ensures.0 in
    let number = c.number_at in
    λ P t all is.
    asked_is P t a.nodes.now a.k a.p size.result number.result _
    (size.ensures.0 ∙ ap (λ (o : ℕ). cond (eqb o 0) a.carts (ones a.who)) o
    ∙ size_is P a.who a.carts (third_at a.nodes.now a.k / 4) s.requires.2 all is)
    number.ensures.0
    (c.quota.ensures ∙ ap (λ (m : ℕ). quota a.p m size.result) (c.threshold.ensures
    ∙ ap (λ (b : Bool). threshold number.result b size.result) c.percent_at-percent.ensures))
