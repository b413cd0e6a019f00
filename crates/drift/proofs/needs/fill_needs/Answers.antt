use Prim.Native.Nat.{ℕ, ◌+◌, ◌≤◌, ◌<◌}
use mathlib.Core.Path.{◌∙◌}
use lib.ListN.{length, length-set}
use lib.Seq.{get_or-set_other}
use Rattle.drift.specs.Needing.{needs_more, need_below, each_more}
use Rattle.drift.specs.OperatorTruth.{ordered_less}
use Rattle.drift.specs.Tree.{node_at}
use native.Mathlib.Omega.{arith}
use Rattle.drift.proofs.needs.fill_needs.Goals as goal

pub loop-k-preserved : goal.loop-k-preserved
loop-k-preserved c =
    let v = c.loop-k in
    let block = c.args.nodes.now in
    let e = c.node_need.ensures in
    let o = ordered_less block c.args.n (v.k + 1) (omega arith) c.requires.0 in
    let room : v.k < length v.needs = omega arith in
    let low = need_below v.needs v.k (node_at block v.k) (o.below v.k (omega arith)) v.invariant.below in record {
      size = length-set v.needs v.k _ ∙ v.invariant.size;
      needed = needs_more block v.needs v.k _ o v.invariant.needed room e;
      below = each_more (λ (j x : ℕ). x ≤ j) v.needs v.k _ room v.invariant.below (omega (arith, e, low));
      others = λ j q. get_or-set_other v.needs v.k j _ 0 (λ d. omega arith) ∙ v.invariant.others j (omega arith);
    }
