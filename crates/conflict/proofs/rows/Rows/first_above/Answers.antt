use Rattle.std.proofs.Common.{suc, refl, arith}
use Rattle.conflict.specs.Table.{counter_place}
use Rattle.conflict.proofs.Tracking.{begun as none_yet}
use Rattle.conflict.proofs.Searching.{zeros, begun, entered, onward, cleared}
use Rattle.conflict.proofs.rows.Rows.first_above.Goals as goal

pub lead-sw-requires-clause-latest_above : goal.lead-sw-requires-clause-latest_above
lead-sw-requires-clause-latest_above c = let r = c.args.self.now in
    none_yet (suc c.args.a) r.carts (counter_place r.head r.block.now) _ refl (zeros 256)

pub loop-v-init : goal.loop-v-init
loop-v-init c = begun _ c.lead-sw.result (omega arith) c.lead-sw.ensures.0 c.lead-sw.ensures.1

pub meets_above-requires-clause-latest_above : goal.meets_above-requires-clause-latest_above
meets_above-requires-clause-latest_above c = entered c.loop-v.invariant _ _ (omega arith) c.enter.ensures

pub loop-v-preserved : goal.loop-v-preserved
loop-v-preserved c = let w = c.loop-v.invariant in
    let m = c.meets_above in
    onward w m.result m.ensures c.if-meets_above.false (omega arith) _ _ _
    (entered w _ _ (omega arith) c.enter.ensures) c.next_step-sw.ensures c.next_step-sv.ensures

pub returns : goal.returns
returns c = cleared c.loop-v.invariant (omega arith)
