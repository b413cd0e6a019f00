use Rattle.std.proofs.Common.{ℕ, ◌-◌, ◌<◌, get_or, ap, ◌∙◌, arith}
use Rattle.row.proofs.FloorBytes.{file_length_lem}
use Rattle.row.proofs.Following.{first_link, none_opens, link_below, link_falls, link_opens, link_again}
use Rattle.row.proofs.lanes.Lanes.some_lane_opens.Goals as goal

pub loop-k-init : goal.loop-k-init
loop-k-init c = let l = c.args.self.now in
    first_link l.floor.now l.first.now l.next.now c.args.class c.args.from c.args.to _ l.chained (omega arith)
    (c.from-k.ensures ∙ ap (λ (i : ℕ). get_or l.first.now i 0) c.from.ensures)

pub lane_at-at-requires : goal.lane_at-at-requires
lane_at-at-requires c =
    let room : c.loop-k.k - 1 < c.args.self.now.counts.lanes = link_below _ _ _ c.args.self.now.accepted_floor _ _ _ _ c.loop-k.invariant c.loop-k-test.true in
    omega arith

pub overflow_add-at : goal.overflow_add-at
overflow_add-at c =
    let room : c.loop-k.k - 1 < c.args.self.now.counts.lanes = link_below _ _ _ c.args.self.now.accepted_floor _ _ _ _ c.loop-k.invariant c.loop-k-test.true in
    omega arith

pub overflow_add-at-in-loop-k : goal.overflow_add-at-in-loop-k
overflow_add-at-in-loop-k c =
    let room : c.loop-k.k - 1 < c.args.self.now.counts.lanes = link_below _ _ _ c.args.self.now.accepted_floor _ _ _ _ c.loop-k.invariant c.loop-k-test.true in
    omega arith

pub overflow_add-at-in-loop-k-2 : goal.overflow_add-at-in-loop-k-2
overflow_add-at-in-loop-k-2 c =
    let room : c.loop-k.k - 1 < c.args.self.now.counts.lanes = link_below _ _ _ c.args.self.now.accepted_floor _ _ _ _ c.loop-k.invariant c.loop-k-test.true in
    omega arith

pub bounds-s-at : goal.bounds-s-at
bounds-s-at c =
    let room : c.loop-k.k - 1 < c.args.self.now.counts.lanes = link_below _ _ _ c.args.self.now.accepted_floor _ _ _ _ c.loop-k.invariant c.loop-k-test.true in
    omega (arith, file_length_lem _ _ c.args.self.now.accepted_floor)

pub bounds-s-at-in-loop-k : goal.bounds-s-at-in-loop-k
bounds-s-at-in-loop-k c =
    let room : c.loop-k.k - 1 < c.args.self.now.counts.lanes = link_below _ _ _ c.args.self.now.accepted_floor _ _ _ _ c.loop-k.invariant c.loop-k-test.true in
    omega (arith, file_length_lem _ _ c.args.self.now.accepted_floor)

pub bounds-self-k : goal.bounds-self-k
bounds-self-k c =
    let room : c.loop-k.k - 1 < c.args.self.now.counts.lanes = link_below _ _ _ c.args.self.now.accepted_floor _ _ _ _ c.loop-k.invariant c.loop-k-test.true in
    omega arith

pub returns-then-opens_to : goal.returns-then-opens_to
returns-then-opens_to c =
    link_opens _ _ _ c.args.self.now.accepted_floor _ _ _ _ c.loop-k.invariant c.loop-k-test.true
    c.lane_at-at.result c.lane_at-at.ensures c.opens_to.result c.opens_to.ensures c.if-opens_to.true

pub loop-k-smaller : goal.loop-k-smaller
loop-k-smaller c = link_falls _ _ _ c.args.self.now.accepted_floor _ _ _ _ c.loop-k.invariant c.loop-k-test.true _ c.from-k-in-loop-k.ensures

pub loop-k-preserved : goal.loop-k-preserved
loop-k-preserved c =
    link_again _ _ _ c.args.self.now.accepted_floor _ _ _ _ c.loop-k.invariant c.loop-k-test.true
    c.lane_at-at.result c.lane_at-at.ensures c.opens_to.result c.opens_to.ensures c.if-opens_to.false _ c.from-k-in-loop-k.ensures

pub returns : goal.returns
returns c = none_opens _ _ _ c.args.self.now.accepted_floor _ _ _ _ c.loop-k.invariant c.loop-k-test.false
