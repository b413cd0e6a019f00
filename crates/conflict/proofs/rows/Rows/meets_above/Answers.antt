use Rattle.std.proofs.Common.{◌+◌, sym}
use Rattle.conflict.proofs.Tracking.{follows}
use Rattle.conflict.proofs.Finding.{going, no_exchange, by_column}
use Rattle.conflict.proofs.rows.Rows.meets_above.Goals as goal

pub returns-then-self-q-eq0 : goal.returns-then-self-q-eq0
returns-then-self-q-eq0 c = let r = c.args.self.now in
    no_exchange
    (going r.bays.now r.block.now c.args.last.now r.carts r.head c.args.a c.args.v c.place_on-p.result c.place_on-q.result
    r.head_in_range.stem c.requires.a_lt_carts c.requires.latest_above c.requires.sv_value.0 c.next_step.ensures
    c.place_on-p.ensures.0 c.place_on-q.ensures.0 c.if-self-p-eq0.false (sym c.if-is_near.ensures))
    c.if-self-q-eq0.true

pub returns : goal.returns
returns c = let r = c.args.self.now in
    by_column
    (going r.bays.now r.block.now c.args.last.now r.carts r.head c.args.a c.args.v c.place_on-p.result c.place_on-q.result
    r.head_in_range.stem c.requires.a_lt_carts c.requires.latest_above c.requires.sv_value.0 c.next_step.ensures
    c.place_on-p.ensures.0 c.place_on-q.ensures.0 c.if-self-p-eq0.false (sym c.if-is_near.ensures))
    c.args.sw c.next_step-2.result c.requires.sv_value.1
    (follows r.head r.head_in_range.stem (c.args.v + r.head.drift) c.requires.sv_value.1 c.next_step-2.ensures)
    c.if-self-q-eq0.false c.exchanged.result c.exchanged.ensures
