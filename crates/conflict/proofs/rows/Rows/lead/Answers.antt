use Rattle.std.proofs.Common.{◌+◌, arith, sym, add-one}
use Rattle.row.specs.Round.{step_low}
use Rattle.conflict.proofs.Tracking.{follows_next, column}
use Rattle.conflict.proofs.rows.Rows.lead.Goals as goal

pub loop-w-init : goal.loop-w-init
loop-w-init c = let h = c.args.self.now.head in
    record { step = sym (step_low h.steps h.stem 0 (omega arith)); latest = c.requires.latest_above }

pub loop-w-preserved : goal.loop-w-preserved
loop-w-preserved c = let r = c.args.self.now in
    let l = c.loop-w in
    let t = column r.block.now r.carts r.head c.args.a l.w l.s (l.w + 1) l.last _ l.invariant.step (omega arith) c.enter.ensures l.invariant.latest in
    record { step = follows_next r.head r.head_in_range.stem l.w l.invariant.step c.next_step-s.ensures; latest = rw (add-one l.w) t }
