use Rattle.std.proofs.Common.{length, sym, ap, subst, ◌∙◌, add-one, not, arith}
use Rattle.row.specs.Round.{next_below}
use Rattle.row.specs.Judged.{open_all, elsewhere}
use Rattle.row.specs.Moves.{lanes_in}
use Rattle.row.proofs.Judging.{Judging, begun, shut, onward}
use Rattle.row.proofs.lanes.Lanes.judge_moves.Goals as goal

pub returns-then-row-start : goal.returns-then-row-start
returns-then-row-start c = let a = c.args in
    sym (elsewhere (lanes_in a.self.now.floor.now) a.class a.row.now (length a.row.now) a.stem a.start c.if-row-start.true)

pub loop-i-init : goal.loop-i-init
loop-i-init c = let a = c.args in
    begun (lanes_in a.self.now.floor.now) a.class a.start a.row.now a.stem c.if-row-start.false

pub bounds-row-next_step : goal.bounds-row-next_step
bounds-row-next_step c = omega (arith, next_below _ _ c.requires.stem_in_bounds c.loop-i.i)

pub returns-then-not-is_open : goal.returns-then-not-is_open
returns-then-not-is_open c = let a = c.args in
    let l = c.loop-i in
    shut (lanes_in a.self.now.floor.now) a.class a.start a.row.now a.stem l.i l.invariant (omega arith) c.next_step.result
    c.next_step.ensures c.is_open.result c.is_open.ensures (ap not c.if-not-is_open.true)

pub loop-i-preserved : goal.loop-i-preserved
loop-i-preserved c = let a = c.args in
    let l = c.loop-i in
    let w =
    onward (lanes_in a.self.now.floor.now) a.class a.start a.row.now a.stem l.i l.invariant (omega arith) c.next_step.result
    c.next_step.ensures c.is_open.result c.is_open.ensures (ap not c.if-not-is_open.false) in
    subst (Judging (lanes_in a.self.now.floor.now) a.class a.start a.row.now a.stem) (sym (add-one l.i)) w

pub returns : goal.returns
returns c = let a = c.args in
    sym (c.loop-i.invariant.same ∙ open_all (lanes_in a.self.now.floor.now) a.class a.row.now (length a.row.now) a.stem c.loop-i.i (omega arith))
