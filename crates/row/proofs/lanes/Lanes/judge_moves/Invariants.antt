use Rattle.row.specs.Moves.{lanes_in}
use Rattle.row.proofs.Judging.{Judging}
use Rattle.row.proofs.lanes.Lanes.judge_moves.Given as goal

abbrev pub invariant-loop-i : goal.invariant-loop-i
invariant-loop-i l = Judging (lanes_in l.self.floor.now) l.class l.start l.row l.stem l.i
