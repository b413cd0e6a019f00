use Rattle.moves.proofs.Judging.{Judging}
use Rattle.moves.proofs.judge_carts.Given as goal

abbrev pub invariant-loop-c : goal.invariant-loop-c
invariant-loop-c l = Judging l.lanes.floor.now l.lanes.counts.carts l.h l.block l.c
