use Rattle.edit.proofs.RowsMoved.{Moving}
use Rattle.edit.proofs.moving.moved_rows.Given as goal

abbrev pub invariant-loop-c : goal.invariant-loop-c
invariant-loop-c l = Moving l.h l.s l.block l.size l.rows l.c
