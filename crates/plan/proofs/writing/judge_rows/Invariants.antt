use Rattle.std.proofs.Common.{◌≡◌}
use Rattle.std.specs.Slice.Iter.{chunks_rest, chunks_size}
use Rattle.plan.proofs.JudgingRows.{Judging}
use Rattle.plan.proofs.writing.judge_rows.Given as goal

abbrev pub invariant-loop-row : goal.invariant-loop-row
invariant-loop-row l = record {
  size : chunks_size l.row-iterator ≡ l.h.steps;
  judging : Judging l.f l.h l.rows l.n l.at (chunks_rest l.row-iterator);
}
