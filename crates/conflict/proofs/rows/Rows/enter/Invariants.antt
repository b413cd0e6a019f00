use Rattle.conflict.specs.Table.{block_place}
use Rattle.conflict.specs.Columns.{Entered}
use Rattle.conflict.proofs.rows.Rows.enter.Given as goal

abbrev pub invariant-loop-b : goal.invariant-loop-b
invariant-loop-b l = Entered l.from l.b (λ i. block_place l.self.block.now i l.step) l.mark l.initial.last l.last
