use Rattle.conflict.specs.Table.{Goes}
use Rattle.conflict.specs.Columns.{Some}
use Rattle.conflict.proofs.rows.Rows.exchanged.Given as goal

abbrev pub invariant-loop-b : goal.invariant-loop-b
invariant-loop-b l = Some l.from l.b (Goes l.self.block.now l.step l.next l.q l.p) → ⊥
