use Rattle.std.proofs.Common.{T}
use Rattle.conflict.specs.Table.{flag, block_place}
use Rattle.conflict.specs.Columns.{Some}
use Rattle.conflict.proofs.rows.Rows.visits.Given as goal

abbrev pub invariant-loop-s : goal.invariant-loop-s
invariant-loop-s l = Some 0 l.s (λ s. T (flag l.self.bays.now (block_place l.self.block.now l.a s))) → ⊥
