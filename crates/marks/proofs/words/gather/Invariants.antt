use Rattle.table.specs.Table.{Stored}
use Rattle.marks.specs.Tables.{WordAt}
use Rattle.marks.proofs.words.gather.Given as goal

abbrev pub invariant-loop-s : goal.invariant-loop-s
invariant-loop-s l = Stored (WordAt l.floor l.block l.i) l.at 0 l.s l.initial.words l.words
