use Prim.Native.Nat.{◌*◌}
use Rattle.table.specs.Table.{Stored}
use Rattle.marks.specs.Tables.{MovedUp}
use Rattle.marks.proofs.tables.move_up.Given as goal

abbrev pub invariant-loop-s : goal.invariant-loop-s
invariant-loop-s l = Stored (MovedUp l.initial.t l.h l.words l.k) (l.k * l.h) 0 l.s l.initial.t l.t
