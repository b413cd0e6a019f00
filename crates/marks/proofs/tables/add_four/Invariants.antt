use Rattle.marks.specs.Tables.{Tables, MovedUp}
use Rattle.marks.proofs.tables.add_four.Given as goal

abbrev pub invariant-loop-k : goal.invariant-loop-k
invariant-loop-k l = Tables (MovedUp l.initial.t l.h l.words) l.k l.h l.initial.t l.t
