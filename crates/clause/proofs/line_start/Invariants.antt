use Rattle.clause.proofs.Walking.{Starting}
use Rattle.clause.proofs.line_start.Given as goal

abbrev pub invariant-loop-i : goal.invariant-loop-i
invariant-loop-i l = Starting l.s l.k l.left l.i
