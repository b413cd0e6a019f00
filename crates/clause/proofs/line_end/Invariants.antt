use Rattle.clause.proofs.Walking.{Ending}
use Prim.Native.Nat.{◌≤◌, max}
use lib.ListN.{length}
use Rattle.clause.proofs.line_end.Given as goal

abbrev pub invariant-loop-i : goal.invariant-loop-i
invariant-loop-i l = Ending l.s l.at l.i × (l.i ≤ max l.at (length l.s))
