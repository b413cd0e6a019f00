use Rattle.marks.proofs.Joining.{Joined}
use Rattle.marks.proofs.borne.Given as goal

abbrev pub invariant-loop-q : goal.invariant-loop-q
invariant-loop-q l = Joined l.floor l.q l.all
