use Rattle.row.proofs.Linking.{Linking}
use Rattle.row.proofs.lanes.link.Given as goal

abbrev pub invariant-loop-j : goal.invariant-loop-j
invariant-loop-j l = Linking l.s l.f l.initial.next l.first l.next l.j
