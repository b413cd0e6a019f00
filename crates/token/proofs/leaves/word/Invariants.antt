use Rattle.token.proofs.Words.{Spelled}
use Rattle.token.proofs.leaves.word.Given as goal

abbrev pub invariant-loop-k : goal.invariant-loop-k
invariant-loop-k l = Spelled l.s l.p.left l.p.at l.k
