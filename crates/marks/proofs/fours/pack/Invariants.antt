use Rattle.marks.specs.Fours.{Packed}
use Rattle.marks.proofs.fours.pack.Given as goal

abbrev pub invariant-loop-s : goal.invariant-loop-s
invariant-loop-s l = Packed 0 l.s l.initial.words l.words
