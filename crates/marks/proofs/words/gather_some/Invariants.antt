use Prim.Native.Nat.{◌+◌}
use Rattle.marks.specs.Tables.{WordAt}
use Rattle.marks.specs.Fours.{Gathered}
use Rattle.marks.proofs.words.gather_some.Given as goal

abbrev pub invariant-loop-c : goal.invariant-loop-c
invariant-loop-c l = Gathered (λ c'. WordAt l.floor l.block (l.i + c')) l.c l.h l.initial.words l.words
