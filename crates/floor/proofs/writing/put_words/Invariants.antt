use Rattle.std.proofs.Common.{drop}
use Rattle.record.specs.Putting.{Putting}
use Rattle.floor.specs.Numbers.{word_records}
use Rattle.floor.proofs.writing.put_words.Given as goal

abbrev pub invariant-loop-word : goal.invariant-loop-word
invariant-loop-word l = Putting l.initial.out l.at (word_records l.kind l.words) l.out l.next (word_records l.kind (drop l.word-index l.words))
