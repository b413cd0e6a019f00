use Rattle.std.proofs.Common.{drop}
use Rattle.floor.specs.Floor.{walk}
use Rattle.floor.specs.Numbers.{word_records}
use Rattle.floor.proofs.Onward.{Left}
use Rattle.floor.proofs.walking.walk_words.Given as goal

abbrev pub invariant-loop-word : goal.invariant-loop-word
invariant-loop-word l = Left (walk l.fn.f l.fn.at (word_records l.kind l.words)) l.g l.next (word_records l.kind (drop l.word-index l.words))
