use mathlib.Core.Path.{sym, subst}
use Prim.Native.Nat.{◌-◌, ◌^◌}
use mathlib.Core.Bool.{Bool}
use Rattle.table.specs.Table.{Word}
use Rattle.table.specs.Words.{all_word, none_word}
use Rattle.table.proofs.words.same_word.Goals as goal

pub returns-then-p : goal.returns-then-p
returns-then-p c = subst (λ (p : Bool). Word (λ i. p) (2 ^ 32 - 1)) (sym c.if-p.true) all_word

pub returns-else-p : goal.returns-else-p
returns-else-p c = subst (λ (p : Bool). Word (λ i. p) 0) (sym c.if-p.false) none_word
