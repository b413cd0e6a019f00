use mathlib.Core.Path.{sym, subst}
use mathlib.Core.Bool.{Bool}
use lib.Bits.{bit_and, bit_or}
use Rattle.cltl.specs.Rules.{join}
use Rattle.mask.specs.Mask.{on}
use Rattle.table.specs.Table.{Word}
use Rattle.table.specs.Words.{both_word, either_word}
use Rattle.table.proofs.words.join_word.Goals as goal

pub returns-then-p : goal.returns-then-p
returns-then-p c = let a = c.args in
    subst (λ (p : Bool). Word (λ i. join p (on a.a i) (on a.b i)) (bit_and a.a a.b)) (sym c.if-p.true) (both_word a.a a.b)

pub returns-else-p : goal.returns-else-p
returns-else-p c = let a = c.args in
    subst (λ (p : Bool). Word (λ i. join p (on a.a i) (on a.b i)) (bit_or a.a a.b)) (sym c.if-p.false) (either_word a.a a.b)
