use mathlib.Core.Path.{sym, subst}
use mathlib.Core.Bool.{Bool}
use lib.Bits.{bit_and, bit_or}
use Rattle.cltl.specs.Rules.{mix}
use Rattle.mask.specs.Mask.{on}
use Rattle.table.specs.Table.{Word}
use Rattle.table.specs.Words.{until_word, release_word}
use Rattle.table.proofs.words.mix_word.Goals as goal

pub returns-then-p : goal.returns-then-p
returns-then-p c = let a = c.args in
    subst (λ (p : Bool). Word (λ i. mix p (on a.a i) (on a.b i) (on a.rest i)) (bit_or a.b (bit_and a.a a.rest))) (sym c.if-p.true)
    (until_word a.a a.b a.rest)

pub returns-else-p : goal.returns-else-p
returns-else-p c = let a = c.args in
    subst (λ (p : Bool). Word (λ i. mix p (on a.a i) (on a.b i) (on a.rest i)) (bit_and a.b (bit_or a.a a.rest))) (sym c.if-p.false)
    (release_word a.a a.b a.rest)
