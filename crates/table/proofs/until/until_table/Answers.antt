use Rattle.table.specs.Passes.{twice}
use native.Mathlib.Omega.{arith}
use Rattle.table.proofs.until.until_table.Goals as goal

pub returns : goal.returns
returns c = let start = c in
    let a = start.args in
    let first = c.back-turn in
    let second = c.back in
    twice a.p a.b a.k a.h a.l first.result a.t.now _ _ (omega arith) start.requires.apart.1 a.a _ _ start.requires.apart.0
    c.same_word.ensures first.ensures.stored first.ensures.word second.ensures.stored
