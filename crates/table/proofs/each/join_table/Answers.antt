use Rattle.std.proofs.Common.{rules}
use Rattle.cltl.specs.Rules.{join}
use Rattle.table.specs.Table.{told}
use Rattle.table.proofs.each.join_table.Goals as goal

pub returns : goal.returns
returns c = let a = c.args in
    c.each_word.ensures (λ i s. join a.p (told a.t.now a.a i s) (told a.t.now a.b i s)) (λ s r p e. search rules)
