use Rattle.std.proofs.Common.{rules, ℕ, ◌+◌, ◌-◌, ◌^◌, ◌≡◌, ◌∙◌, not, ap, get_or, bit_xor}
use Rattle.mask.specs.Mask.{on}
use Rattle.table.specs.Table.{told}
use Rattle.table.specs.Words.{not_word}
use Rattle.table.proofs.each.not_table.Goals as goal

pub returns : goal.returns
returns c = let a = c.args in
    c.each_word.ensures (λ i s. not (told a.t.now a.a i s))
    (λ s r p e.
    let x = get_or a.t.now (a.a + s) 0 in
    let made : r ≡ bit_xor x (2 ^ 32 - 1) = search rules in
    λ i q. ap (λ (z : ℕ). on z i) made ∙ not_word x i q)
