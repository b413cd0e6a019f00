use Rattle.std.proofs.Common.{rules, ℕ, ◌+◌, ◌≡◌, ◌∙◌, ◌||◌, ap, get_or, bit_or, bit_xor}
use Rattle.mask.specs.Mask.{on, signed}
use Rattle.table.specs.Table.{told}
use Rattle.table.specs.Words.{either_signed}
use Rattle.table.proofs.each.either_table.Goals as goal

pub returns : goal.returns
returns c = let a = c.args in
    let first = c.flip-flip_a in
    let second = c.flip-flip_b in
    c.each_word.ensures (λ i s. signed a.pa (told a.t.now a.a i s) || signed a.pb (told a.t.now a.b i s))
    (λ s r p e.
    let x = get_or a.t.now (a.a + s) 0 in
    let y = get_or a.t.now (a.b + s) 0 in
    let made : r ≡ bit_or (bit_xor x first.result) (bit_xor y second.result) = search rules in
    λ i q. ap (λ (z : ℕ). on z i) made ∙ either_signed a.pa a.pb x y _ _ first.ensures second.ensures i q)
