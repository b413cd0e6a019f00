use native.Mathlib.Omega.{arith}
use mathlib.Core.Path.{◌∙◌}
use Rattle.floor.specs.Located.{accepted_length, group_word}
use Rattle.floor.proofs.offsets.group_at.Goals as goal

pub bounds-s-at : goal.bounds-s-at
bounds-s-at c = omega (arith, accepted_length _ _ c.requires.accepted_floor)

pub bounds-s-at-2 : goal.bounds-s-at-2
bounds-s-at-2 c = omega (arith, accepted_length _ _ c.requires.accepted_floor)

pub bounds-s-at-3 : goal.bounds-s-at-3
bounds-s-at-3 c = omega (arith, accepted_length _ _ c.requires.accepted_floor)

pub bounds-s-at-4 : goal.bounds-s-at-4
bounds-s-at-4 c = omega (arith, accepted_length _ _ c.requires.accepted_floor)

pub returns : goal.returns
returns c = let s = c.args in
    let is = c.number32.ensures ∙ group_word s.s.now s.f c.requires.accepted_floor s.g _ c.requires.g_lt_groups (omega (arith, c.narrow_at.ensures)) in
    record { value = is; upper_bound = omega (arith, is, c.requires.accepted_floor.valid.group_there s.g c.requires.g_lt_groups) }
