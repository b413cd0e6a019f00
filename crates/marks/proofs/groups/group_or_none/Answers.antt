use mathlib.Core.Path.{sym}
use native.Mathlib.Omega.{arith}
use lib.ListN.{get_or-eq_default}
use Rattle.floor.specs.Numbers.{numbers_of}
use Rattle.marks.proofs.groups.group_or_none.Goals as goal

pub returns-then-g-f : goal.returns-then-g-f
returns-then-g-f c = c.group_at.ensures.value

-- behind the last group there is none
pub returns : goal.returns
returns c = let s = c in
    sym (get_or-eq_default (numbers_of s.args.floor.now).groups 0 (omega (arith, c.if-g-f.false, s.requires.valid.groups)))
