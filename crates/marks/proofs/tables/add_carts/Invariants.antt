use Prim.Native.Nat.{ℕ, ◌*◌, ◌-◌, ◌≤◌, ◌<◌}
use mathlib.Core.Path.{◌≡◌}
use lib.ListN.{get_or}
use Rattle.marks.specs.Tables.{Tables}
use Rattle.marks.proofs.Filling.{Built}
use Rattle.marks.proofs.tables.add_carts.Given as goal

-- the words of carts that are missing in the last four are 0
abbrev pub invariant-loop-four : goal.invariant-loop-four
invariant-loop-four l =
    ((j : ℕ) → 0 < l.four → (l.carts - 4 * (l.four - 1)) * 64 ≤ j → j < 256 → get_or l.words j 0 ≡ 0)
    × Tables (Built l.floor l.block l.carts l.h l.marks (4 * l.four)) l.marks l.h l.initial.t l.t
