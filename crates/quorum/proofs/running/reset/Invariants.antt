use Prim.Native.Nat.{ℕ, ◌+◌}
use mathlib.Core.Path.{◌≡◌}
use mathlib.Core.List.{List}
use lib.Bits.{bit_and}
use lib.ListN.{get_or}
use Rattle.table.specs.Table.{Stored}
use Rattle.quorum.proofs.running.reset.Given as goal

abbrev pub Each : List ℕ → (at x j y : ℕ) → Type 0
Each w at x j y = y ≡ bit_and x (get_or w (at + j) 0)

abbrev pub invariant-loop-j : goal.invariant-loop-j
invariant-loop-j l = Stored (Each l.initial.w l.at l.x) l.at 0 l.j l.initial.w l.w
