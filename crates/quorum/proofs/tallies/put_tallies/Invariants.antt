use Prim.Native.Nat.{ℕ, ◌+◌}
use mathlib.Core.Path.{◌≡◌}
use mathlib.Core.List.{List}
use lib.Count.{ones}
use lib.ListN.{get_or}
use Rattle.table.specs.Table.{Stored}
use Rattle.quorum.proofs.tallies.put_tallies.Given as goal

abbrev pub Each : List ℕ → ℕ → ℕ → ℕ → Type 0
Each w from s x = x ≡ ones (get_or w (from + s) 0)

abbrev pub invariant-loop-s : goal.invariant-loop-s
invariant-loop-s l = Stored (Each l.w l.from) l.at 0 l.s l.initial.tallies l.tallies
