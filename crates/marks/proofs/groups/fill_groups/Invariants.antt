use Prim.Native.Nat.{ℕ}
use mathlib.Core.Path.{◌≡◌}
use mathlib.Core.List.{List}
use Rattle.table.specs.Table.{Stored}
use Rattle.marks.specs.Groups.{carts_word}
use Rattle.marks.proofs.groups.fill_groups.Given as goal

abbrev pub Each : ℕ → List ℕ → ℕ → ℕ → Type 0
Each fleet floor o x = x ≡ carts_word fleet floor o

abbrev pub invariant-loop-o : goal.invariant-loop-o
invariant-loop-o l = Stored (Each l.fleet l.floor) 32 0 l.o l.initial.words l.words
