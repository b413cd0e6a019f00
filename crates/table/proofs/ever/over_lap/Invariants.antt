use Prim.Native.Nat.{ℕ, ◌-◌, ◌≤◌}
use mathlib.Core.Bool.{Bool, not}
use mathlib.Core.List.{List}
use Rattle.table.specs.Table.{told, Word}
use Rattle.table.specs.Straight.{straight}
use Rattle.table.proofs.ever.over_lap.Given as goal

-- the steps from s up to the end are gone over
abbrev pub Over : Bool → List ℕ → (b h s : ℕ) → ℕ → Type 0
Over p t b h s = Word (λ i. straight p (λ s. p) (told t b i) (not p) (h - s) s)

abbrev pub invariant-loop-s : goal.invariant-loop-s
invariant-loop-s l = (l.l ≤ l.s) × Over l.p l.t l.b l.h l.s l.v
