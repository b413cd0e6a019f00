use Prim.Native.Nat.{ℕ, ◌-◌, ◌≤◌}
use mathlib.Core.Bool.{Bool}
use mathlib.Core.List.{List}
use Rattle.mask.specs.Mask.{on}
use Rattle.table.specs.Table.{told, Word, Stored}
use Rattle.table.specs.Straight.{straight}
use Rattle.table.proofs.until.back.Given as goal

-- word s is what the steps from s up to an end give, with what is true behind them
abbrev pub Straight : Bool → List ℕ → (a b to rest : ℕ) → ℕ → ℕ → Type 0
Straight p t a b to rest s = Word (λ i. straight p (told t a i) (told t b i) (on rest i) (to - s) s)

abbrev pub invariant-loop-s : goal.invariant-loop-s
invariant-loop-s l =
    (l.from ≤ l.s)
    × Stored (Straight l.p l.initial.t l.a l.b l.to l.rest) l.k l.s l.to l.initial.t l.t
    × Straight l.p l.initial.t l.a l.b l.to l.rest l.s l.v
