use Prim.Native.Nat.{ℕ}
use mathlib.Core.List.{List}
use Rattle.row.specs.Lasso.{next_step}
use Rattle.table.specs.Table.{told, Word, Stored}
use Rattle.table.proofs.each.next_table.Given as goal

-- word s is the word at the step after s
abbrev pub Later : List ℕ → ℕ → (h l : ℕ) → ℕ → ℕ → Type 0
Later t a h l s = Word (λ i. told t a i (next_step h l s))

abbrev pub invariant-loop-s : goal.invariant-loop-s
invariant-loop-s l = Stored (Later l.initial.t l.a l.h l.l) l.k 0 l.s l.initial.t l.t
