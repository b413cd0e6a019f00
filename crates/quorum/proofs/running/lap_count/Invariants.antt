use Prim.Native.Nat.{ℕ, suc, ◌+◌, ◌-◌, min}
use mathlib.Core.Path.{◌≡◌}
use mathlib.Core.Bool.{Bool}
use mathlib.Core.List.{List}
use Rattle.cltl.specs.Counting.{every}
use Rattle.cltl.specs.Running.{lap_count}
use Rattle.mask.specs.Mask.{on}
use Rattle.table.specs.Table.{Stored}
use Rattle.quorum.specs.Words.{has}
use Rattle.quorum.specs.Unary.{Above}
use Rattle.quorum.proofs.running.lap_count.Given as goal

abbrev pub Digits : List ℕ → (h l j x : ℕ) → Type 0
Digits w h l j x = Above (λ i. lap_count h l (has w i)) j x

-- cart i at the first n steps of the lap
abbrev pub first : List ℕ → (l i n : ℕ) → Bool
first w l i n = every (λ k. has w i (l + k)) n

-- the carts that have their bit at j steps of the lap, or at all if it has fewer
abbrev pub AllAt : List ℕ → (h l j all : ℕ) → Type 0
AllAt w h l j all = (i : ℕ) → on all i ≡ first w l i (min j (h - l))

abbrev pub invariant-loop-j : goal.invariant-loop-j
invariant-loop-j l = AllAt l.initial.w l.lasso.h l.lasso.l (suc l.j) l.all × Stored (Digits l.initial.w l.lasso.h l.lasso.l) l.lasso.h 0 l.j l.initial.w l.w
