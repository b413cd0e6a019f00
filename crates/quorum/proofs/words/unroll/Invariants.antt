use Prim.Native.Nat.{ℕ}
use mathlib.Core.Bool.{Bool}
use mathlib.Core.List.{List}
use Rattle.mask.specs.Mask.{signed}
use Rattle.table.specs.Table.{told, Stored}
use Rattle.quorum.specs.Words.{Of}
use Rattle.quorum.proofs.words.unroll.Given as goal

-- the word of each step
abbrev pub Each : List ℕ → ℕ → Bool → ℕ → ℕ → ℕ → Type 0
Each t at p who = Of who (λ i s. signed p (told t at i s))

abbrev pub invariant-loop-s : goal.invariant-loop-s
invariant-loop-s l = Stored (Each l.t l.at l.p l.who) 0 0 l.s l.initial.w l.w
