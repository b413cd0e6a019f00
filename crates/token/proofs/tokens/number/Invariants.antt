use Prim.Native.Nat.{ℕ, min}
use mathlib.Core.Path.{◌≡◌}
use lib.ListN.{drop}
use Rattle.grammar.specs.Reader.{number as numberS, digits}
use Rattle.token.proofs.tokens.number.Given as goal

abbrev pub invariant-loop-i : goal.invariant-loop-i
invariant-loop-i l = (w : ℕ) × (l.v ≡ min w 1000) × (numberS 0 (drop l.at l.s) ≡ digits w 0 (drop l.i l.s))
