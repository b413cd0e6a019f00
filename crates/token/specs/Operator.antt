-- Whether a chain goes on behind a part.
use Rattle.std.specs.Prelude.{ℕ, suc, ◌<◌, ◌≡◌, List, ◌∷◌, length, drop, Option, None, Some}
use Rattle.grammar.specs.Reader.{skip}
use Rattle.grammar.specs.Grammar.{Reach, U, R, reach_byte}
use Rattle.grammar.specs.Nodes.{Op₂, until₂, release₂}
use Rattle.token.specs.Block.{binary_byte, two_byte}
use Rattle.token.specs.declared.ReachAt.{ReachAt}

-- byte c at i, the first behind spaces from an offset on
pub record Stands (s : List ℕ) (at c i : ℕ) : Type 0 where
  pub inside : i < length s
  pub there : skip (drop at s) ≡ c ∷ drop (suc i) s
  pub here : drop i s ≡ c ∷ drop (suc i) s

-- no byte c there
pub record Lacks (s : List ℕ) (at c : ℕ) : Type 0 where
  pub none : (t : List ℕ) → skip (drop at s) ≡ c ∷ t → ⊥

-- the offset of the operator c behind spaces, or none
abbrev pub OperatorAt : List ℕ → ℕ → ℕ → Option ℕ → Type 0
OperatorAt s at c (Some i) = Stands s at c i
OperatorAt s at c None = Lacks s at c

abbrev pub reach_op : Reach → Op₂
reach_op U = until₂
reach_op R = release₂

-- `U` or `R`, by its operator; or neither
abbrev pub Reaches : List ℕ → ℕ → Option ReachAt → Type 0
Reaches s at (Some k) = (o : Reach) × Stands s at (reach_byte o) k.at × (binary_byte k.operator ≡ two_byte (reach_op o))
Reaches s at None = Lacks s at 85 × Lacks s at 82
