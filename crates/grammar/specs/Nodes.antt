-- A text's nodes, numbered in the order in which they end: an operand has a smaller number than its operator.
use Rattle.std.specs.Prelude.{ℕ, ◌+◌, ◌-◌, ◌<◌, ◌≡◌, List, [], ◌∷◌, ◌++◌, get_or}
use Rattle.grammar.specs.Grammar.{Form, top, leaf, neg, and, or, next, until, release, ev, gl, Inner, Amount, Counted, counted, Clause}
use Rattle.grammar.specs.Limits.{nodes, mark_nodes, count_nodes}

pub data Op₁ : Type 0 where
  neg₁ next₁ ev₁ gl₁ : Op₁

pub data Op₂ : Type 0 where
  and₂ or₂ until₂ release₂ : Op₂

-- operators hold their operands' numbers, a count its inner text's and its amount
pub data Node : Type 0 where
  top_n : Node
  mark_n : ℕ → Node
  count_n : ℕ → Amount → Node
  one_n : Op₁ → ℕ → Node
  two_n : Op₂ → ℕ → ℕ → Node

-- where the nodes so far are b, the nodes of a text; its own is the last
module _ {L : Type 0} (leaf_nodes : L → ℕ) (leaf_flat : L → ℕ → List Node) where
  abbrev last : ℕ → Form L → ℕ
  last b a = (b + nodes leaf_nodes a) - 1

  unfoldable pub flat : Form L → ℕ → List Node
  flat top b = top_n ∷ []
  flat (leaf x) b = leaf_flat x b
  flat (neg a) b = flat a b ++ (one_n neg₁ (last b a) ∷ [])
  flat (next a) b = flat a b ++ (one_n next₁ (last b a) ∷ [])
  flat (ev a) b = flat a b ++ (one_n ev₁ (last b a) ∷ [])
  flat (gl a) b = flat a b ++ (one_n gl₁ (last b a) ∷ [])
  flat (and a c) b = flat a b ++ flat c (b + nodes leaf_nodes a) ++ (two_n and₂ (last b a) (last (b + nodes leaf_nodes a) c) ∷ [])
  flat (or a c) b = flat a b ++ flat c (b + nodes leaf_nodes a) ++ (two_n or₂ (last b a) (last (b + nodes leaf_nodes a) c) ∷ [])
  flat (until a c) b = flat a b ++ flat c (b + nodes leaf_nodes a) ++ (two_n until₂ (last b a) (last (b + nodes leaf_nodes a) c) ∷ [])
  flat (release a c) b = flat a b ++ flat c (b + nodes leaf_nodes a) ++ (two_n release₂ (last b a) (last (b + nodes leaf_nodes a) c) ∷ [])

unfoldable pub flat_mark : ℕ → ℕ → List Node
flat_mark k b = mark_n k ∷ []

unfoldable pub flat_inner : Inner → ℕ → List Node
flat_inner a b = flat mark_nodes flat_mark a b

unfoldable pub flat_count : Counted → ℕ → List Node
flat_count (counted a x) b = flat_inner a b ++ (count_n ((b + nodes mark_nodes a) - 1) x ∷ [])

unfoldable pub flat_clause : Clause → ℕ → List Node
flat_clause c b = flat count_nodes flat_count c b

abbrev pub node : List Node → ℕ → Node
node ns i = get_or ns i top_n

-- node i of ns stands for a text; operands are before their operators
module _ {L : Type 0} (Leaf : List Node → ℕ → L → Type 0) where
  abbrev pub Stands : List Node → ℕ → Form L → Type 0
  Stands ns i top = node ns i ≡ top_n
  Stands ns i (leaf x) = Leaf ns i x
  Stands ns i (neg a) = (j : ℕ) × (j < i) × (node ns i ≡ one_n neg₁ j) × Stands ns j a
  Stands ns i (next a) = (j : ℕ) × (j < i) × (node ns i ≡ one_n next₁ j) × Stands ns j a
  Stands ns i (ev a) = (j : ℕ) × (j < i) × (node ns i ≡ one_n ev₁ j) × Stands ns j a
  Stands ns i (gl a) = (j : ℕ) × (j < i) × (node ns i ≡ one_n gl₁ j) × Stands ns j a
  Stands ns i (and a c) = (j k : ℕ) × (j < i) × (k < i) × (node ns i ≡ two_n and₂ j k) × Stands ns j a × Stands ns k c
  Stands ns i (or a c) = (j k : ℕ) × (j < i) × (k < i) × (node ns i ≡ two_n or₂ j k) × Stands ns j a × Stands ns k c
  Stands ns i (until a c) = (j k : ℕ) × (j < i) × (k < i) × (node ns i ≡ two_n until₂ j k) × Stands ns j a × Stands ns k c
  Stands ns i (release a c) = (j k : ℕ) × (j < i) × (k < i) × (node ns i ≡ two_n release₂ j k) × Stands ns j a × Stands ns k c

abbrev pub StandsMark : List Node → ℕ → ℕ → Type 0
StandsMark ns i k = node ns i ≡ mark_n k

abbrev pub StandsCount : List Node → ℕ → Counted → Type 0
StandsCount ns i (counted a x) = (j : ℕ) × (j < i) × (node ns i ≡ count_n j x) × Stands StandsMark ns j a
