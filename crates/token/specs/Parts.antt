-- What the readers of parts give: the definition's answer, with the nodes of its tree in the block.
use Rattle.std.specs.Prelude.{ℕ, ◌+◌, ◌*◌, ◌≤◌, ◌≡◌, List, length, drop, Result, Ok, Err}
use Rattle.record.specs.Buffer.{stored}
use Rattle.grammar.specs.Grammar.{Form}
use Rattle.grammar.specs.Nodes.{Node, flat}
use Rattle.grammar.specs.Reader.{Got, got, no}
use Rattle.token.specs.Block.{nodes_bytes}
use Rattle.token.specs.Leaves.{PartRefused}
use Rattle.token.specs.declared.Part.{Part}
use Rattle.token.specs.declared.Fault.{Fault}

module _ {L : Type 0} (leaf_nodes : L → ℕ) (leaf_flat : L → ℕ → List Node) (s : List ℕ) (n left : ℕ) (before : List ℕ) where
  -- a part was read: what is left, the nodes still allowed, and behind the n nodes of the block those of its tree
  pub record Held (r : Part) (after : List ℕ) (a : Form L) (m : ℕ) (rest : List ℕ) : Type 0 where
    pub behind : drop r.at s ≡ rest
    pub inside : r.at ≤ length s
    pub allowed : r.left ≡ m
    pub slots : r.n ≡ n + length (flat leaf_nodes leaf_flat a n)
    pub kept : r.n + r.left ≡ n + left
    pub block : after ≡ stored before (4 * n) (nodes_bytes (flat leaf_nodes leaf_flat a n))

  abbrev pub PartIs : Result Part Fault → List ℕ → Got (Form L) → Type 0
  PartIs (Ok r) after (got a m rest) = Held r after a m rest
  PartIs (Err f) after (no w rest) = PartRefused s before f after w rest
  PartIs (Ok r) after (no w rest) = ⊥
  PartIs (Err f) after (got a m rest) = ⊥
