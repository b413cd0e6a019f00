-- What the readers of the four levels and of leaves give.
use Rattle.std.specs.Prelude.{ℕ, Bool, true, false, List, drop, Result}
use Rattle.grammar.specs.Grammar.{Form, Rank, small, untils, ands, ors, Counted}
use Rattle.grammar.specs.Limits.{mark_nodes, count_nodes}
use Rattle.grammar.specs.Nodes.{Node, flat_mark, flat_count}
use Rattle.grammar.specs.Reader as reader
use Rattle.grammar.specs.Reader.{Got, got, Reader, bind, marks, counts}
use Rattle.token.specs.Parts.{PartIs}
use Rattle.token.specs.declared.Part.{Part}
use Rattle.token.specs.declared.Fault.{Fault}

-- the definition's reader of a rank
abbrev pub by_rank : {L : Type 0} → (ℕ → Reader L) → Rank → ℕ → Reader (Form L)
by_rank lf small = reader.smalls lf
by_rank lf untils = reader.untils lf
by_rank lf ands = reader.ands lf
by_rank lf ors = reader.ors lf

-- the leaves of inner text are marks, those of a clause counts
abbrev pub LeafOf : Bool → Type 0
LeafOf true = ℕ
LeafOf false = Counted

abbrev pub leaf_nodes : (inner : Bool) → LeafOf inner → ℕ
leaf_nodes true = mark_nodes
leaf_nodes false = count_nodes

abbrev pub leaf_flat : (inner : Bool) → LeafOf inner → ℕ → List Node
leaf_flat true = flat_mark
leaf_flat false = flat_count

abbrev pub leaf_reader : (inner : Bool) → ℕ → Reader (LeafOf inner)
leaf_reader true = λ i. marks
leaf_reader false = counts

-- a part of a rank, from an offset on
abbrev pub Reads : Bool → Rank → ℕ → List ℕ → ℕ → ℕ → ℕ → List ℕ → Result Part Fault → List ℕ → Type 0
Reads inner k level s at n left before r after =
    PartIs (leaf_nodes inner) (leaf_flat inner) s n left before r after (by_rank (leaf_reader inner) k level left (drop at s))

-- a leaf, at its first byte
abbrev pub LeafReads : Bool → ℕ → List ℕ → ℕ → ℕ → ℕ → List ℕ → Result Part Fault → List ℕ → Type 0
LeafReads inner level s i n left before r after =
    PartIs (leaf_nodes inner) (leaf_flat inner) s n left before r after (bind (leaf_reader inner level left (drop i s)) (λ x m r₁. got (Form.leaf x) m r₁))
