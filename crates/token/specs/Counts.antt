-- What the end of a count gives behind inner text.
use Rattle.std.specs.Prelude.{ℕ, suc, ◌+◌, ◌≤◌, ◌≡◌, List, length, Result}
use Rattle.grammar.specs.Grammar.{Form, Inner, Clause}
use Rattle.grammar.specs.Limits.{mark_nodes, count_nodes}
use Rattle.grammar.specs.Nodes.{flat_mark, flat_count}
use Rattle.grammar.specs.Reader.{Got, got, bind, skip, expect, count_end}
use Rattle.token.specs.Parts.{PartIs}
use Rattle.token.specs.declared.Part.{Part}
use Rattle.token.specs.declared.Fault.{Fault}

-- the whole count behind its `[`, as a leaf
abbrev pub count_got : Got Inner → Got Clause
count_got g = bind (bind (bind g (λ a m₁ r₁. expect 44 a m₁ r₁)) (λ a m₁ r₁. count_end a m₁ (skip r₁))) (λ x m r₁. got (Form.leaf x) m r₁)

-- whatever inner text the part was read as, the count over it; refused inner text is a refused count; the count's own node was counted at its `[`
abbrev pub CountEnds : List ℕ → Result Part Fault → List ℕ → Result Part Fault → List ℕ → Type 0
CountEnds s r block q after =
    (n left : ℕ) (before : List ℕ) (g : Got Inner) → PartIs mark_nodes flat_mark s n left before r block g → length before ≡ 512 → n + suc left ≤ 128
    → PartIs count_nodes flat_count s n (suc left) before q after (count_got g)
