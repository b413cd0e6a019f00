-- The limits of document 01, on what the grammar gives.
use Rattle.std.specs.Prelude.{ℕ, suc, ◌+◌, ◌≤◌, max, Bool, true, false, List, length}
use Rattle.grammar.specs.Grammar.{Form, top, leaf, neg, and, or, next, until, release, ev, gl, Rank, Part, word, parens, prefix, one_small, reach, one_until, one_and, Mark, Amount, amount, Counted, counted, Count, count, Clause, Sheet, done, line}

-- The level: open `(` and `[`, prefix operators awaiting their operand, U/R awaiting the end of their right side.
module _ {L : Type 0} (Leaf : List ℕ → List ℕ → L → Type 0) (leafLevel : (s r : List ℕ) (x : L) → Leaf s r x → ℕ) where
  abbrev pub level : {k : Rank} {s r : List ℕ} {a : Form L} → Part Leaf k s r a → ℕ
  level (word x) = 0
  level (parens x p y) = suc (level p)
  level (prefix o x p) = suc (level p)
  level (Part.leaf {s = s} {r = r} {x = x} p) = leafLevel s r x p
  level (one_small p) = level p
  level (reach o p x q) = max (level p) (suc (level q))
  level (one_until p) = level p
  level (Part.and p x q) = max (level p) (level q)
  level (one_and p) = level p
  level (Part.or p x q) = max (level p) (level q)

-- Every mark, `true`, operator and count is a node.
module _ {L : Type 0} (leaf_nodes : L → ℕ) where
  abbrev pub nodes : Form L → ℕ
  nodes top = 1
  nodes (leaf x) = leaf_nodes x
  nodes (neg a) = suc (nodes a)
  nodes (and a b) = suc (nodes a + nodes b)
  nodes (or a b) = suc (nodes a + nodes b)
  nodes (next a) = suc (nodes a)
  nodes (until a b) = suc (nodes a + nodes b)
  nodes (release a b) = suc (nodes a + nodes b)
  nodes (ev a) = suc (nodes a)
  nodes (gl a) = suc (nodes a)

-- every leaf is in range
module _ {L : Type 0} (Ok : L → Type 0) where
  abbrev pub InRange : Form L → Type 0
  InRange top = Unit {0}
  InRange (leaf x) = Ok x
  InRange (neg a) = InRange a
  InRange (and a b) = InRange a × InRange b
  InRange (or a b) = InRange a × InRange b
  InRange (next a) = InRange a
  InRange (until a b) = InRange a × InRange b
  InRange (release a b) = InRange a × InRange b
  InRange (ev a) = InRange a
  InRange (gl a) = InRange a

-- marks
abbrev pub mark_level : (s r : List ℕ) (k : ℕ) → Mark s r k → ℕ
mark_level s r k m = 0

abbrev pub mark_nodes : ℕ → ℕ
mark_nodes k = 1

abbrev pub MarkOk : ℕ → Type 0
MarkOk k = k ≤ 31

-- counts
abbrev pub count_level : (s r : List ℕ) (x : Counted) → Count s r x → ℕ
count_level s r x (count o p c d e g) = suc (level Mark mark_level p)

abbrev pub count_nodes : Counted → ℕ
count_nodes (counted a x) = suc (nodes mark_nodes a)

abbrev pub most : Bool → ℕ
most false = 999
most true = 100

abbrev pub AmountOk : Amount → Type 0
AmountOk (amount n p o) = n ≤ most p

abbrev pub CountOk : Counted → Type 0
CountOk (counted a x) = InRange MarkOk a × AmountOk x

-- a sheet's clauses: "128 nodes in each", "nesting level 32", and numbers
abbrev pub Sized : {s : List ℕ} {cs : List Clause} → Sheet s cs → Type 0
Sized done = Unit {0}
Sized (line {c = c} p x rest) = (level Count count_level p ≤ 32) × (nodes count_nodes c ≤ 128) × Sized rest

abbrev pub Ranged : {s : List ℕ} {cs : List Clause} → Sheet s cs → Type 0
Ranged done = Unit {0}
Ranged (line {c = c} p x rest) = InRange CountOk c × Ranged rest

abbrev pub Fits : {s : List ℕ} {cs : List Clause} → Sheet s cs → Type 0
Fits d = Sized d × Ranged d

-- "32 clauses"
abbrev pub FewLines : List Clause → Type 0
FewLines cs = length cs ≤ 32

-- "at most 16,384 bytes"
abbrev pub FewBytes : List ℕ → Type 0
FewBytes s = length s ≤ 16384
