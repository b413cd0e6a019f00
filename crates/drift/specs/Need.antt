-- How many pairs of places a text needs while it is judged.
use Rattle.std.specs.Prelude.{ℕ, suc, ◌+◌, ◌<◌, ◌≤◌, max, ◌≡◌, cond, List, eqb, ltb, get_or, length}
use Rattle.grammar.specs.Grammar.{Form, top, leaf, neg, and, or, next, until, release, ev, gl, Counted, counted}
use Rattle.grammar.specs.Nodes.{Node, top_n, mark_n, count_n, one_n, two_n}
use Rattle.drift.specs.declared.Operands.{Operands}
use Rattle.drift.specs.Tree.{first_at, second_at, node_at}

-- Places for tables come in pairs: an operator's table is made in the place of a pair that its operand's is not in. Of two operands the one that needs
-- more pairs goes first; its table keeps one pair in use while the other operand is judged in the pairs behind. So only where both need the same is it one
-- pair more.
abbrev pub more : ℕ → ℕ → ℕ
more a b = cond (eqb a b) (suc a) (max a b)

-- the pairs that a text needs, over what its leaves need: a mark's table is there already, and a count's is that of its text
unfoldable pub need : {L : Type 0} → (L → ℕ) → Form L → ℕ
need leafNeed top = 0
need leafNeed (leaf x) = leafNeed x
need leafNeed (neg a) = max 1 (need leafNeed a)
need leafNeed (and a b) = more (need leafNeed a) (need leafNeed b)
need leafNeed (or a b) = more (need leafNeed a) (need leafNeed b)
need leafNeed (next a) = max 1 (need leafNeed a)
need leafNeed (until a b) = more (need leafNeed a) (need leafNeed b)
need leafNeed (release a b) = more (need leafNeed a) (need leafNeed b)
need leafNeed (ev a) = max 1 (need leafNeed a)
need leafNeed (gl a) = max 1 (need leafNeed a)

abbrev pub mark_need : ℕ → ℕ
mark_need m = 0

abbrev pub count_need : Counted → ℕ
count_need (counted a x) = need mark_need a

-- the same of a node, by the needs of its operands
abbrev pub need_node : List ℕ → Node → ℕ
need_node needs top_n = 0
need_node needs (mark_n m) = 0
need_node needs (count_n i x) = get_or needs i 0
need_node needs (one_n o i) = max 1 (get_or needs i 0)
need_node needs (two_n o i j) = more (get_or needs i 0) (get_or needs j 0)

-- the needs of n nodes, one byte to each
pub record Needs (block needs : List ℕ) (n : ℕ) : Type 0 where
  pub room : n ≤ length needs
  pub each : (k : ℕ) → k < n → get_or needs k 0 ≡ need_node needs (node_at block k)

-- the operands of node k in the order in which they are judged: swapped exactly if the right one needs more pairs. So the first needs no more than the
-- node, and the second fewer
pub record InTurn (block needs : List ℕ) (k : ℕ) (r : Operands) : Type 0 where
  pub order : r.swapped ≡ ltb (get_or needs (first_at block k) 0) (get_or needs (second_at block k) 0)
  pub first_is : r.first ≡ cond r.swapped (second_at block k) (first_at block k)
  pub second_is : r.second ≡ cond r.swapped (first_at block k) (second_at block k)
  pub below : (r.first < k) × (r.second < k)
  pub first_need : get_or needs r.first 0 ≤ get_or needs k 0
  pub second_need : get_or needs r.second 0 < get_or needs k 0

-- six pairs are enough for node k, as they are for every clause of at most 128 nodes
abbrev pub SixPairsDo : List ℕ → ℕ → Type 0
SixPairsDo block k = (needs : List ℕ) → Needs block needs (k + 1) → get_or needs k 0 ≤ 6
