-- A block of nodes, four bytes to each, and the text that a node stands for.
use Rattle.std.specs.Prelude.{ℕ, zero, suc, ◌+◌, ◌*◌, ◌/◌, ◌%◌, ◌≤◌, ◌<◌, Bool, cond, ◌||◌, List, eqb, ltb, get_or, length}
use Rattle.grammar.specs.Grammar.{Form, top, leaf, neg, and, or, next, until, release, ev, gl, Inner, Over, fleet, group, Amount, amount, counted, Clause}
use Rattle.grammar.specs.Nodes.{Node, top_n, mark_n, count_n, one_n, two_n, Op₁, neg₁, next₁, ev₁, gl₁, Op₂, and₂, or₂, until₂, release₂}

abbrev pub one_of : ℕ → Op₁
one_of kind = cond (eqb kind 2) neg₁ (cond (eqb kind 3) next₁ (cond (eqb kind 4) ev₁ gl₁))

abbrev pub two_of : ℕ → Op₂
two_of kind = cond (eqb kind 6) and₂ (cond (eqb kind 7) or₂ (cond (eqb kind 8) until₂ release₂))

-- the carts that a count is over, by a number: 0 the fleet, any other the group one below
abbrev pub over_of : ℕ → Over
over_of zero = fleet
over_of (suc g) = group g

-- what a count asks for, by its kind and its last two bytes: of the last byte two bits are the number's, the others tell the carts
abbrev pub amount_of : ℕ → ℕ → ℕ → Amount
amount_of kind y z = amount (y + 256 * (z % 4)) (eqb kind 11) (over_of (z / 4))

-- by its kind (0 true, 1 a mark, 2 to 5 ! X F G, 6 to 9 & | U R, 10 a count, 11 one by percentage) and the three bytes behind it
abbrev pub node_of : ℕ → ℕ → ℕ → ℕ → Node
node_of kind x y z =
    cond (eqb kind 0) top_n
    (cond (eqb kind 1) (mark_n x) (cond (ltb kind 6) (one_n (one_of kind) x) (cond (ltb kind 10) (two_n (two_of kind) x y) (count_n x (amount_of kind y z)))))

-- `true`, a mark or a count: no operator
abbrev pub is_leaf : ℕ → Bool
is_leaf kind = ltb kind 2 || ltb 9 kind

-- the four bytes of node k
module _ (block : List ℕ) (k : ℕ) where
  abbrev pub kind_at : ℕ
  kind_at = get_or block (4 * k) 0

  abbrev pub first_at : ℕ
  first_at = get_or block (4 * k + 1) 0

  abbrev pub second_at : ℕ
  second_at = get_or block (4 * k + 2) 0

  abbrev pub third_at : ℕ
  third_at = get_or block (4 * k + 3) 0

  abbrev pub amount_at : Amount
  amount_at = amount_of kind_at second_at third_at

  abbrev pub node_at : Node
  node_at = node_of kind_at first_at second_at third_at

-- operands have smaller numbers than their operator, marks are below 32
abbrev pub OperandsBelow : ℕ → Node → Type 0
OperandsBelow k top_n = Unit {0}
OperandsBelow k (mark_n m) = m < 32
OperandsBelow k (one_n o i) = i < k
OperandsBelow k (two_n o i j) = (i < k) × (j < k)
OperandsBelow k (count_n i x) = i < k

-- n nodes
pub record Ordered (block : List ℕ) (n : ℕ) : Type 0 where
  pub room : 4 * n ≤ length block
  pub below : (k : ℕ) → k < n → OperandsBelow k (node_at block k)

abbrev pub one : {L : Type 0} → Op₁ → Form L → Form L
one neg₁ a = neg a
one next₁ a = next a
one ev₁ a = ev a
one gl₁ a = gl a

abbrev pub two : {L : Type 0} → Op₂ → Form L → Form L → Form L
two and₂ a b = and a b
two or₂ a b = or a b
two until₂ a b = until a b
two release₂ a b = release a b

-- a text whose operands are given by their numbers, over what a mark and a count stand for
abbrev pub form_of : {L : Type 0} → (ℕ → Form L) → (ℕ → Amount → Form L) → (ℕ → Form L) → Node → Form L
form_of mark count operand top_n = top
form_of mark count operand (mark_n m) = mark m
form_of mark count operand (count_n i x) = count i x
form_of mark count operand (one_n o i) = one o (operand i)
form_of mark count operand (two_n o i j) = two o (operand i) (operand j)

-- what node k stands for, looked up at most n nodes deep
unfoldable pub tree : {L : Type 0} → (ℕ → Form L) → (ℕ → Amount → Form L) → List ℕ → ℕ → ℕ → Form L
tree mark count block zero k = top
tree mark count block (suc n) k = form_of mark count (λ i. tree mark count block n i) (node_at block k)

-- inner text has marks and no counts
unfoldable pub inner_tree : List ℕ → ℕ → ℕ → Inner
inner_tree block n k = tree (λ m. leaf m) (λ i x. top) block n k

-- a clause has counts and no marks outside them; a count's text is looked up deeper than any number of a node
unfoldable pub clause_tree : List ℕ → ℕ → ℕ → Clause
clause_tree block n k = tree (λ m. top) (λ i x. leaf (counted (inner_tree block (length block) i) x)) block n k
