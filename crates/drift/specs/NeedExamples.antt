-- Worked cases, by computation: how many pairs of places a text needs.
use Rattle.std.specs.Prelude.{ℕ, ◌≡◌, refl, true, false, List, [], ◌∷◌}
use Rattle.std.proofs.Common.{arith}
use Rattle.grammar.specs.Grammar.{top, leaf, neg, and, or, next, until, release, ev, gl, Inner, fleet, amount, counted, Clause}
use Rattle.drift.specs.Tree.{node_at, tree, inner_tree, clause_tree}
use Rattle.drift.specs.Need.{more, need, mark_need, count_need, need_node, InTurn}

-- inside a count, and outside
abbrev inside : Inner → ℕ
inside a = need mark_need a

abbrev outside : Clause → ℕ
outside c = need count_need c

abbrev m : ℕ → Inner
m k = leaf k

-- balanced: two leaves, four, eight
abbrev both : Inner
both = and (m 0) (m 1)

abbrev four : Inner
four = or both (and (m 2) (m 3))

abbrev eight : Inner
eight = until four (release both (or (m 4) (m 5)))

-- [m0 & X m1,1] & [!m2,1]: the nodes m0, m1, X, &, a count, m2, !, a count, &
abbrev nodes : List ℕ
nodes =
    1 ∷ 0 ∷ 0 ∷ 0 ∷ 1 ∷ 1 ∷ 0 ∷ 0 ∷ 3 ∷ 1 ∷ 0 ∷ 0 ∷ 6 ∷ 0 ∷ 2 ∷ 0 ∷ 10 ∷ 3 ∷ 1 ∷ 0 ∷ 1 ∷ 2 ∷ 0 ∷ 0 ∷ 2 ∷ 5 ∷ 0 ∷ 0 ∷ 10 ∷ 6 ∷ 1 ∷ 0 ∷ 6 ∷ 4 ∷ 7 ∷ 0 ∷ []

-- of the nodes of the first count's text
abbrev needs : List ℕ
needs = 0 ∷ 0 ∷ 1 ∷ 1 ∷ []

pub worked :
    -- one more only where both need the same
    (more 0 0 ≡ 1)
    × (more 1 1 ≡ 2)
    × (more 2 1 ≡ 2)
    × (more 1 2 ≡ 2)
    × (more 0 3 ≡ 3)
    -- a leaf needs none, an operator at least one
    × (inside (m 0) ≡ 0)
    × (inside top ≡ 0)
    × (inside (neg (m 0)) ≡ 1)
    × (inside (next (m 0)) ≡ 1)
    × (inside both ≡ 1)
    -- however deep it goes on one side
    × (inside (neg (neg (m 0))) ≡ 1)
    × (inside (gl (ev (next (neg (m 0))))) ≡ 1)
    × (inside (and both (m 2)) ≡ 1)
    × (inside (and (m 2) both) ≡ 1)
    × (inside (until (next (m 0)) (m 1)) ≡ 1)
    × (inside (release (m 0) (until (m 1) (or (m 2) (m 3)))) ≡ 1)
    -- two operands that are both operators
    × (inside four ≡ 2)
    × (inside (release (neg (m 0)) (next (m 1))) ≡ 2)
    × (inside (gl four) ≡ 2)
    × (inside (and four both) ≡ 2)
    × (inside (and both four) ≡ 2)
    × (inside (or (and four both) both) ≡ 2)
    × (inside eight ≡ 3)
    × (inside (and eight four) ≡ 3)
    × (inside (ev (and four eight)) ≡ 3)
    -- the same by nodes, of marks, an operator and one over it
    × (need_node needs (node_at nodes 0) ≡ 0)
    × (need_node needs (node_at nodes 2) ≡ 1)
    × (need_node needs (node_at nodes 3) ≡ 1)
    × (inside (inner_tree nodes 4 3) ≡ 1)
    -- a count needs what its text needs, and two of them as two operands do
    × (need_node needs (node_at nodes 4) ≡ 1)
    × (outside (leaf (counted (m 0) (amount 1 false fleet))) ≡ 0)
    × (outside (leaf (counted four (amount 1 false fleet))) ≡ 2)
    × (outside (or (leaf (counted four (amount 1 false fleet))) (leaf (counted four (amount 2 true fleet)))) ≡ 3)
    × (outside (or (leaf (counted four (amount 1 false fleet))) (leaf (counted both (amount 2 true fleet)))) ≡ 2)
    × (outside (clause_tree nodes 9 8) ≡ 2)
unfolding need clause_tree inner_tree tree
worked = (
  refl,
  refl,
  refl,
  refl,
  refl,
  refl,
  refl,
  refl,
  refl,
  refl,
  refl,
  refl,
  refl,
  refl,
  refl,
  refl,
  refl,
  refl,
  refl,
  refl,
  refl,
  refl,
  refl,
  refl,
  refl,
  refl,
  refl,
  refl,
  refl,
  refl,
  refl,
  refl,
  refl,
  refl,
  refl,
)

-- of m0 and X m1 the right one is judged first
pub turned : InTurn nodes needs 3 (record { first = 2; second = 0; swapped = true })
turned = record { order = refl; first_is = refl; second_is = refl; below = (omega arith, omega arith); first_need = omega arith; second_need = omega arith }
