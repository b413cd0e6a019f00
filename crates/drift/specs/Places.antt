-- Where the tables of inner text lie. A place here is room for one table of h words, no place of the floor.
use Rattle.std.specs.Prelude.{ℕ, ◌+◌, ◌*◌, ◌≤◌, ◌≡◌, Bool, cond, ◌⊎◌, eqb}
use Rattle.grammar.specs.Nodes.{Node, top_n, mark_n, count_n, one_n, two_n}
use Rattle.table.specs.Layout.{all_at, none_at, pairs_at, mark_at}

module _ (marks h : ℕ) where
  -- a table of p at every step
  abbrev pub constant_at : Bool → ℕ
  constant_at p = cond p (all_at marks h) (none_at marks h)

  -- a leaf's table is there already; a count inside a count stands for `true`, and an operator is no leaf
  abbrev pub leaf_at : Node → ℕ
  leaf_at top_n = all_at marks h
  leaf_at (mark_n m) = mark_at marks h m
  leaf_at (count_n i x) = all_at marks h
  leaf_at (one_n o i) = all_at marks h
  leaf_at (two_n o i j) = all_at marks h

  -- behind the tables that are there already lie six pairs of places
  abbrev pub pairs_end : ℕ
  pairs_end = (marks + 14) * h

  -- n pairs of them from an offset on
  abbrev pub PairsFrom : (at n : ℕ) → Type 0
  PairsFrom at n = (pairs_at marks h ≤ at) × (at + n * (2 * h) ≤ pairs_end)

  -- a text's table is among those that were there, or in the pair of places at an offset
  abbrev pub Placed : (at r : ℕ) → Type 0
  Placed at r = (r + h ≤ pairs_at marks h) ⊎ ((r ≡ at) ⊎ (r ≡ at + h))

-- the place of a pair that is not in use
abbrev pub other_of : (at h used : ℕ) → ℕ
other_of at h used = cond (eqb used at) (at + h) at
