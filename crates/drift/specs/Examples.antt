-- Worked cases, by computation: which nodes are leaves, which operators are ors, and where tables lie.
use Rattle.std.specs.Prelude.{◌≡◌, refl, true, false, [], ◌∷◌}
use Rattle.std.proofs.Common.{leb-true, ltb-true}
use Rattle.grammar.specs.Grammar.{leaf, or, fleet, amount, counted, Clause}
use Rattle.grammar.specs.Nodes.{top_n, mark_n, count_n, and₂, or₂, until₂, release₂}
use Rattle.cltl.specs.Rules.{leaves}
use Rattle.drift.specs.Tree.{is_leaf}
use Rattle.drift.specs.Operator.{is_or}
use Rattle.drift.specs.Answer.{joinable}
use Rattle.drift.specs.declared.Ground.{Ground}
use Rattle.drift.specs.Tallies.{tally_at}
use Rattle.drift.specs.Places.{constant_at, leaf_at, pairs_end, other_of}

abbrev either : Clause
either = or (leaf (counted (leaf 0) (amount 1 false fleet))) (leaf (counted (leaf 1) (amount 2 false fleet)))

-- by their kinds: `true` and a mark, from ! to R operators, the two kinds of counts
pub kinds :
    (is_leaf 0 ≡ true)
    × (is_leaf 1 ≡ true)
    × (is_leaf 2 ≡ false)
    × (is_leaf 5 ≡ false)
    × (is_leaf 6 ≡ false)
    × (is_leaf 9 ≡ false)
    × (is_leaf 10 ≡ true)
    × (is_leaf 11 ≡ true)
kinds = (refl, refl, refl, refl, refl, refl, refl, refl)

-- which operators are ors or ask for one, as they stand and under a negation
pub ors :
    (is_or and₂ true ≡ false)
    × (is_or and₂ false ≡ true)
    × (is_or or₂ true ≡ true)
    × (is_or or₂ false ≡ false)
    × (is_or until₂ true ≡ true)
    × (is_or until₂ false ≡ false)
    × (is_or release₂ true ≡ false)
    × (is_or release₂ false ≡ true)
    -- the counts of [m0,1] | [m1,2] are joined with drift, of its negation none are, and without drift none
    × (joinable 1 true either ≡ ((true, counted (leaf 0) (amount 1 false fleet)) ∷ (true, counted (leaf 1) (amount 2 false fleet)) ∷ []))
    × (joinable 1 false either ≡ [])
    × (joinable 0 true either ≡ [])
unfolding leaves
ors = (refl, refl, refl, refl, refl, refl, refl, refl, refl, refl, refl)

-- two carts with two marks, and as many of all as there can be
abbrev small : Ground
small = record {
  carts = 2;
  lasso = record { h = 3; l = 0; lap = ltb-true 0 3 refl; short = leb-true 3 64 refl };
  drift = 1;
  marks = 2;
  some = ltb-true 0 2 refl;
  few = leb-true 2 32 refl;
  drift_bound = leb-true 1 16 refl;
  marks_bound = leb-true 2 32 refl;
}

abbrev full : Ground
full = record {
  carts = 32;
  lasso = record { h = 64; l = 0; lap = ltb-true 0 64 refl; short = leb-true 64 64 refl };
  drift = 16;
  marks = 32;
  some = ltb-true 0 32 refl;
  few = leb-true 32 32 refl;
  drift_bound = leb-true 16 16 refl;
  marks_bound = leb-true 32 32 refl;
}

-- with two marks and three steps: two tables of marks, that of all, that of none, and twelve places
pub worked :
    (leaf_at 2 3 (mark_n 0) ≡ 0)
    × (leaf_at 2 3 (mark_n 1) ≡ 3)
    × (leaf_at 2 3 top_n ≡ 6)
    -- a mark above the highest that is borne has the table of none
    × (leaf_at 2 3 (mark_n 2) ≡ 9)
    × (leaf_at 2 3 (mark_n 31) ≡ 9)
    -- a count inside a count is `true`
    × (leaf_at 2 3 (count_n 0 (amount 1 false fleet)) ≡ 6)
    × (constant_at 2 3 true ≡ 6)
    × (constant_at 2 3 false ≡ 9)
    × (pairs_end 2 3 ≡ 48)
    -- of the pair at 12, the place that is not in use; a mark's table uses neither
    × (other_of 12 3 12 ≡ 15)
    × (other_of 12 3 15 ≡ 12)
    × (other_of 12 3 3 ≡ 12)
    -- the full block
    × (pairs_end 32 64 ≡ 2944)
    -- the tallies of marks 0 and 1 lie where their tables do, those of their negations behind
    × (tally_at small 0 true ≡ 0)
    × (tally_at small 3 true ≡ 3)
    × (tally_at small 0 false ≡ 6)
    × (tally_at small 3 false ≡ 9)
    -- with all marks and steps, the last mark's end where those of negations begin, and there is no room
    × (tally_at full 1984 true ≡ 1984)
    × (tally_at full 0 false ≡ 2048)
worked = (refl, refl, refl, refl, refl, refl, refl, refl, refl, refl, refl, refl, refl, refl, refl, refl, refl, refl, refl)
