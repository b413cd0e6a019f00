-- Where tables lie does not clash.
use Rattle.std.specs.Prelude.{ℕ, suc, ◌+◌, ◌*◌, ◌≤◌, ◌<◌, ◌≡◌, refl, Bool, true, false, cond, List, ◌⊎◌, eqb, ltb}
use Rattle.std.proofs.Common.{sym, subst, inl, inr, arith, add-mul, suc-mul, mul-le-mul, le_refl, lt-ltb, le-ltb, eqb-true, ne_eqb}
use Rattle.std.proofs.lemmas.Bool.{eqb-false}
use Rattle.grammar.specs.Grammar.{Amount}
use Rattle.grammar.specs.Nodes.{Node, top_n, mark_n, count_n, one_n, two_n, Op₁, Op₂}
use Rattle.table.specs.Table.{told, Apart}
use Rattle.table.specs.Layout.{all_at, none_at, pairs_at, mark_at, Constants}
use Rattle.table.specs.Keeping.{all_ends, none_ends, mark_ends}
use Rattle.drift.specs.declared.Ground.{Ground}
use Rattle.drift.specs.Tree.{kind_at, node_at, one_of, two_of}
use Rattle.drift.specs.Places.{constant_at, leaf_at, pairs_end, other_of, Placed}

-- what is so of two is so of either
pub chosen_of : (Q : ℕ → Type 0) (p : Bool) (x y : ℕ) → Q x → Q y → (r : ℕ) → r ≡ cond p x y → Q r
chosen_of Q true x y a b r e = subst Q (sym e) a
chosen_of Q false x y a b r e = subst Q (sym e) b

-- so many tables are so many words at most
pub at_most : (g : Ground) (n m : ℕ) → n ≤ m → n * g.lasso.h ≤ m * 64
at_most g n m q = mul-le-mul {n₁ = n} {m₁ = g.lasso.h} {n₂ = m} {m₂ = 64} q g.lasso.short

-- so the pairs end there at the latest
pub pairs_end_lem : (g : Ground) → pairs_end g.marks g.lasso.h ≤ 2944
pairs_end_lem g = at_most g (g.marks + 14) 46 (let m = g.marks_bound in omega arith)

module _ (marks h : ℕ) where
  pub constant_ends : (p : Bool) → constant_at marks h p + h ≤ pairs_at marks h
  constant_ends true = all_ends marks h
  constant_ends false = none_ends marks h

  pub constant_told : (t : List ℕ) → Constants marks h t → (p : Bool) (i s : ℕ) → i < 32 → s < h → told t (constant_at marks h p) i s ≡ p
  constant_told t c true i s q z = c.all i s q z
  constant_told t c false i s q z = c.none i s q z

  pub mark_here : (m : ℕ) → m < marks → m * h ≡ mark_at marks h m
  mark_here m q = rw (lt-ltb m marks q)

  pub mark_above : (m : ℕ) → marks ≤ m → none_at marks h ≡ mark_at marks h m
  mark_above m q = rw (le-ltb m marks q)

  pub leaf_ends : (x : Node) → leaf_at marks h x + h ≤ pairs_at marks h
  leaf_ends top_n = all_ends marks h
  leaf_ends (mark_n m) = mark_ends marks h m
  leaf_ends (count_n i x) = all_ends marks h
  leaf_ends (one_n o i) = all_ends marks h
  leaf_ends (two_n o i j) = all_ends marks h

  -- only a mark's table is not that of all
  pub leaf_else : (nodes : List ℕ) (k : ℕ) → (kind_at nodes k ≡ 1 → ⊥) → all_at marks h ≡ leaf_at marks h (node_at nodes k)
  leaf_else nodes k n =
      rw (ne_eqb (kind_at nodes k) 1 n)
      (rest (one_of (kind_at nodes k)) (two_of (kind_at nodes k)) _ _ _ (eqb (kind_at nodes k) 0) (ltb (kind_at nodes k) 6) (ltb (kind_at nodes k) 10))
    where
      rest : (o : Op₁) (o' : Op₂) (x y : ℕ) (z : Amount) (a b c : Bool)
          → all_at marks h ≡ leaf_at marks h (cond a top_n (cond b (one_n o x) (cond c (two_n o' x y) (count_n x z))))
      rest o o' x y z true b c = refl
      rest o o' x y z false true c = refl
      rest o o' x y z false false true = refl
      rest o o' x y z false false false = refl

  -- six pairs lie behind the tables that are there already
  pub six_end : (n : ℕ) → n ≤ 6 → pairs_at marks h + n * (2 * h) ≤ pairs_end marks h
  six_end n q = omega (arith, add-mul marks 2 h, add-mul marks 14 h, mul-le-mul {n₁ = n} {m₁ = 2 * h} {n₂ = 6} {m₂ = 2 * h} q (le_refl (2 * h)))

  module _ (at : ℕ) (behind : pairs_at marks h ≤ at) where
    -- a table of a pair ends with the pair
    pub placed_ends : (r : ℕ) → Placed marks h at r → r + h ≤ at + 2 * h
    placed_ends r (inl q) = omega arith
    placed_ends r (inr (inl e)) = omega arith
    placed_ends r (inr (inr e)) = omega arith

    pub other_placed : (r : ℕ) → Placed marks h at (other_of at h r)
    other_placed r = inr (go (eqb r at))
      where
        go : (b : Bool) → (cond b (at + h) at ≡ at) ⊎ (cond b (at + h) at ≡ at + h)
        go true = inr refl
        go false = inl refl

    -- an operand is not in the place that its operator takes
    pub other_apart : (r : ℕ) → Placed marks h at r → Apart r (other_of at h r) h
    other_apart r p = go (eqb r at) (eqb-true r at) (eqb-false r at) p
      where
        go : (b : Bool) → (b ≡ true → r ≡ at) → (b ≡ false → r ≡ at → ⊥) → Placed marks h at r → Apart r (cond b (at + h) at) h
        go true f n p = inl (let e = f refl in omega arith)
        go false f n (inl q) = inl (omega arith)
        go false f n (inr (inl e)) = absurd (n refl e)
        go false f n (inr (inr e)) = inr (omega arith)

    -- nor is the other one, which is in the pair behind
    pub behind_apart : (r to : ℕ) → Placed marks h (at + 2 * h) r → Placed marks h at to → at ≤ to → Apart r to h
    behind_apart r to (inl q) p z = inl (omega arith)
    behind_apart r to (inr (inl e)) p z = inr (omega (arith, placed_ends to p))
    behind_apart r to (inr (inr e)) p z = inr (omega (arith, placed_ends to p))

    pub other_behind : (r : ℕ) → at ≤ other_of at h r
    other_behind r = go (eqb r at)
      where
        go : (b : Bool) → at ≤ cond b (at + h) at
        go true = omega arith
        go false = le_refl at

    -- two operands and the place that their operator takes
    pub two_apart : (first second n : ℕ) → Placed marks h at first → Placed marks h (at + 2 * h) second → at + 2 * h ≤ n → let to = other_of at h first in
        (first + h ≤ n) × (to + h ≤ n) × Apart first to h × Apart second to h
    two_apart first second n p q room =
        let made = other_placed first in (
          omega (arith, placed_ends first p),
          omega (arith, placed_ends (other_of at h first) made),
          other_apart first p,
          behind_apart second (other_of at h first) q made (other_behind first),
        )

-- room for fewer pairs, and for those behind the first
module _ (h at end n m : ℕ) (room : at + m * (2 * h) ≤ end) where
  pub fewer_pairs : n ≤ m → at + n * (2 * h) ≤ end
  fewer_pairs q = omega (arith, mul-le-mul {n₁ = n} {m₁ = 2 * h} {n₂ = m} {m₂ = 2 * h} q (le_refl (2 * h)))

  pub pairs_behind : n < m → at + 2 * h + n * (2 * h) ≤ end
  pairs_behind q = omega (arith, suc-mul n (2 * h), mul-le-mul {n₁ = suc n} {m₁ = 2 * h} {n₂ = m} {m₂ = 2 * h} q (le_refl (2 * h)))
