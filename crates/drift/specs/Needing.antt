-- The needs of nodes from those of their operands, and that six pairs do for every clause.
use Rattle.std.specs.Prelude.{ℕ, zero, suc, ◌+◌, ◌*◌, ◌^◌, ◌≤◌, ◌<◌, max, ◌≡◌, refl, Bool, true, false, cond, List, eqb, get_or, length, set}
use Rattle.std.proofs.Common.{sym, ap, ap₂, subst, ◌∙◌, ⊎_elim, le_refl, pow-suc, length-set, pow_mono, get_or-set_same, get_or-set_other, below_more, eq-eqb, ne_eqb, eqb-true}
use native.Mathlib.Omega.{arith}
use Rattle.grammar.specs.Grammar.{Form, top, leaf, neg, and, or, next, until, release, ev, gl, Counted, counted, Clause}
use Rattle.grammar.specs.Limits.{nodes, mark_nodes, count_nodes}
use Rattle.grammar.specs.Nodes.{Node, top_n, mark_n, count_n, one_n, two_n}
use Rattle.cltl.proofs.Basics.{lt_or_le}
use Rattle.drift.specs.Tree.{node_at, OperandsBelow, Ordered}
use Rattle.drift.specs.Need.{more, need, mark_need, count_need, need_node, Needs}
use Rattle.drift.specs.Lent.{ClauseNodes}
use Rattle.drift.specs.OperatorTruth.{ordered_less}

---- Of two needs.
pub more_same : (a b : ℕ) → a ≡ b → suc a ≡ more a b
more_same a b e = rw (eq-eqb a b e)

pub more_other : (a b : ℕ) → (a ≡ b → ⊥) → max a b ≡ more a b
more_other a b f = rw (ne_eqb a b f)

-- what holds of both cases
more_by : (P : ℕ → Type 0) (a b : ℕ) → (a ≡ b → P (suc a)) → P (max a b) → P (more a b)
more_by P a b f g = go (eqb a b) refl
  where
    go : (t : Bool) → eqb a b ≡ t → P (cond t (suc a) (max a b))
    go true e = f (eqb-true a b e)
    go false e = g

-- a node's need is at most its number, where those of its operands are
pub need_below : (needs : List ℕ) (k : ℕ) (x : Node) → OperandsBelow k x → ((j : ℕ) → j < k → get_or needs j 0 ≤ j) → need_node needs x ≤ k
need_below needs k top_n b f = omega arith
need_below needs k (mark_n m) b f = omega arith
need_below needs k (count_n i x) b f = omega (arith, f i b)
need_below needs k (one_n o i) b f = omega (arith, f i b)
need_below needs k (two_n o i j) b f =
    more_by (λ (n : ℕ). n ≤ k) (get_or needs i 0) (get_or needs j 0) (λ e. omega (arith, b.0, f i b.0))
    (omega (arith, b.0, b.1, f i b.0, f j b.1))

-- what holds of each byte, with one byte more
pub each_more : (P : ℕ → ℕ → Type 0) (needs : List ℕ) (k v : ℕ) → k < length needs → ((j : ℕ) → j < k → P j (get_or needs j 0)) → P k v
    → (j : ℕ) → j < k + 1 → P j (get_or (set needs k v) j 0)
each_more P needs k v q f g =
    below_more (λ (j : ℕ). P j (get_or (set needs k v) j 0)) k (λ j z. subst (P j) (sym (get_or-set_other needs k j v 0 (λ e. omega arith))) (f j z))
    (subst (P k) (sym (get_or-set_same needs k v 0 q)) g)

---- The needs of nodes.
pub needs_less : (block needs : List ℕ) (n m : ℕ) → m ≤ n → Needs block needs n → Needs block needs m
needs_less block needs n m q r = record { room = let z = r.room in omega arith; each = λ k p. r.each k (omega arith) }

-- what is known of the nodes up to node k is known of those up to one below it
pub up_to : (block needs : List ℕ) (k i : ℕ) → i < k → Ordered block (k + 1) × Needs block needs (k + 1) → Ordered block (i + 1) × Needs block needs (i + 1)
up_to block needs k i q r = (ordered_less block (k + 1) (i + 1) (omega arith) r.0, needs_less block needs (k + 1) (i + 1) (omega arith) r.1)

-- a node's need is by the bytes below its number
need_agrees : (f g : List ℕ) (k : ℕ) → ((i : ℕ) → i < k → get_or f i 0 ≡ get_or g i 0) → (x : Node) → OperandsBelow k x → need_node f x ≡ need_node g x
need_agrees f g k e top_n b = refl
need_agrees f g k e (mark_n m) b = refl
need_agrees f g k e (count_n i x) b = e i b
need_agrees f g k e (one_n o i) b = ap (max 1) (e i b)
need_agrees f g k e (two_n o i j) b = ap₂ more (e i b.0) (e j b.1)

-- one byte more
pub needs_more : (block needs : List ℕ) (k v : ℕ) → Ordered block (k + 1) → Needs block needs k → k < length needs → v ≡ need_node needs (node_at block k)
    → Needs block (set needs k v) (k + 1)
needs_more block needs k v o r q e = record {
  room = omega (arith, length-set needs k v);
  each = λ j p. each_more (λ (i x : ℕ). i < k + 1 → x ≡ need_node (set needs k v) (node_at block i)) needs k v q (λ i z p. r.each i z ∙ same i p)
      (λ p. e ∙ same k p) j p p;
}
  where
    same : (i : ℕ) → i < k + 1 → need_node needs (node_at block i) ≡ need_node (set needs k v) (node_at block i)
    same i p =
        need_agrees needs (set needs k v) i (λ j z. sym (get_or-set_other needs k j v 0 (λ e. omega arith))) (node_at block i) (o.below i (omega arith))

---- A text that needs n pairs has 3 × 2 ^ (n − 1) − 1 nodes at least.
pow_one : (n m : ℕ) → 1 ≤ m → 3 * 2 ^ n ≤ 2 * (m + 1) → 3 * 2 ^ max 1 n ≤ 2 * (suc m + 1)
pow_one zero m some q = omega arith
pow_one (suc n) m some q = let e : max 1 (suc n) ≡ suc n = omega arith in rw e (omega arith)

pow_more : (n n' m m' : ℕ) → 3 * 2 ^ n ≤ 2 * (m + 1) → 3 * 2 ^ n' ≤ 2 * (m' + 1) → 3 * 2 ^ more n n' ≤ 2 * (suc (m + m') + 1)
pow_more n n' m m' q q' =
    more_by (λ (a : ℕ). 3 * 2 ^ a ≤ 2 * (suc (m + m') + 1)) n n' (λ e. omega (arith, pow-suc 2 n, ap (λ (a : ℕ). 2 ^ a) e)) (⊎_elim low high (lt_or_le n n'))
  where
    low : n < n' → 3 * 2 ^ max n n' ≤ 2 * (suc (m + m') + 1)
    low z = let e : max n n' ≡ n' = omega arith in rw e (omega arith)

    high : n' ≤ n → 3 * 2 ^ max n n' ≤ 2 * (suc (m + m') + 1)
    high z = let e : max n n' ≡ n = omega arith in rw e (omega arith)

module _ {L : Type 0} (leafNeed leaf_nodes : L → ℕ) (some : (x : L) → 1 ≤ leaf_nodes x) (few : (x : L) → 3 * 2 ^ leafNeed x ≤ 2 * (leaf_nodes x + 1)) where
  some_nodes : (a : Form L) → 1 ≤ nodes leaf_nodes a
  some_nodes top = le_refl 1
  some_nodes (leaf x) = some x
  some_nodes (neg a) = omega arith
  some_nodes (and a b) = omega arith
  some_nodes (or a b) = omega arith
  some_nodes (next a) = omega arith
  some_nodes (until a b) = omega arith
  some_nodes (release a b) = omega arith
  some_nodes (ev a) = omega arith
  some_nodes (gl a) = omega arith

  one_few : (a : Form L) → 3 * 2 ^ need leafNeed a ≤ 2 * (nodes leaf_nodes a + 1) → 3 * 2 ^ max 1 (need leafNeed a) ≤ 2 * (suc (nodes leaf_nodes a) + 1)
  one_few a q = pow_one (need leafNeed a) (nodes leaf_nodes a) (some_nodes a) q

  need_few : (a : Form L) → 3 * 2 ^ need leafNeed a ≤ 2 * (nodes leaf_nodes a + 1)
  unfolding need
  need_few top = omega arith
  need_few (leaf x) = few x
  need_few (neg a) = one_few a (need_few a)
  need_few (and a b) = pow_more _ _ (nodes leaf_nodes a) (nodes leaf_nodes b) (need_few a) (need_few b)
  need_few (or a b) = pow_more _ _ (nodes leaf_nodes a) (nodes leaf_nodes b) (need_few a) (need_few b)
  need_few (next a) = one_few a (need_few a)
  need_few (until a b) = pow_more _ _ (nodes leaf_nodes a) (nodes leaf_nodes b) (need_few a) (need_few b)
  need_few (release a b) = pow_more _ _ (nodes leaf_nodes a) (nodes leaf_nodes b) (need_few a) (need_few b)
  need_few (ev a) = one_few a (need_few a)
  need_few (gl a) = one_few a (need_few a)

count_some : (x : Counted) → 1 ≤ count_nodes x
count_some (counted a x) = omega arith

count_few : (x : Counted) → 3 * 2 ^ count_need x ≤ 2 * (count_nodes x + 1)
count_few (counted a x) = omega (arith, need_few mark_need mark_nodes (λ m. le_refl 1) (λ m. omega arith) a)

-- so six pairs do for 128 nodes
pub six_pairs : (c : Clause) → nodes count_nodes c ≤ 128 → need count_need c ≤ 6
six_pairs c q =
    ⊎_elim (λ z. omega arith)
    (λ z.
    let p : 2 ^ 7 ≤ 2 ^ need count_need c = pow_mono {i = 7} {j = need count_need c} z in
    absurd (omega (arith, need_few count_need count_nodes count_some count_few c)))
    (lt_or_le (need count_need c) 7)

---- The operands of a clause's node.
module _ (block needs : List ℕ) (k : ℕ) (c : ClauseNodes block needs k) where
  pub operand_nodes : (i : ℕ) → i < k → get_or needs i 0 ≤ get_or needs k 0 → ClauseNodes block needs i
  operand_nodes i q z =
      let both = up_to block needs k i q (c.ordered, c.needed) in
      record { ordered = both.0; needed = both.1; few = omega (arith, c.few) }
