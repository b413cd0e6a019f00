-- The first group that the floor lacks, node by node.
use Prim.Native.Nat.{ℕ, zero, suc, ◌+◌, ◌-◌, ◌*◌, ◌/◌, ◌%◌, ◌≤◌, ◌<◌}
use native.Mathlib.Omega.{arith}
use Rattle.std.specs.Prelude.{◌≡◌, Bool, true, false, ◌&&◌, List, [], ◌++◌, eqb, ltb}
use Rattle.std.proofs.Math.Path.{refl, ap}
use Rattle.std.proofs.Common.{sym, ◌∙◌, ⊎_elim, lt-ltb, le-ltb}
use Rattle.std.proofs.Math.Bool.{cond}
use Rattle.grammar.specs.Grammar.{amount}
use Rattle.grammar.specs.Nodes.{Op₁, Op₂, top_n, mark_n, one_n, two_n}
use Rattle.grammar.specs.Groups.{amount_groups, node_groups}
use Rattle.cltl.proofs.Basics.{lt_or_le}
use Rattle.drift.specs.Tree.{one_of, two_of, over_of, amount_at, node_of, kind_at, second_at, third_at, node_at, Ordered}
use Rattle.drift.specs.Kinds.{kind_count}
use Rattle.drift.specs.Lacking.{groups_from, first_lacked}

-- only a count names a group
no_count : (kind x y z : ℕ) → kind < 10 → node_groups (node_of kind x y z) ≡ []
no_count kind x y z p = rw (lt-ltb kind 10 p) (go (one_of kind) (two_of kind) (eqb kind 0) (eqb kind 1) (ltb kind 6))
  where
    go : (o : Op₁) (o' : Op₂) (a b c : Bool) → node_groups (cond a top_n (cond b (mark_n x) (cond c (one_n o x) (two_n o' x y)))) ≡ []
    go o o' true b c = refl
    go o o' false true c = refl
    go o o' false false true = refl
    go o o' false false false = refl

module _ (many : ℕ) (rest : List ℕ) where
  -- a group beyond so many is the first that is lacked, and one below is passed over
  beyond : (o n : ℕ) (percent : Bool) → many < o → first_lacked many (amount_groups (amount n percent (over_of o)) ++ rest) ≡ o
  unfolding first_lacked
  beyond zero n percent p = absurd (omega arith)
  beyond (suc g) n percent p = ap (λ (b : Bool). cond b (first_lacked many rest) (suc g)) (le-ltb g many (omega arith))

  within : (o n : ℕ) (percent : Bool) → o ≤ many → first_lacked many (amount_groups (amount n percent (over_of o)) ++ rest) ≡ first_lacked many rest
  unfolding first_lacked
  within zero n percent p = refl
  within (suc g) n percent p = ap (λ (b : Bool). cond b (first_lacked many rest) (suc g)) (lt-ltb g many (omega arith))

module _ (block : List ℕ) (many k : ℕ) where
  abbrev Lacks : Bool
  Lacks = ltb 9 (kind_at block k) && ltb many (third_at block k / 4)

  abbrev number : ℕ
  number = second_at block k + 256 * (third_at block k % 4)

  abbrev percent : Bool
  percent = eqb (kind_at block k) 11

  -- a count's
  of_count : (rest : List ℕ) → 10 ≤ kind_at block k → node_groups (node_at block k) ++ rest ≡ amount_groups (amount_at block k) ++ rest
  of_count rest p = ap (λ n. node_groups n ++ rest) (kind_count (kind_at block k) _ _ _ p)

  node_lacks : (rest : List ℕ) → Lacks ≡ true → first_lacked many (node_groups (node_at block k) ++ rest) ≡ third_at block k / 4
  node_lacks rest e =
      ⊎_elim (λ p. absurd (not_count p))
      (λ p. ⊎_elim (λ q. absurd (not_beyond p q)) (λ q. ap (first_lacked many) (of_count rest p) ∙ beyond many rest (third_at block k / 4) number percent q)
      (lt_or_le (third_at block k / 4) (suc many))) (lt_or_le (kind_at block k) 10)
    where
      absurd_of : false ≡ true → ⊥
      absurd_of e = let x : ◌≡◌ {A = ℕ} 0 1 = cc in omega arith

      not_count : kind_at block k < 10 → ⊥
      not_count p = absurd_of (sym (ap (λ (b : Bool). b && ltb many (third_at block k / 4)) (le-ltb 9 (kind_at block k) (omega arith))) ∙ e)

      not_beyond : 10 ≤ kind_at block k → third_at block k / 4 < suc many → ⊥
      not_beyond p q =
          absurd_of (sym (rw (lt-ltb 9 (kind_at block k) (omega arith)) (le-ltb many (third_at block k / 4) (omega arith))) ∙ e)

  node_has : (rest : List ℕ) → Lacks ≡ false → first_lacked many (node_groups (node_at block k) ++ rest) ≡ first_lacked many rest
  node_has rest e =
      ⊎_elim (λ p. ap (λ gs. first_lacked many (gs ++ rest)) (no_count (kind_at block k) _ _ _ p))
      (λ p. ⊎_elim (λ q. ap (first_lacked many) (of_count rest p) ∙ within many rest (third_at block k / 4) number percent (omega arith))
      (λ q. absurd (not_within p q))
      (lt_or_le (third_at block k / 4) (suc many))) (lt_or_le (kind_at block k) 10)
    where
      not_within : 10 ≤ kind_at block k → suc many ≤ third_at block k / 4 → ⊥
      not_within p q =
          let x : true ≡ false = sym (rw (lt-ltb 9 (kind_at block k) (omega arith)) (lt-ltb many (third_at block k / 4) (omega arith))) ∙ e in
          let y : ◌≡◌ {A = ℕ} 1 0 = cc in omega arith

-- in a walk over n nodes
module _ (block : List ℕ) (many n k : ℕ) (inside : k < n) where
  next_node : groups_from block (n - k) k ≡ node_groups (node_at block k) ++ groups_from block (n - suc k) (suc k)
  unfolding groups_from
  next_node = let e : n - k ≡ suc (n - suc k) = omega arith in ap (λ (m : ℕ). groups_from block m k) e

  pub found_here : Lacks block many k ≡ true → first_lacked many (groups_from block (n - k) k) ≡ third_at block k / 4
  found_here e = ap (first_lacked many) next_node ∙ node_lacks block many k _ e

  pub found_later : Lacks block many k ≡ false → first_lacked many (groups_from block (n - k) k) ≡ first_lacked many (groups_from block (n - suc k) (suc k))
  found_later e = ap (first_lacked many) next_node ∙ node_has block many k _ e

pub fewer_nodes : (block : List ℕ) (n m : ℕ) → m ≤ n → Ordered block n → Ordered block m
fewer_nodes block n m p o = record { room = omega (arith, o.room); below = λ k q. o.below k (omega arith) }

-- none is left behind the last node
pub none_left : (block : List ℕ) (many n k : ℕ) → n ≤ k → first_lacked many (groups_from block (n - k) k) ≡ 0
unfolding groups_from first_lacked
none_left block many n k p = let e : n - k ≡ 0 = omega arith in ap (λ (m : ℕ). first_lacked many (groups_from block m k)) e
