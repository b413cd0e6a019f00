-- The tree of a clause's node, by the tests on its kind.
use Prim.Native.Nat.{ℕ, zero, suc, ◌+◌, ◌≤◌, ◌<◌}
use native.Mathlib.Omega.{arith}
use Rattle.std.specs.Prelude.{◌≡◌, Bool, true, false, cond, ◌||◌, List, eqb, length}
use Rattle.std.proofs.Math.Path.{refl, sym, ap, ap₂}
use Rattle.std.proofs.Common.{◌∙◌, eq-eqb, ne_eqb}
use Rattle.std.proofs.Math.Logic.{⊎_elim}
use Rattle.grammar.specs.Grammar.{top, leaf, gl, counted, Clause}
use Rattle.grammar.specs.Nodes.{Node, top_n, mark_n, count_n, one_n, two_n, Op₁, neg₁, next₁, ev₁, gl₁, Op₂, and₂, or₂, until₂, release₂}
use Rattle.cltl.specs.Meaning.{Rows}
use Rattle.cltl.specs.Rules.{has_next, rules}
use Rattle.cltl.proofs.Basics.{lt_or_le}
use Rattle.cltl.specs.Step.{lowest, failing}
use Rattle.drift.specs.Tree.{is_leaf, node_at, one, two, one_of, two_of, form_of, tree, inner_tree, clause_tree, Ordered, amount_at}
use Rattle.drift.specs.Kinds.{kind_top, kind_mark, kind_one, kind_two, kind_count}
use Rattle.drift.specs.Tree.{kind_at, first_at, second_at}
use Rattle.drift.specs.NodeIs.{of_leaf}
use Rattle.drift.specs.NodeTruth.{one_low, two_low}

module _ (block : List ℕ) (n k : ℕ) where
  abbrev form : Node → Clause
  form x = form_of (λ m. top) (λ i x. leaf (counted (inner_tree block (length block) i) x)) (λ i. clause_tree block n i) x

  pub looked_up : (x : Node) → node_at block k ≡ x → clause_tree block (suc n) k ≡ form x
  unfolding clause_tree tree
  looked_up x e = ap (form_of _ _ _) e

  -- the kind of a node's outermost operator
  pub top_tree : kind_at block k < 2 → clause_tree block (suc n) k ≡ top
  top_tree q =
      ⊎_elim (λ z. looked_up top_n (kind_top (kind_at block k) _ _ _ (omega arith)))
      (λ z. looked_up (mark_n (first_at block k)) (kind_mark (kind_at block k) _ _ _ (omega arith))) (lt_or_le (kind_at block k) 1)

  pub one_tree : 2 ≤ kind_at block k → kind_at block k < 6 → clause_tree block (suc n) k ≡ one (one_of (kind_at block k)) (clause_tree block n (first_at block k))
  one_tree q q' = looked_up (one_n (one_of (kind_at block k)) (first_at block k)) (kind_one _ _ _ _ q q')

  pub two_tree : 6 ≤ kind_at block k → kind_at block k < 10
      → clause_tree block (suc n) k ≡ two (two_of (kind_at block k)) (clause_tree block n (first_at block k)) (clause_tree block n (second_at block k))
  two_tree q q' = looked_up (two_n (two_of (kind_at block k)) (first_at block k) (second_at block k)) (kind_two _ _ _ _ q q')

---- "next" outside counts.
module _ (block : List ℕ) (k : ℕ) where
  -- b tells it of node k's tree, however deep the look
  abbrev pub Tells : Bool → Type 0
  Tells b = (n : ℕ) → k < n → b ≡ has_next (clause_tree block n k)

  tells : (b : Bool) → ((n : ℕ) → k ≤ n → b ≡ has_next (clause_tree block (suc n) k)) → Tells b
  tells b f zero q = absurd (omega arith)
  tells b f (suc n) q = f n (omega arith)

  pub next_tells : kind_at block k ≡ 3 → Tells true
  next_tells e =
      tells true
      (λ n q. sym (ap has_next (one_tree block n k (omega arith) (omega arith) ∙ ap (λ (o : Op₁). one o (clause_tree block n (first_at block k))) next_is)))
    where
      next_is : one_of (kind_at block k) ≡ next₁
      next_is = let a : (kind_at block k ≡ 2) → ⊥ = (λ d. omega arith) in rw (ne_eqb (kind_at block k) 2 a, eq-eqb (kind_at block k) 3 e)

  pub leaf_tells : (kind : ℕ) → kind ≡ kind_at block k → is_leaf kind ≡ true → Tells false
  leaf_tells kind ek e =
      tells false
      (λ n z. of_leaf (λ x. has_next (form block n k x)) block k kind ek false refl (λ m. refl) (λ i x. refl) e
      ∙ sym (ap has_next (looked_up block n k (node_at block k) refl)))

  has_one : (kind : ℕ) (a : Clause) → (kind ≡ 3 → ⊥) → has_next a ≡ has_next (one (one_of kind) a)
  has_one kind a f = rw (ne_eqb kind 3 f) (go (eqb kind 2) (eqb kind 4))
    where
      go : (b c : Bool) → has_next a ≡ has_next (one (cond b neg₁ (cond c ev₁ gl₁)) a)
      go true c = refl
      go false true = refl
      go false false = refl

  has_two : (o : Op₂) (a b : Clause) → (has_next a || has_next b) ≡ has_next (two o a b)
  has_two and₂ a b = refl
  has_two or₂ a b = refl
  has_two until₂ a b = refl
  has_two release₂ a b = refl

  module _ (o : Ordered block (k + 1)) (a : Bool) (f : (n : ℕ) → first_at block k < n → a ≡ has_next (clause_tree block n (first_at block k))) where
    pub one_tells : 2 ≤ kind_at block k → kind_at block k < 6 → (kind_at block k ≡ 3 → ⊥) → Tells a
    one_tells q q' z =
        tells a
        (λ n r. let low = one_low block k o q q' in f n (omega arith) ∙ has_one (kind_at block k) (clause_tree block n (first_at block k)) z ∙ sym
        (ap has_next (one_tree block n k q q')))

    pub two_tells : (b : Bool) → ((n : ℕ) → second_at block k < n → b ≡ has_next (clause_tree block n (second_at block k))) → 6 ≤ kind_at block k
        → kind_at block k < 10 → Tells (a || b)
    two_tells b g q q' =
        tells (a || b)
        (λ n r.
        let low = two_low block k o q q' in
        let x : a ≡ has_next (clause_tree block n (first_at block k)) = f n (let y = low.0 in omega arith) in
        let y : b ≡ has_next (clause_tree block n (second_at block k)) = g n (let y = low.1 in omega arith) in
        ap₂ (λ (u v : Bool). u || v) x y
        ∙ has_two (two_of (kind_at block k)) (clause_tree block n (first_at block k)) (clause_tree block n (second_at block k))
        ∙ sym (ap has_next (two_tree block n k q q')))

---- The step of a G that fails.
module _ (P : Rows) (d : ℕ) (block : List ℕ) (k : ℕ) where
  pub globally_step : Ordered block (k + 1) → kind_at block k ≡ 5 → (v x : ℕ) → x ≡ first_at block k
      → ((n : ℕ) → x < n → v ≡ lowest (λ s. rules P d (clause_tree block n x) s) P.h 0)
      → (n : ℕ) → k < n → v ≡ failing P d (clause_tree block n k)
  unfolding failing
  globally_step o e v x ex f zero q = absurd (omega arith)
  globally_step o e v x ex f (suc n) q =
      let low = one_low block k o (omega arith) (omega arith) in
      let tree : clause_tree block (suc n) k ≡ gl (clause_tree block n x) =
      one_tree block n k (omega arith) (omega arith) ∙ ap₂ (λ (o : Op₁) (i : ℕ). one o (clause_tree block n i)) is (sym ex) in
      f n (omega arith) ∙ sym (ap (failing P d) tree)
    where
      is : one_of (kind_at block k) ≡ gl₁
      is = rw e

  -- any other operator
  step_one : (kind : ℕ) (a : Clause) → 2 ≤ kind → kind < 5 → 0 ≡ failing P d (one (one_of kind) a)
  unfolding failing
  step_one kind a q q' =
      ⊎_elim (λ z. let e : kind ≡ 2 = omega arith in rw e)
      (λ z. ⊎_elim (λ y. let e : kind ≡ 3 = omega arith in rw e) (λ y. let e : kind ≡ 4 = omega arith in rw e) (lt_or_le kind 4)) (lt_or_le kind 3)

  step_two : (o : Op₂) (a b : Clause) → 0 ≡ failing P d (two o a b)
  unfolding failing
  step_two and₂ a b = refl
  step_two or₂ a b = refl
  step_two until₂ a b = refl
  step_two release₂ a b = refl

  pub other_step : (kind_at block k ≡ 5 → ⊥) → (n : ℕ) → k < n → 0 ≡ failing P d (clause_tree block n k)
  unfolding failing
  other_step f zero q = absurd (omega arith)
  other_step f (suc n) q =
      ⊎_elim low (λ z. ⊎_elim (one_at z) (λ y. ⊎_elim (two_at y) count_at (lt_or_le (kind_at block k) 10)) (lt_or_le (kind_at block k) 6))
      (lt_or_le (kind_at block k) 2)
    where
      low : kind_at block k < 2 → 0 ≡ failing P d (clause_tree block (suc n) k)
      low z = sym (ap (failing P d) (top_tree block n k z))

      one_at : 2 ≤ kind_at block k → kind_at block k < 6 → 0 ≡ failing P d (clause_tree block (suc n) k)
      one_at z y = step_one (kind_at block k) _ z (omega arith) ∙ sym (ap (failing P d) (one_tree block n k z y))

      two_at : 6 ≤ kind_at block k → kind_at block k < 10 → 0 ≡ failing P d (clause_tree block (suc n) k)
      two_at z y = step_two (two_of (kind_at block k)) _ _ ∙ sym (ap (failing P d) (two_tree block n k z y))

      count_at : 10 ≤ kind_at block k → 0 ≡ failing P d (clause_tree block (suc n) k)
      count_at z =
          sym
          (ap (failing P d)
          (looked_up block n k (count_n (first_at block k) (amount_at block k)) (kind_count _ _ _ _ z)))
