-- What a node is, by the tests on its kind.
use Rattle.std.specs.Prelude.{ℕ, ◌≤◌, ◌<◌, ◌≡◌, Bool, true, false, ◌⊎◌, T, ltb}
use Rattle.std.proofs.Common.{sym, subst, inl, inr, ⊎_elim, ltb→lt, lt→ltb, eq-eqb, ne_eqb, lt-ltb, le-ltb, arith}
use Rattle.grammar.specs.Nodes.{top_n, mark_n, count_n, one_n, two_n}
use Rattle.cltl.proofs.Basics.{or_cases, or_l, or_r, lt_or_le}
use Rattle.drift.specs.Tree.{is_leaf, node_of, one_of, two_of, amount_of}

module _ (kind x y z : ℕ) where
  pub kind_top : kind ≡ 0 → node_of kind x y z ≡ top_n
  kind_top e = rw (eq-eqb kind 0 e)

  pub kind_mark : kind ≡ 1 → node_of kind x y z ≡ mark_n x
  kind_mark e = let a : (kind ≡ 0) → ⊥ = (λ d. omega arith) in rw (ne_eqb kind 0 a, eq-eqb kind 1 e)

  pub kind_one : 2 ≤ kind → kind < 6 → node_of kind x y z ≡ one_n (one_of kind) x
  kind_one p q =
      let a : (kind ≡ 0) → ⊥ = (λ d. omega arith) in
      let b : (kind ≡ 1) → ⊥ = (λ d. omega arith) in
      rw (ne_eqb kind 0 a, ne_eqb kind 1 b, lt-ltb kind 6 q)

  pub kind_two : 6 ≤ kind → kind < 10 → node_of kind x y z ≡ two_n (two_of kind) x y
  kind_two p q =
      let a : (kind ≡ 0) → ⊥ = (λ d. omega arith) in
      let b : (kind ≡ 1) → ⊥ = (λ d. omega arith) in
      rw (ne_eqb kind 0 a, ne_eqb kind 1 b, le-ltb kind 6 p, lt-ltb kind 10 q)

  pub kind_count : 10 ≤ kind → node_of kind x y z ≡ count_n x (amount_of kind y z)
  kind_count p =
      let a : (kind ≡ 0) → ⊥ = (λ d. omega arith) in
      let b : (kind ≡ 1) → ⊥ = (λ d. omega arith) in
      let c : 6 ≤ kind = omega arith in
      rw (ne_eqb kind 0 a, ne_eqb kind 1 b, le-ltb kind 6 c, le-ltb kind 10 p)

-- the kinds of leaves, and those of operators
module _ (kind : ℕ) where
  pub leaf_kind : is_leaf kind ≡ true → (kind < 2) ⊎ (10 ≤ kind)
  leaf_kind e =
      let q = subst (λ (b : Bool). T b) (sym e) tt in
      ⊎_elim (λ z. inl (ltb→lt kind 2 z)) (λ z. inr (let u = ltb→lt 9 kind z in omega arith)) (or_cases (ltb kind 2) (ltb 9 kind) q)

  pub operator_kind : is_leaf kind ≡ false → (2 ≤ kind) × (kind < 10)
  operator_kind e =
      let no : T (is_leaf kind) → ⊥ = λ q. subst (λ (b : Bool). T b) e q in (
        ⊎_elim (λ z. absurd (no (or_l (ltb kind 2) (ltb 9 kind) (lt→ltb kind 2 z)))) (λ z. z) (lt_or_le kind 2),
        ⊎_elim (λ z. z) (λ z. absurd (no (or_r (ltb kind 2) (ltb 9 kind) (lt→ltb 9 kind (omega arith))))) (lt_or_le kind 10),
      )
