-- What a node is, by the tests on its kind: whatever is said of nodes.
use Rattle.std.specs.Prelude.{ℕ, ◌≤◌, ◌<◌, ◌≡◌, true, List}
use Rattle.std.proofs.Common.{sym, ap, ◌∙◌, ⊎_elim, arith}
use Rattle.grammar.specs.Grammar.{Amount}
use Rattle.grammar.specs.Nodes.{Node, top_n, mark_n, count_n, one_n, two_n}
use Rattle.cltl.proofs.Basics.{lt_or_le}
use Rattle.drift.specs.Tree.{is_leaf, kind_at, first_at, second_at, node_at, one_of, two_of, amount_at}
use Rattle.drift.specs.Kinds.{kind_top, kind_mark, kind_one, kind_two, kind_count, leaf_kind}

-- what holds of a node, by the tests on its kind
module _ {A : Type 0} (f : Node → A) (nodes : List ℕ) (k kind : ℕ) (ek : kind ≡ kind_at nodes k) where
  pub of_top : kind ≡ 0 → f top_n ≡ f (node_at nodes k)
  of_top e = sym (ap f (kind_top (kind_at nodes k) _ _ _ (sym ek ∙ e)))

  pub of_mark : kind ≡ 1 → f (mark_n (first_at nodes k)) ≡ f (node_at nodes k)
  of_mark e = sym (ap f (kind_mark (kind_at nodes k) _ _ _ (sym ek ∙ e)))

  pub of_count : 10 ≤ kind → f (count_n (first_at nodes k) (amount_at nodes k)) ≡ f (node_at nodes k)
  of_count q = sym (ap f (kind_count (kind_at nodes k) _ _ _ (omega arith)))

  -- the same of every leaf
  pub of_leaf : (a : A) → f top_n ≡ a → ((m : ℕ) → f (mark_n m) ≡ a) → ((i : ℕ) (x : Amount) → f (count_n i x) ≡ a) → is_leaf kind ≡ true
      → a ≡ f (node_at nodes k)
  of_leaf a top mark count q =
      ⊎_elim (λ z. ⊎_elim (λ u. sym top ∙ of_top (omega arith)) (λ u. sym (mark _) ∙ of_mark (omega arith)) (lt_or_le kind 1))
      (λ z. sym (count _ _) ∙ of_count z) (leaf_kind kind q)

  pub of_one : 2 ≤ kind → kind < 6 → f (one_n (one_of (kind_at nodes k)) (first_at nodes k)) ≡ f (node_at nodes k)
  of_one q q' = sym (ap f (kind_one (kind_at nodes k) _ _ _ (omega arith) (omega arith)))

  pub of_two : 6 ≤ kind → kind < 10 → f (two_n (two_of (kind_at nodes k)) (first_at nodes k) (second_at nodes k)) ≡ f (node_at nodes k)
  of_two q q' = sym (ap f (kind_two (kind_at nodes k) _ _ _ (omega arith) (omega arith)))
