-- The table of an operator, by the tests on its kind.
use Rattle.std.specs.Prelude.{ℕ, ◌≡◌, Bool, true, false, not, cond, List, eqb}
use Rattle.std.proofs.Common.{eq-eqb, ne_eqb}
use Rattle.grammar.specs.Nodes.{ev₁, gl₁, until₂, release₂}
use Rattle.row.specs.Lasso.{next_step}
use Rattle.cltl.specs.Rules.{join, fix}
use Rattle.table.specs.Table.{told, Table}
use Rattle.drift.specs.Tree.{one_of, two_of}
use Rattle.drift.specs.Operator.{exact_rule, two_rule}

module _ (h l kind a k : ℕ) (before after : List ℕ) where
  abbrev One : Type 0
  One = Table (λ i. exact_rule h l true (one_of kind) (told before a i)) k h before after

  pub negated_table : kind ≡ 2 → Table (λ i s. not (told before a i s)) k h before after → One
  negated_table e g = rw (eq-eqb kind 2 e) g

  pub later_table : (kind ≡ 2 → ⊥) → kind ≡ 3 → Table (λ i s. told before a i (next_step h l s)) k h before after → One
  later_table n e g = rw (ne_eqb kind 2 n, eq-eqb kind 3 e) g

  -- F (4) or G
  pub ever_table : (kind ≡ 2 → ⊥) → (kind ≡ 3 → ⊥) → Table (λ i. fix h l (eqb kind 4) (λ s. eqb kind 4) (told before a i) h) k h before after → One
  ever_table n n' g = rw (ne_eqb kind 2 n, ne_eqb kind 3 n') (go (eqb kind 4) g)
    where
      go : (p : Bool) → Table (λ i. fix h l p (λ s. p) (told before a i) h) k h before after
          → Table (λ i. exact_rule h l true (cond p ev₁ gl₁) (told before a i)) k h before after
      go true g = g
      go false g = g

  module _ (b : ℕ) where
    abbrev Two : Type 0
    Two = Table (λ i. two_rule h l true (two_of kind) (λ s. false) (told before a i) (told before b i)) k h before after

    pub both_table : kind ≡ 6 → Table (λ i s. join true (told before a i s) (told before b i s)) k h before after → Two
    both_table e g = rw (eq-eqb kind 6 e) g

    pub either_table : (kind ≡ 6 → ⊥) → kind ≡ 7 → Table (λ i s. join false (told before a i s) (told before b i s)) k h before after → Two
    either_table n e g = rw (ne_eqb kind 6 n, eq-eqb kind 7 e) g

    -- U (8) or R
    pub reach_table : (kind ≡ 6 → ⊥) → (kind ≡ 7 → ⊥)
        → Table (λ i. fix h l (eqb kind 8) (told before a i) (told before b i) h) k h before after → Two
    reach_table n n' g = rw (ne_eqb kind 6 n, ne_eqb kind 7 n') (go (eqb kind 8) g)
      where
        go : (p : Bool) → Table (λ i. fix h l p (told before a i) (told before b i) h) k h before after
            → Table (λ i. two_rule h l true (cond p until₂ release₂) (λ s. false) (told before a i) (told before b i)) k h before after
        go true g = g
        go false g = g
