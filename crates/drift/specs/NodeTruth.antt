-- Node after node by the tests on its kind: where its operands are, and its truth from theirs.
use Rattle.std.specs.Prelude.{ℕ, ◌+◌, ◌≤◌, ◌<◌, ◌≡◌, refl, Bool, true, false, cond, List, eqb}
use Rattle.std.proofs.Common.{sym, ap, ap₂, subst, ◌∙◌, ⊎_elim, arith, ne_eqb}
use Rattle.grammar.specs.Grammar.{Form, Amount}
use Rattle.grammar.specs.Nodes.{Node, top_n, mark_n, count_n, one_n, two_n, next₁, ev₁, gl₁}
use Rattle.cltl.specs.Rules.{judge}
use Rattle.cltl.proofs.Basics.{lt_or_le}
use Rattle.drift.specs.Tree.{kind_at, first_at, second_at, node_at, one_of, two_of, OperandsBelow, tree, Ordered, amount_at}
use Rattle.drift.specs.Operator.{under, one_rule, two_rule, or_of}
use Rattle.drift.specs.OperatorTruth.{Same, TruthIs, node_truth, one_truth, two_truth, top_truth}
use Rattle.drift.specs.Kinds.{kind_top, kind_mark, kind_one, kind_two, kind_count}

module _ (block : List ℕ) (k : ℕ) (o : Ordered block (k + 1)) where
  is_below : (x : Node) → node_at block k ≡ x → OperandsBelow k x
  is_below x e = subst (OperandsBelow k) e (o.below k (omega arith))

  pub mark_low : kind_at block k ≡ 1 → first_at block k < 32
  mark_low e = is_below (mark_n (first_at block k)) (kind_mark _ _ _ _ e)

  pub one_low : 2 ≤ kind_at block k → kind_at block k < 6 → first_at block k < k
  one_low p q = is_below (one_n (one_of (kind_at block k)) (first_at block k)) (kind_one _ _ _ _ p q)

  pub two_low : 6 ≤ kind_at block k → kind_at block k < 10 → (first_at block k < k) × (second_at block k < k)
  two_low p q = is_below (two_n (two_of (kind_at block k)) (first_at block k) (second_at block k)) (kind_two _ _ _ _ p q)

  pub count_low : 10 ≤ kind_at block k → first_at block k < k
  count_low p = is_below (count_n (first_at block k) (amount_at block k)) (kind_count _ _ _ _ p)

  -- every operator and count has a first operand
  pub first_low : 2 ≤ kind_at block k → first_at block k < k
  first_low p = ⊎_elim (λ q. one_low p q) (λ q. ⊎_elim (λ r. (two_low q r).0) count_low (lt_or_le (kind_at block k) 10)) (lt_or_le (kind_at block k) 6)

-- the flag of the first operand is the operator's own, but for "not"
pub under_other : (kind : ℕ) (p : Bool) → (kind ≡ 2 → ⊥) → under (one_of kind) p ≡ p
under_other kind p q = rw (ne_eqb kind 2 q) (rest (eqb kind 3) (eqb kind 4))
  where
    rest : (a b : Bool) → under (cond a next₁ (cond b ev₁ gl₁)) p ≡ p
    rest true b = refl
    rest false true = refl
    rest false false = refl

module _ (h l : ℕ) (ok : l < h) (block : List ℕ) {L : Type 0} (rule : Bool → L → ℕ → Bool) (also : Bool → Form L → ℕ → Bool)
    (mark : ℕ → Form L) (count : ℕ → Amount → Form L) where
  abbrev J : Bool → ℕ → (ℕ → Bool) → Type 0
  J p k f = TruthIs h l ok block rule also mark count p k f

  module _ (p : Bool) (k : ℕ) (f : ℕ → Bool) (kind x : ℕ) (ek : kind ≡ kind_at block k) (ex : x ≡ first_at block k) where
    pub at_top : kind ≡ 0 → Same h f (λ s. p) → J p k f
    at_top e g = top_truth h l ok block rule also mark count p k f top_n (kind_top _ _ _ _ (sym ek ∙ e)) (λ n. refl) g

    pub at_mark : kind ≡ 1 → Same h f (judge h l rule also p (mark x)) → J p k f
    at_mark e g = node_truth h l ok block rule also mark count p k f (mark_n x) (kind_mark _ _ _ _ (sym ek ∙ e) ∙ ap mark_n (sym ex)) (λ n m. g)

    pub at_count : 10 ≤ kind → Same h f (judge h l rule also p (count x (amount_at block k))) → J p k f
    at_count q g =
        node_truth h l ok block rule also mark count p k f (count_n x (amount_at block k))
        (kind_count (kind_at block k) _ _ _ (omega arith) ∙ ap (λ (i : ℕ). count_n i (amount_at block k)) (sym ex)) (λ n m. g)

    module _ (a : ℕ → Bool) (o : Ordered block (k + 1)) where
      pub at_one : 2 ≤ kind → kind < 6 → J (under (one_of kind) p) x a → Same h f (one_rule h l p (one_of kind) a) → J p k f
      at_one q q' ra g =
          let low = one_low block k o (omega arith) (omega arith) in
          one_truth h l ok block rule also mark count p k f a (one_of kind) x
          (kind_one (kind_at block k) _ _ _ (omega arith) (omega arith) ∙ ap₂ (λ (o i : ℕ). one_n (one_of o) i) (sym ek) (sym ex)) (omega arith) ra g

      pub at_two : (b : ℕ → Bool) (y : ℕ) → y ≡ second_at block k → 6 ≤ kind → kind < 10 → J p x a → J p y b
          → ((n : ℕ) → x < n → y < n
          → Same h f (two_rule h l p (two_of kind) (also p (or_of (two_of kind) (tree mark count block n x) (tree mark count block n y))) a b)) → J p k f
      at_two b y ey q q' ra rb g =
          let low = two_low block k o (omega arith) (omega arith) in
          two_truth h l ok block rule also mark count p k f a b (two_of kind) x y
          (kind_two (kind_at block k) _ _ _ (omega arith) (omega arith) ∙ ap₂ (λ (o i : ℕ). two_n (two_of o) i (second_at block k)) (sym ek) (sym ex) ∙ ap
          (two_n (two_of kind) x) (sym ey))
          (omega arith) (omega arith) ra rb g
