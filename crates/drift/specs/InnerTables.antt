-- The table of inner text, node by node.
use Rattle.std.specs.Prelude.{ℕ, ◌+◌, ◌≤◌, ◌<◌, ◌≡◌, refl, Bool, false, ◌&&◌, List, length}
use Rattle.std.proofs.Math.Path.{sym, ap}
use Rattle.std.proofs.Common.{ap₂, ◌∙◌}
use Rattle.std.proofs.Math.Bool.{true, not}
use Rattle.grammar.specs.Grammar.{Form, top, leaf, Amount, amount, counted}
use Rattle.grammar.specs.Nodes.{Op₁, neg₁, next₁, ev₁, gl₁}
use Rattle.cltl.specs.Meaning.{Rows, Proper, among}
use Rattle.cltl.specs.Rules.{judge, nothing, mark, inner, over, text, quorum}
use Rattle.cltl.proofs.Inner.{inner_opp}
use Rattle.cltl.proofs.Agree.{quorum_agrees}
use Rattle.mask.specs.Mask.{on, Row, signed}
use Rattle.table.specs.Table.{told}
use Rattle.quorum.specs.Words.{within}
use Rattle.drift.specs.Tree.{one_of, two_of, Ordered, inner_tree, kind_at, first_at, second_at}
use Rattle.drift.specs.Operator.{under, one_rule, two_rule, exact_rule}
use Rattle.drift.specs.Answer.{InnerTable}
use Rattle.drift.specs.OperatorRows.{row_of}
use Rattle.drift.specs.OperatorTruth.{Same}
use Rattle.drift.specs.NodeTruth.{at_top, at_mark, at_count, at_one, at_two}

-- the truth of an operand, as its operator takes it
abbrev signed_by : Op₁ → (ℕ → Bool) → ℕ → Bool
signed_by neg₁ f s = not (f s)
signed_by next₁ f s = f s
signed_by ev₁ f s = f s
signed_by gl₁ f s = f s

exact_one : (h l : ℕ) (o : Op₁) (f : ℕ → Bool) (s : ℕ) → exact_rule h l true o f s ≡ one_rule h l true o (signed_by o f) s
exact_one h l neg₁ f s = refl
exact_one h l next₁ f s = refl
exact_one h l ev₁ f s = refl
exact_one h l gl₁ f s = refl

module _ (P : Rows) (proper : Proper P) (nodes t : List ℕ) (k at kind x : ℕ) (ek : kind ≡ kind_at nodes k) (ex : x ≡ first_at nodes k) where
  abbrev rule : ℕ → Bool → ℕ → ℕ → Bool
  rule i = mark P i

  abbrev marks : ℕ → Form ℕ
  marks m = leaf m

  abbrev none : ℕ → Amount → Form ℕ
  none i x = top

  abbrev Is : (ℕ → ℕ → Bool) → Type 0
  Is f = (i : ℕ) → i < P.carts → Same P.h (told t at i) (f i)

  pub inner_top : kind ≡ 0 → Is (λ i s. true) → InnerTable P nodes k t at
  unfolding inner inner_tree
  inner_top e g = record { is = λ i n s q z u. at_top P.h P.l proper.lap nodes (rule i) nothing marks none true k _ kind x ek ex e (g i q) n z s u }

  pub inner_count : 10 ≤ kind → Is (λ i s. true) → InnerTable P nodes k t at
  unfolding inner inner_tree judge
  inner_count e g = record { is = λ i n s q z u. at_count P.h P.l proper.lap nodes (rule i) nothing marks none true k _ kind x ek ex e (g i q) n z s u }

  pub inner_mark : kind ≡ 1 → Is (λ i s. P.bears i s x) → InnerTable P nodes k t at
  unfolding inner inner_tree judge mark
  inner_mark e g = record { is = λ i n s q z u. at_mark P.h P.l proper.lap nodes (rule i) nothing marks none true k _ kind x ek ex e (g i q) n z s u }

  module _ (before : List ℕ) (a : ℕ) (o : Ordered nodes (k + 1)) (ra : InnerTable P nodes x before a) where
    operand : (o : Op₁) (i : ℕ) → i < P.carts → (n : ℕ) → x < n
        → Same P.h (signed_by o (told before a i)) (judge P.h P.l (mark P i) nothing (under o true) (inner_tree nodes n x))
    unfolding inner
    operand neg₁ i q n z s u = ap not (ra.is i n s q z u) ∙ sym (inner_opp P proper i (inner_tree nodes n x) s u)
    operand next₁ i q n z s u = ra.is i n s q z u
    operand ev₁ i q n z s u = ra.is i n s q z u
    operand gl₁ i q n z s u = ra.is i n s q z u

    pub inner_one : 2 ≤ kind → kind < 6 → Is (λ i. exact_rule P.h P.l true (one_of kind) (told before a i)) → InnerTable P nodes k t at
    unfolding inner inner_tree
    inner_one q q' g = record {
      is = λ i n s c z u. at_one P.h P.l proper.lap nodes (rule i) nothing marks none true k _ kind x ek ex _ o q q' (operand (one_of kind) i c)
          (λ s u. g i c s u ∙ exact_one P.h P.l (one_of kind) (told before a i) s) n z s u;
    }

    pub inner_two : (b y : ℕ) → y ≡ second_at nodes k → 6 ≤ kind → kind < 10 → InnerTable P nodes y before b
        → Is (λ i. two_rule P.h P.l true (two_of kind) (λ s. false) (told before a i) (told before b i)) → InnerTable P nodes k t at
    unfolding inner inner_tree
    inner_two b y ey q q' rb g = record {
      is = λ i n s c z u. at_two P.h P.l proper.lap nodes (rule i) nothing marks none true k _ kind x ek ex _ o _ y ey q q' (λ n z s u. ra.is i n s c z u)
          (λ n z s u. rb.is i n s c z u) (λ m _ _. g i c) n z s u;
    }

-- the table tells of the text (p), or of its negation
pub inner-signed : (P : Rows) → Proper P → (nodes t : List ℕ) (k at : ℕ) → InnerTable P nodes k t at → (p : Bool) (n : ℕ) → k < n → (i : ℕ) → i < P.carts
    → Same P.h (λ s. signed p (told t at i s)) (inner P i p (inner_tree nodes n k))
inner-signed P proper nodes t k at r true n z i q s u = r.is i n s q z u
inner-signed P proper nodes t k at r false n z i q s u = ap not (r.is i n s q z u) ∙ sym (inner_opp P proper i (inner_tree nodes n k) s u)

-- so does the rule for a count over it
module _ (P : Rows) (proper : Proper P) (nodes t : List ℕ) (k at : ℕ) (p : Bool) (q : k < length nodes) (f : InnerTable P nodes k t at)
    (x : Amount) (who : ℕ) (over-is : (i : ℕ) → i < P.carts → on who i ≡ among P (over P (p, counted (inner_tree nodes (length nodes) k) x)) i) where
  -- of the carts that it is over
  pub text-signed : (i : ℕ) → i < P.carts
      → Same P.h (within who (λ i s. signed p (told t at i s)) i) (text P i (p, counted (inner_tree nodes (length nodes) k) x))
  text-signed i c s u = go x (over-is i c)
    where
      go : (x : Amount) → on who i ≡ among P (over P (p, counted (inner_tree nodes (length nodes) k) x)) i
          → (on who i && signed p (told t at i s)) ≡ text P i (p, counted (inner_tree nodes (length nodes) k) x) s
      go (amount m percent o) e = ap₂ (λ (a b : Bool). a && b) e (inner-signed P proper nodes t k at f p (length nodes) q i c s u)

  pub count_signed : (d m r : ℕ) → Row P.h r (quorum P.h P.l P.carts d m (within who (λ i s. signed p (told t at i s))))
      → Row P.h r (quorum P.h P.l P.carts d m (λ i. text P i (p, counted (inner_tree nodes (length nodes) k) x)))
  count_signed d m r g = row_of P.h r _ _ (quorum_agrees P.carts P.h P.l proper.lap d m _ _ text-signed) g
