-- A part of a clause, node by node: its row, and its counts.
use Rattle.std.specs.Prelude.{ℕ, zero, suc, ◌+◌, ◌≤◌, ◌<◌, ◌≡◌, refl, Bool, true, false, not, eqb, ltb, length}
use Rattle.std.proofs.Common.{sym, subst, ◌∙◌, arith, ne_eqb}
use Rattle.std.proofs.Math.Path.{ap, ap₂}
use Rattle.std.proofs.Math.Bool.{cond}
use mathlib.Core.List.{List, [], ◌∷◌}
use Rattle.std.proofs.Math.Logic.{⊎_elim}
use Rattle.std.proofs.Math.Dec.{eqb-suc-zero}
use Rattle.grammar.specs.Grammar.{Form, top, leaf, Amount, Counted, counted, Clause}
use Rattle.grammar.specs.Nodes.{count_n, Op₁, neg₁, next₁, ev₁, gl₁, Op₂, and₂, or₂, until₂, release₂}
use Rattle.cltl.specs.Meaning.{Rows, Proper}
use Rattle.cltl.specs.Rules.{both, leaves, judge, quorum, asked, text, count, uniform, joint, joined}
use Rattle.cltl.proofs.Basics.{lt_or_le}
use Rattle.cltl.proofs.Operators.{judge_plain}
use Rattle.cltl.proofs.Exact.{joining_plain}
use Rattle.mask.specs.Mask.{on, Row}
use Rattle.drift.specs.declared.Judged.{Judged}
use Rattle.drift.specs.Tree.{kind_at, first_at, second_at, one, two, one_of, two_of, Ordered, inner_tree, clause_tree, amount_at}
use Rattle.drift.specs.Operator.{is_or, or_of, one_rule, two_rule}
use Rattle.drift.specs.Answer.{ClauseRow, PartRow, joinable, joined_with_drift, Gathered, ClauseJudged}
use Rattle.drift.specs.Kinds.{kind_count}
use Rattle.drift.specs.OperatorTruth.{TruthIs, two_cong}
use Rattle.drift.specs.OperatorRows.{row_of}
use Rattle.drift.specs.NodeTruth.{under_other, one_low, two_low, at_top, at_mark, at_count, at_one, at_two}
use Rattle.drift.specs.Trees.{looked_up, top_tree, one_tree, two_tree}

---- The counts of an operator's text.
-- the or of two texts has the counts of both
pub or_leaves : {L : Type 0} (o : Op₂) (p : Bool) (a b : Form L) → leaves p (or_of o a b) ≡ cond (is_or o p) (both (leaves p a) (leaves p b)) []
unfolding leaves
or_leaves and₂ true a b = refl
or_leaves and₂ false a b = refl
or_leaves or₂ true a b = refl
or_leaves or₂ false a b = refl
or_leaves until₂ true a b = refl
or_leaves until₂ false a b = refl
or_leaves release₂ true a b = refl
or_leaves release₂ false a b = refl

-- and what is U or R has none
two-leaves : {L : Type 0} (kind : ℕ) → 6 ≤ kind → kind < 10 → (p : Bool) (a b : Form L)
    → leaves p (two (two_of kind) a b) ≡ cond (ltb kind 8) (cond (is_or (two_of kind) p) (both (leaves p a) (leaves p b)) []) []
unfolding leaves
two-leaves kind q q' p a b = ⊎_elim (λ z. ⊎_elim (λ u. six (omega arith)) (λ u. seven (omega arith)) (lt_or_le kind 7))
    (λ z. ⊎_elim (λ u. eight (omega arith)) (λ u. nine (omega arith)) (lt_or_le kind 9)) (lt_or_le kind 8)
  where
    Is : ℕ → Type 0
    Is kind = leaves p (two (two_of kind) a b) ≡ cond (ltb kind 8) (cond (is_or (two_of kind) p) (both (leaves p a) (leaves p b)) []) []

    six : kind ≡ 6 → Is kind
    six e = subst Is (sym e) (or_leaves and₂ p a b)

    seven : kind ≡ 7 → Is kind
    seven e = subst Is (sym e) (or_leaves or₂ p a b)

    eight : kind ≡ 8 → Is kind
    eight e = subst Is (sym e) refl

    nine : kind ≡ 9 → Is kind
    nine e = subst Is (sym e) refl

-- nor has what is "next", F or G
one-leaves : {L : Type 0} (kind : ℕ) → (kind ≡ 2 → ⊥) → (p : Bool) (a : Form L) → leaves p (one (one_of kind) a) ≡ []
unfolding leaves
one-leaves kind n p a = rw (ne_eqb kind 2 n) (go (eqb kind 3) (eqb kind 4))
  where
    go : (b c : Bool) → leaves p (one (cond b next₁ (cond c ev₁ gl₁)) a) ≡ []
    go true c = refl
    go false true = refl
    go false false = refl

---- The same of those that are joined.
module _ (d : ℕ) where
  -- without drift there are none
  with_drift : (Q : List (Bool × Counted) → Type 0) (xs : List (Bool × Counted)) → Q [] → Q xs → Q (cond (eqb d 0) [] xs)
  with_drift Q xs a b = go (eqb d 0)
    where
      go : (z : Bool) → Q (cond z [] xs)
      go true = a
      go false = b

  or_joinable : (o : Op₂) (p : Bool) (a b : Clause) → joinable d p (or_of o a b) ≡ cond (is_or o p) (both (joinable d p a) (joinable d p b)) []
  or_joinable o p a b = go (eqb d 0) (is_or o p) (or_leaves o p a b)
    where
      go : (z q : Bool) → leaves p (or_of o a b) ≡ cond q (both (leaves p a) (leaves p b)) []
          → cond z [] (leaves p (or_of o a b)) ≡ cond q (both (cond z [] (leaves p a)) (cond z [] (leaves p b))) []
      go true true e = refl
      go true false e = refl
      go false q e = e

  two-joinable : (kind : ℕ) → 6 ≤ kind → kind < 10 → (p : Bool) (a b : Clause)
      → joinable d p (two (two_of kind) a b) ≡ cond (ltb kind 8) (cond (is_or (two_of kind) p) (both (joinable d p a) (joinable d p b)) []) []
  two-joinable kind q q' p a b = go (eqb d 0) (ltb kind 8) (is_or (two_of kind) p) (two-leaves kind q q' p a b)
    where
      go : (z u v : Bool) → leaves p (two (two_of kind) a b) ≡ cond u (cond v (both (leaves p a) (leaves p b)) []) []
          → cond z [] (leaves p (two (two_of kind) a b)) ≡ cond u (cond v (both (cond z [] (leaves p a)) (cond z [] (leaves p b))) []) []
      go true true true e = refl
      go true true false e = refl
      go true false v e = refl
      go false u v e = e

  no_joinable : (p : Bool) (c : Clause) → leaves p c ≡ [] → joinable d p c ≡ []
  no_joinable p c e = with_drift (λ xs. xs ≡ []) (leaves p c) refl e

---- What is told of a node, by the tests on its kind.
module _ (P : Rows) (d : ℕ) (nodes : List ℕ) (proper : Proper P) (p : Bool) (k kind x : ℕ) (ek : kind ≡ kind_at nodes k) (ex : x ≡ first_at nodes k)
    (t : List ℕ) (r : Judged) where
  abbrev rule : Bool → Counted → ℕ → Bool
  rule = count P d

  abbrev none : ℕ → Form Counted
  none m = top

  abbrev counts : ℕ → Amount → Form Counted
  counts i x = leaf (counted (inner_tree nodes (length nodes) i) x)

  -- by the tree of the node, however deep the look
  gathered : (xs : ℕ → List (Bool × Counted)) → ((n : ℕ) → k ≤ n → joinable d p (clause_tree nodes (suc n) k) ≡ xs n)
      → ((n : ℕ) → k ≤ n → Gathered P (xs n) t r.joined)
      → (n : ℕ) → k < n → Gathered P (joinable d p (clause_tree nodes n k)) t r.joined
  gathered xs e f zero q = absurd (omega arith)
  gathered xs e f (suc n) q = subst (λ ys. Gathered P ys t r.joined) (sym (e n (omega arith))) (f n (omega arith))

  pub top_judged : kind < 2 → Row P.h r.row (λ s. p) → Gathered P [] t r.joined → ClauseJudged P d nodes p k t r
  unfolding clause_tree judge leaves
  top_judged q g f = record {
    rows = λ n z. record { low = g.low; at = ⊎_elim top_at mark_at_lem (lt_or_le kind 1) n z };
    counts = gathered (λ n. []) (λ n z. no_joinable d p (clause_tree nodes (suc n) k) (ap (leaves p) (top_tree nodes n k (omega arith)))) (λ n z. f);
  }
    where
      top_at : kind < 1 → TruthIs P.h P.l proper.lap nodes rule (joined_with_drift P d) none counts p k (on r.row)
      top_at u = at_top P.h P.l proper.lap nodes rule (joined_with_drift P d) none counts p k (on r.row) kind x ek ex (omega arith) g.at

      mark_at_lem : 1 ≤ kind → TruthIs P.h P.l proper.lap nodes rule (joined_with_drift P d) none counts p k (on r.row)
      mark_at_lem u = at_mark P.h P.l proper.lap nodes rule (joined_with_drift P d) none counts p k (on r.row) kind x ek ex (omega arith) g.at

  module _ (q : 10 ≤ kind) where
    abbrev this : Counted
    this = counted (inner_tree nodes (length nodes) x) (amount_at nodes k)

    count_tree : (n : ℕ) → clause_tree nodes (suc n) k ≡ leaf this
    count_tree n =
        looked_up nodes n k (count_n (first_at nodes k) (amount_at nodes k)) (kind_count (kind_at nodes k) _ _ _ (omega arith))
        ∙ ap (λ (i : ℕ). counts i (amount_at nodes k)) (sym ex)

    pub count_judged : Row P.h r.row (quorum P.h P.l P.carts d (asked P (p, this)) (λ i. text P i (p, this)))
        → Gathered P (cond (eqb d 0) [] ((p, this) ∷ [])) t r.joined
        → ClauseJudged P d nodes p k t r
    unfolding clause_tree judge count leaves
    count_judged g f = record {
      rows = λ n z. record {
        low = g.low;
        at = at_count P.h P.l proper.lap nodes rule (joined_with_drift P d) none counts p k (on r.row) kind x ek ex q g.at n z;
      };
      counts = gathered (λ n. cond (eqb d 0) [] ((p, this) ∷ [])) (λ n z. ap (joinable d p) (count_tree n)) (λ n z. f);
    }

  module _ (o : Ordered nodes (k + 1)) where
    module _ (q : 2 ≤ kind) (q' : kind < 6) where
      one_low' : first_at nodes k < k
      one_low' = one_low nodes k o (omega arith) (omega arith)

      -- a negation is in its operand's flag already
      pub neg_judged : kind ≡ 2 → ClauseJudged P d nodes (not p) x t r → ClauseJudged P d nodes p k t r
      unfolding clause_tree judge leaves
      neg_judged e f =
          let low = one_low' in
          let is : one_of kind ≡ neg₁ = (rw e) in
          record {
            rows = λ n z. record {
              low = (f.rows (suc x) (omega arith)).low;
              at = at_one P.h P.l proper.lap nodes rule (joined_with_drift P d) none counts p k (on r.row) kind x ek ex (on r.row) o q q'
                  (λ n z s u. rw is ((f.rows n z).at s u)) (λ s u. rw is) n z;
            };
            counts = gathered (λ n. joinable d (not p) (clause_tree nodes n x))
                (λ n z.
                ap (joinable d p)
                (one_tree nodes n k (omega arith) (omega arith)
                ∙ ap₂ (λ (o : Op₁) (i : ℕ). one o (clause_tree nodes n i)) (ap one_of (sym ek) ∙ is) (sym ex)))
                (λ n z. f.counts n (omega arith));
          }

      pub one_judged : (a : ℕ) → (kind ≡ 2 → ⊥) → PartRow P d nodes p x a → Row P.h r.row (one_rule P.h P.l p (one_of kind) (on a))
          → Gathered P [] t r.joined
          → ClauseJudged P d nodes p k t r
      unfolding clause_tree
      one_judged a n f g f' = record {
        rows = λ m z. record {
          low = g.low;
          at = at_one P.h P.l proper.lap nodes rule (joined_with_drift P d) none counts p k (on r.row) kind x ek ex (on a) o q q'
              (λ m z. (subst (λ (b : Bool). PartRow P d nodes b x a) (sym (under_other kind p n)) f m z).at) g.at m z;
        };
        counts = gathered (λ m. [])
            (λ m z.
            no_joinable d p (clause_tree nodes (suc m) k)
            (ap (leaves p) (one_tree nodes m k (omega arith) (omega arith)) ∙ one-leaves (kind_at nodes k) (λ e. n (ek ∙ e)) p _))
            (λ m z. f');
      }

    module _ (y : ℕ) (ey : y ≡ second_at nodes k) (q : 6 ≤ kind) (q' : kind < 10) where
      -- the counts of both operands, if it is an or or asks for one
      abbrev zs : ℕ → List (Bool × Counted)
      zs n = cond (is_or (two_of kind) p) (both (joinable d p (clause_tree nodes n x)) (joinable d p (clause_tree nodes n y))) []

      pub two_judged : (a b : ℕ) → PartRow P d nodes p x a → PartRow P d nodes p y b
          → ((n : ℕ) → x < n → y < n
          → Row P.h r.row (two_rule P.h P.l p (two_of kind) (joint P d (zs n)) (on a) (on b)) × Gathered P (cond (ltb kind 8) (zs n) []) t r.joined)
          → ClauseJudged P d nodes p k t r
      unfolding clause_tree
      two_judged a b ra rb g =
          let low = two_low nodes k o (omega arith) (omega arith) in
          record {
            rows = λ n u. record {
              low = (g k (omega arith) (omega arith)).0.low;
              at = at_two P.h P.l proper.lap nodes rule (joined_with_drift P d) none counts p k (on r.row) kind x ek ex (on a) o (on b) y ey q q'
                  (λ n u. (ra n u).at) (λ n u. (rb n u).at) (λ n u u' s v. (g n u u').0.at s v
                  ∙ two_cong P.h P.l proper.lap p (two_of kind) _ _ _ _ _ _
                  (λ s _. ap (λ zs. joint P d zs s) (sym (or_joinable d (two_of kind) p _ _))) (λ s _. refl)
                  (λ s _. refl) s v) n u;
            };
            counts = gathered (λ n. cond (ltb kind 8) (zs n) []) (λ n u. ap (joinable d p) (tree_is n) ∙ two-joinable d kind q q' p _ _)
                (λ n u. (g n (omega arith) (omega arith)).1);
          }
        where
          tree_is : (n : ℕ) → clause_tree nodes (suc n) k ≡ two (two_of kind) (clause_tree nodes n x) (clause_tree nodes n y)
          tree_is n =
              two_tree nodes n k (omega arith) (omega arith)
              ∙ ap₂ (λ (o i : ℕ). two (two_of o) (clause_tree nodes n i) (clause_tree nodes n (second_at nodes k))) (sym ek) (sym ex)
              ∙ ap (λ (i : ℕ). two (two_of kind) (clause_tree nodes n x) (clause_tree nodes n i)) (sym ey)

-- a part's row is a clause's: without drift joining makes no difference
pub part_row : (P : Rows) → Proper P → (d : ℕ) (nodes : List ℕ) (p : Bool) (k r : ℕ) → PartRow P d nodes p k r → ClauseRow P d nodes p k r
unfolding joint joined uniform
part_row P proper zero nodes p k r f n z =
    row_of P.h r _ _
    (λ s q. judge_plain P.h P.l proper.lap (count P 0) (joined_with_drift P 0) (λ p c s q e. absurd e) p (clause_tree nodes n k) s q
    ∙ sym (joining_plain P proper p (clause_tree nodes n k) s q)) (f n z)
part_row P proper (suc d) nodes p k r f n z =
    subst
    (λ (b : Bool). Row P.h r (judge P.h P.l (count P (suc d)) (λ p c s. joint P (suc d) (cond b [] (leaves p c)) s) p (clause_tree nodes n k)))
    (eqb-suc-zero d) (f n z)
