-- A node's table from those of its operands.
use Rattle.std.specs.Prelude.{ℕ, ◌+◌, ◌≤◌, ◌<◌, ◌≡◌, refl, Bool, true, false, cond, List}
use Rattle.std.proofs.Common.{sym, subst, ◌∙◌, ⊎_elim, arith}
use Rattle.cltl.specs.Meaning.{Rows, Proper}
use Rattle.cltl.proofs.Basics.{lt_or_le}
use Rattle.table.specs.Table.{told, Table, Kept}
use Rattle.table.specs.Layout.{Constants, Shown}
use Rattle.table.specs.Keeping.{kept_told}
use Rattle.drift.specs.Tree.{is_leaf, kind_at, first_at, second_at, node_at, one_of, two_of, Ordered}
use Rattle.drift.specs.Operator.{exact_rule, two_rule}
use Rattle.drift.specs.Answer.{InnerTable}
use Rattle.drift.specs.Places.{leaf_at}
use Rattle.drift.specs.Kinds.{leaf_kind}
use Rattle.drift.specs.NodeTruth.{mark_low}
use Rattle.drift.specs.NodeIs.{of_top, of_mark, of_count}
use Rattle.drift.specs.InnerTables.{inner_top, inner_count, inner_mark, inner_one, inner_two}

-- a table that is kept is still its text's
pub table_kept : (P : Rows) (nodes : List ℕ) (k n r : ℕ) (before after : List ℕ) → Kept n before after → r + P.h ≤ n → InnerTable P nodes k before r
    → InnerTable P nodes k after r
table_kept P nodes k n r before after kept q f = record { is = λ i m s c u v. kept_told n before after kept r P.h i s q v ∙ f.is i m s c u v }

module _ (P : Rows) (proper : Proper P) (few : P.carts ≤ 32) (nodes : List ℕ) (k kind : ℕ) (ek : kind ≡ kind_at nodes k) (o : Ordered nodes (k + 1)) where
  module _ (marks : ℕ) (t : List ℕ) (c : Constants marks P.h t) where
    abbrev There : Type 0
    There = InnerTable P nodes k t (leaf_at marks P.h (node_at nodes k))

    -- a leaf's table is there already
    pub leaf_table : Shown marks P.carts P.h P.bears t → is_leaf kind ≡ true → There
    leaf_table f q = ⊎_elim (λ z. ⊎_elim top_is (mark_is z) (lt_or_le kind 1)) count_is (leaf_kind kind q)
      where
        top_is : kind < 1 → There
        top_is z =
            let e : kind ≡ 0 = omega arith in
            subst (InnerTable P nodes k t) (of_top (leaf_at marks P.h) nodes k kind ek e)
            (inner_top P proper nodes t k _ kind _ ek refl e (λ i p s u. c.all i s (omega arith) u))

        mark_is : kind < 2 → 1 ≤ kind → There
        mark_is z z' =
            let e : kind ≡ 1 = omega arith in
            let low = mark_low nodes k o (sym ek ∙ e) in
            subst (InnerTable P nodes k t) (of_mark (leaf_at marks P.h) nodes k kind ek e)
            (inner_mark P proper nodes t k _ kind _ ek refl e (λ i p s u. f i s (first_at nodes k) p u low))

        count_is : 10 ≤ kind → There
        count_is z =
            subst (InnerTable P nodes k t) (of_count (leaf_at marks P.h) nodes k kind ek z)
            (inner_count P proper nodes t k _ kind _ ek refl z (λ i p s u. c.all i s (omega arith) u))

  module _ (before after : List ℕ) (to : ℕ) where
    pub one_made : (x a : ℕ) → x ≡ first_at nodes k → InnerTable P nodes x before a → 2 ≤ kind → kind < 6
        → Table (λ i. exact_rule P.h P.l true (one_of kind) (told before a i)) to P.h before after → InnerTable P nodes k after to
    one_made x a ex ra q q' r =
        inner_one P proper nodes after k to kind x ek ex before a o ra q q' (λ i p s u. r.each s (omega arith) u i (omega arith))

    -- whichever operand went first
    pub two_made : 6 ≤ kind → kind < 10 → (swapped : Bool) (i j first second : ℕ) → i ≡ cond swapped (second_at nodes k) (first_at nodes k)
        → j ≡ cond swapped (first_at nodes k) (second_at nodes k) → InnerTable P nodes i before first → InnerTable P nodes j before second
        → Table (λ i. two_rule P.h P.l true (two_of kind) (λ s. false) (told before (cond swapped second first) i) (told before (cond swapped first second) i)) to P.h
        before after
        → InnerTable P nodes k after to
    two_made q q' true i j first second ei ej r r' t =
        inner_two P proper nodes after k to kind _ ek refl before second o (rw ej at r') first _ refl q q' (rw ei at r)
        (λ i p s u. t.each s (omega arith) u i (omega arith))
    two_made q q' false i j first second ei ej r r' t =
        inner_two P proper nodes after k to kind _ ek refl before first o (rw ei at r) second _ refl q q' (rw ej at r')
        (λ i p s u. t.each s (omega arith) u i (omega arith))
