use Prim.Native.Nat.{ℕ, ◌+◌, ◌≤◌, ◌<◌}
use native.Mathlib.Omega.{arith}
use mathlib.Core.Path.{◌≡◌, refl, sym, ap, ◌∙◌}
use mathlib.Core.Bool.{Bool}
use mathlib.Core.List.{List, []}
use mathlib.Core.Logic.{⊎_elim}
use native.Mathlib.Nat.{le_refl}
use Rattle.cltl.proofs.Basics.{lt_or_le}
use Rattle.std.specs.Prelude.{Option, None, Some, IfSome}
use Rattle.grammar.specs.Grammar.{Counted}
use Rattle.drift.specs.declared.Ground.{Ground}
use Rattle.drift.specs.Places.{Placed}
use Rattle.cltl.specs.Meaning.{Rows, Proper}
use Rattle.mask.specs.Mask.{on, Row}
use Rattle.drift.specs.declared.Joined.{Joined}
use Rattle.drift.specs.declared.Judged.{Judged}
use Rattle.token.specs.declared.Unary.{Unary}
use Rattle.token.specs.declared.Unary.TheVariants.{Not, Next, Finally, Globally}
use Rattle.drift.specs.Decoded.{unary_of}
use Rattle.drift.specs.Decoding.{number_not, unary_not, number_hands}
use Rattle.table.specs.Keeping.{kept_all, kept_then, kept_shown, shown_itself}
use Rattle.drift.specs.Tree.{Ordered, kind_at, first_at, second_at, one_of, clause_tree}
use Rattle.drift.specs.Operator.{under, one_rule}
use Rattle.drift.specs.Answer.{rows_on, TableAt, Fits, Gathered, joinable, ClauseJudged}
use Rattle.drift.specs.NodeTruth.{under_other}
use Rattle.drift.specs.Order.{operand}
use Rattle.drift.specs.Placing.{pairs_end_lem, placed_ends, fewer_pairs, pairs_behind}
use Rattle.drift.specs.Lending.{still_lent}
use Rattle.drift.specs.Tallying.{still_tallied}
use Rattle.drift.specs.Needing.{operand_nodes}
use Rattle.drift.specs.ClauseRows.{top_judged, neg_judged, one_judged, two_judged}
use Rattle.drift.specs.Gathering.{no_counts, alone_gathered, in_place}
use Rattle.std.proofs.lemmas.Option.{IfSome_then}
use Rattle.drift.proofs.clauses.+clause_judged.Goals as goal

---- No operand.
pub returns-in-Top-clause-by_index : goal.returns-in-Top-clause-by_index
returns-in-Top-clause-by_index t c =
    let a = c.args in
    let g = a.g in
    let low : kind_at a.c.nodes.now a.k < 2 =
    ⊎_elim (λ e. let z = rw e at c.kind_at.ensures in omega arith) (λ e. let z = rw e at c.kind_at.ensures in omega arith) c.in-Top.is in
    λ bears shown.
    let P = rows_on g.carts g.lasso.h g.lasso.l bears a.bits.now in
    top_judged P g.drift a.c.nodes.now (record { some = g.some; lap = g.lasso.lap }) a.p a.k _ _ refl refl a.t.now _ low c.constant.ensures
    (alone_gathered P g.few [] (no_counts P) a.t.now)

---- One operand.
pub clause_judged-a-requires : goal.clause_judged-a-requires
clause_judged-a-requires t c =
    let a = c.args in
    let room = c.requires.pairs_from in
    let e = rw c.in-Unary.is at c.kind_at.ensures in
    let x = operand a.c.nodes.now a.c.needs.now a.k _ c.requires.clause_nodes.ordered c.requires.clause_nodes.needed e.0 e.1 c.first_at.ensures in (
      omega (arith, c.decreases, x.0),
      (
        c.requires.lent,
        (
          operand_nodes a.c.nodes.now a.c.needs.now a.k c.requires.clause_nodes _ x.0 x.1,
          ((room.0, fewer_pairs a.g.lasso.h a.at _ _ _ room.1 x.1), c.requires.tallies),
        ),
      ),
    )

pub one_judged-requires : goal.one_judged-requires
one_judged-requires t c =
    let a = (c.clause_judged-a.ensures.by_index _ (shown_itself _ _ _ c.args.t.now)).rows _ (le_refl _) in
    a.low

-- what is told of an operator by what is told of its operand
one_told : (P : Rows) → Proper P → P.carts ≤ 32 → (d : ℕ) (nodes : List ℕ) (p q : Bool) (k x : ℕ) (o : Unary) (t : List ℕ) (a r : Judged)
    → Ordered nodes (k + 1) → 2 ≤ kind_at nodes k → kind_at nodes k < 6 → one_of (kind_at nodes k) ≡ unary_of o → x ≡ first_at nodes k
    → q ≡ under (unary_of o) p
    → (o ≡ Not → r ≡ a) × ((o ≡ Not → ⊥) → Row P.h r.row (one_rule P.h P.l p (unary_of o) (on a.row)) × (r.joined ≡ None))
    → ClauseJudged P d nodes q x t a → ClauseJudged P d nodes p k t r
one_told P proper few d nodes p q k x o t a r ordered more less is ex flag made f =
    ⊎_elim
    (λ z.
    let e : kind_at nodes k ≡ 2 = omega arith in
    let no : o ≡ Not = unary_not o (sym is ∙ ap one_of e) in
    rw (made.0 no) (neg_judged P d nodes proper p k _ x refl ex t a ordered more less e (rw (flag, no) at f)))
    (λ z.
    let n : kind_at nodes k ≡ 2 → ⊥ = λ e. omega arith in
    let other : o ≡ Not → ⊥ = λ e. n (number_not _ more less (is ∙ ap unary_of e)) in
    one_judged P d nodes proper p k _ x refl ex t r ordered more less a.row n
    (rw (sym (under_other (kind_at nodes k) p n), is, sym flag) f.rows) (rw is (made.1 other).0)
    (rw (made.1 other).1 (alone_gathered P few [] (no_counts P) t)))
    (lt_or_le (kind_at nodes k) 3)

joined_kept : {X : Type 0} (F : Joined → Type 0) (o : Unary) (a r : Judged) → (o ≡ Not → r ≡ a) × ((o ≡ Not → ⊥) → X × (r.joined ≡ None))
    → IfSome a.joined F → IfSome r.joined F
joined_kept F Not a r made f = rw (made.0 refl) f
joined_kept F Next a r made f = rw (made.1 (λ e. absurd (cc))).1 tt
joined_kept F Finally a r made f = rw (made.1 (λ e. absurd (cc))).1 tt
joined_kept F Globally a r made f = rw (made.1 (λ e. absurd (cc))).1 tt

pub returns-in-Unary-clause-kept : goal.returns-in-Unary-clause-kept
returns-in-Unary-clause-kept t c =
    let kept = c.clause_judged-a.ensures.kept in
    (kept.0, joined_kept (TableAt c.args.g c.args.at c.clause_judged-a.new.t) c.in-Unary.o c.clause_judged-a.result _ c.one_judged.ensures kept.1, kept.2)

pub returns-in-Unary-clause-by_index : goal.returns-in-Unary-clause-by_index
returns-in-Unary-clause-by_index t c =
    let a = c.args in
    let g = a.g in
    let e = rw c.in-Unary.is at c.kind_at.ensures in
    λ bears shown.
    one_told (rows_on g.carts g.lasso.h g.lasso.l bears a.bits.now) (record { some = g.some; lap = g.lasso.lap }) g.few g.drift a.c.nodes.now
    a.p _ a.k _ _ _ _ _
    c.requires.clause_nodes.ordered e.0 e.1 e.2 c.first_at.ensures c.under.ensures c.one_judged.ensures (c.clause_judged-a.ensures.by_index bears shown)

---- Two operands.
pub clause_judged-first-requires : goal.clause_judged-first-requires
clause_judged-first-requires t c =
    let a = c.args in
    let room = c.requires.pairs_from in
    let turn = c.in_turn-turn.ensures in (
      omega (arith, c.decreases, turn.below),
      (
        c.requires.lent,
        (
          operand_nodes a.c.nodes.now a.c.needs.now a.k c.requires.clause_nodes _ turn.below.0 turn.first_need,
          ((room.0, fewer_pairs a.g.lasso.h a.at _ _ _ room.1 turn.first_need), c.requires.tallies),
        ),
      ),
    )

pub overflow_mul-behind : goal.overflow_mul-behind
overflow_mul-behind t c = omega (arith, c.args.g.lasso.short)

pub overflow_add-behind : goal.overflow_add-behind
overflow_add-behind t c =
    omega (arith, c.args.g.lasso.short, pairs_end_lem c.args.g, c.requires.pairs_from.1)

pub clause_judged-second-requires : goal.clause_judged-second-requires
clause_judged-second-requires t c =
    let a = c.args in
    let g = a.g in
    let room = c.requires.pairs_from in
    let turn = c.in_turn-turn.ensures in
    let first = c.clause_judged-first.ensures.kept in
    let kept = kept_then _ _ a.t.now a.t.now _ room.0 (kept_all _ a.t.now) first.0 in (
      omega (arith, c.decreases, turn.below),
      (
        still_lent g a.t.now a.bits.now _ c.requires.lent kept,
        (
          operand_nodes a.c.nodes.now a.c.needs.now a.k c.requires.clause_nodes _ turn.below.1 (omega (arith, turn.second_need)),
          ((omega (arith, room.0), omega (arith, pairs_behind g.lasso.h a.at _ _ _ room.1 turn.second_need)), first.2),
        ),
      ),
    )

placed_of : (g : Ground) (at : ℕ) (t : List ℕ) (r : Option Joined) → IfSome r (λ j. TableAt g at t j) → IfSome r (λ j. Placed g.marks g.lasso.h at j.at)
placed_of g at t None p = tt
placed_of g at t (Some j) p = p.0

fits_of : (g : Ground) (bears : ℕ → ℕ → ℕ → Bool) (b : List ℕ) (xs : List (Bool × Counted)) (t : List ℕ) (r : Option Joined)
    → Gathered (rows_on g.carts g.lasso.h g.lasso.l bears b) xs t r → IfSome r (λ j. Fits g j)
fits_of g bears b xs t None f = tt
fits_of g bears b xs t (Some j) f = let told = f.told_of in (omega (arith, told.sum), told.low)

pub two_judged-requires : goal.two_judged-requires
two_judged-requires t c =
    let turn = c.in_turn-turn.ensures in
    let a = c.args in
    let g = a.g in
    let lent = c.requires.lent in
    let room = c.requires.pairs_from in
    let one = c.clause_judged-first.ensures in
    let two = c.clause_judged-second.ensures in
    let kept = kept_then _ _ a.t.now a.t.now _ room.0 (kept_all _ a.t.now) one.kept.0 in
    let all = kept_then _ _ a.t.now _ _ (omega (arith, room.0)) kept two.kept.0 in
    let itself = shown_itself _ _ _ a.t.now in
    let left = one.by_index _ itself in
    let right = two.by_index _ (kept_shown g.marks g.lasso.h a.t.now _ kept g.carts _ itself) in record {
      lent = still_lent g a.t.now a.bits.now _ lent all;
      h_bound = (room.0, omega (arith, pairs_behind g.lasso.h a.at _ _ _ room.1 turn.second_need));
      placed = (
        placed_of g a.at _ _ one.kept.1,
        two.kept.1,
      );
      row_bound = (
        (left.rows _ (le_refl _)).low,
        (right.rows _ (le_refl _)).low,
        fits_of g _ _ _ _ _ (left.counts _ (le_refl _)),
        fits_of g _ _ _ _ _ (right.counts _ (le_refl _)),
      );
    }

pub returns-in-Binary : goal.returns-in-Binary
returns-in-Binary t c =
    let turn = c.in_turn-turn.ensures in
    let is = rw c.in-Binary.is at c.kind_at.ensures in
    let a = c.args in
    let g = a.g in
    let nodes = c.requires.clause_nodes in
    let room = c.requires.pairs_from in
    let first = c.clause_judged-first in
    let second = c.clause_judged-second in
    let one = first.ensures in
    let two = second.ensures in
    let made = c.two_judged.ensures in
    let kept = kept_then _ _ a.t.now a.t.now _ room.0 (kept_all _ a.t.now) one.kept.0 in
    let tallied = still_tallied g _ _ _ (kept_then _ a.at _ _ _ room.0 (kept_all _ _) made.kept.0) two.kept.2 in
    let both = kept_then a.at _ a.t.now _ _ (omega arith) one.kept.0 two.kept.0 in record {
      kept = (kept_then a.at a.at a.t.now _ _ (le_refl a.at) both made.kept.0, made.kept.1, tallied);
      by_index = λ bears shown.
          let P = rows_on g.carts g.lasso.h g.lasso.l bears a.bits.now in
          let proper : Proper P = record { some = g.some; lap = g.lasso.lap } in
          let left = one.by_index bears shown in
          let right = two.by_index bears (kept_shown g.marks g.lasso.h a.t.now _ kept g.carts bears shown) in
          let ends = IfSome_then first.result.joined one.kept.1 (λ j p. placed_ends g.marks g.lasso.h a.at room.0 j.at p.0) in
          let operands =
          in_place P g.few g.drift a.c.nodes.now a.p c.in_turn-turn.result.swapped _ _ (first_at a.c.nodes.now a.k)
          (second_at a.c.nodes.now a.k) _ _
          first.result second.result turn.first_is turn.second_is two.kept.0 ends left right in
          two_judged P g.drift a.c.nodes.now proper a.p a.k _ _ refl refl _ _ nodes.ordered _ refl
          is.0 is.1 _ _ operands.0 operands.1
          (λ n u v. rw (number_hands _ is.0 is.1, is.2) (made.by_index bears (joinable g.drift a.p (clause_tree a.c.nodes.now n (first_at a.c.nodes.now a.k)))
          (joinable g.drift a.p (clause_tree a.c.nodes.now n (second_at a.c.nodes.now a.k))) (operands.2 n u) (operands.3 n v)));
    }
