use mathlib.Core.Path.{refl, sym, subst}
use mathlib.Core.Logic.{inl}
use native.Mathlib.Omega.{arith}
use Rattle.table.specs.Keeping.{kept_all, kept_then, stored_keeps, kept_constants, kept_shown}
use Rattle.drift.specs.Answer.{rows_on, InnerTable}
use Rattle.drift.specs.Places.{Placed}
use Rattle.drift.specs.Tree.{node_at}
use Rattle.drift.specs.Decoding.{leaf_is}
use Rattle.drift.specs.Needing.{up_to}
use Rattle.drift.specs.Order.{operand}
use Rattle.drift.specs.Placing.{leaf_ends, placed_ends, other_placed, other_behind, fewer_pairs, pairs_behind}
use Rattle.drift.specs.NodeTables.{table_kept, leaf_table, one_made, two_made}
use Rattle.drift.proofs.inner.+inner_table.Goals as goal

---- One operand.
pub inner_table-a-requires : goal.inner_table-a-requires
inner_table-a-requires t c =
    let a = c.args in
    let room = c.requires.pairs_from in
    let e = rw c.in-Unary.is at c.kind_at.ensures in
    let x = operand a.c.nodes.now a.c.needs.now a.k c.first_at.result c.requires.ordered.0 c.requires.ordered.1 e.0 e.1 c.first_at.ensures in (
      omega (arith, c.decreases, x.0),
      (
        c.requires.constants,
        (
          up_to a.c.nodes.now a.c.needs.now a.k _ x.0 c.requires.ordered,
          ((room.0, fewer_pairs a.g.lasso.h a.at _ _ _ room.1 x.1), c.requires.h_in_bounds),
        ),
      ),
    )

pub place_one-requires : goal.place_one-requires
place_one-requires t c =
    let a = c.args in
    let g = a.g in
    let room = c.requires.pairs_from in
    let e = rw c.in-Unary.is at c.kind_at.ensures in
    let x = operand a.c.nodes.now a.c.needs.now a.k c.first_at.result c.requires.ordered.0 c.requires.ordered.1 e.0 e.1 c.first_at.ensures in
    let made = c.inner_table-a.ensures.kept in
    let kept = kept_then _ _ a.t.now a.t.now _ room.0 (kept_all _ a.t.now) made.0 in record {
      constants = kept_constants g.marks g.lasso.h a.t.now _ kept c.requires.constants;
      h_bound = (
        room.0,
        omega (arith, pairs_behind g.lasso.h a.at _ 0 _ room.1 x.2),
        omega (arith, c.requires.h_in_bounds, made.0.size),
      );
      placed = made.1;
    }

pub returns-in-Unary : goal.returns-in-Unary
returns-in-Unary t c =
    let a = c.args in
    let g = a.g in
    let room = c.requires.pairs_from in
    let is = rw c.in-Unary.is at c.kind_at.ensures in
    let x = operand a.c.nodes.now a.c.needs.now a.k c.first_at.result c.requires.ordered.0 c.requires.ordered.1 is.0 is.1 c.first_at.ensures in
    let inner = c.inner_table-a.ensures in
    let e = c.place_one.ensures.0 in
    let table = c.place_one.ensures.1 in
    let from = c.inner_table-a.result in
    let placed = other_placed g.marks g.lasso.h a.at room.0 from in record {
      kept = (
        kept_then a.at _ a.t.now _ _ (omega (arith, e, other_behind g.marks g.lasso.h a.at room.0 from)) inner.kept.0
            (stored_keeps _ _ g.lasso.h _ _ table),
        subst (Placed g.marks g.lasso.h a.at) (sym e) placed,
        omega (
          arith,
          e,
          placed_ends g.marks g.lasso.h a.at room.0 _ placed,
          pairs_behind g.lasso.h a.at _ 0 _ room.1 x.2,
          c.requires.h_in_bounds,
          inner.kept.0.size,
          table.kept,
        ),
      );
      by_index = λ bears b shown. one_made (rows_on g.carts g.lasso.h g.lasso.l bears b) (record { some = g.some; lap = g.lasso.lap }) g.few a.c.nodes.now a.k _
          refl c.requires.ordered.0 _ _ _
          _ from c.first_at.ensures
          (inner.by_index bears b shown) is.0 is.1 (rw (sym is.2) at table);
    }

---- Two operands.
pub in_turn-turn-requires : goal.in_turn-turn-requires
in_turn-turn-requires t c =
    let e = rw c.in-Binary.is at c.kind_at.ensures in
    record { ordered = c.requires.ordered; bound = (e.0, e.1) }

pub inner_table-first-requires : goal.inner_table-first-requires
inner_table-first-requires t c =
    let a = c.args in
    let room = c.requires.pairs_from in
    let turn = c.in_turn-turn.ensures in (
      omega (arith, c.decreases, turn.below),
      (
        c.requires.constants,
        (
          up_to a.c.nodes.now a.c.needs.now a.k _ turn.below.0 c.requires.ordered,
          ((room.0, fewer_pairs a.g.lasso.h a.at _ _ _ room.1 turn.first_need), c.requires.h_in_bounds),
        ),
      ),
    )

pub inner_table-second-requires : goal.inner_table-second-requires
inner_table-second-requires t c =
    let a = c.args in
    let g = a.g in
    let room = c.requires.pairs_from in
    let turn = c.in_turn-turn.ensures in
    let first = c.inner_table-first.ensures.kept in
    let kept = kept_then _ _ a.t.now a.t.now _ room.0 (kept_all _ a.t.now) first.0 in (
      omega (arith, c.decreases, turn.below),
      (
        kept_constants g.marks g.lasso.h a.t.now _ kept c.requires.constants,
        (
          up_to a.c.nodes.now a.c.needs.now a.k _ turn.below.1 c.requires.ordered,
          (
            (omega (arith, room.0), omega (arith, pairs_behind g.lasso.h a.at _ _ _ room.1 turn.second_need)),
            omega (arith, c.requires.h_in_bounds, first.0.size),
          ),
        ),
      ),
    )

pub place_two-requires : goal.place_two-requires
place_two-requires t c =
    let a = c.args in
    let g = a.g in
    let room = c.requires.pairs_from in
    let turn = c.in_turn-turn.ensures in
    let pair = pairs_behind g.lasso.h a.at _ _ _ room.1 turn.second_need in
    let first = c.inner_table-first.ensures.kept in
    let second = c.inner_table-second.ensures.kept in
    let kept = kept_then _ _ a.t.now a.t.now _ room.0 (kept_all _ a.t.now) first.0 in
    let all = kept_then _ _ a.t.now _ _ (omega (arith, room.0)) kept second.0 in record {
      constants = kept_constants g.marks g.lasso.h a.t.now _ all c.requires.constants;
      h_bound = (room.0, omega (arith, pair), omega (arith, c.requires.h_in_bounds, all.size));
      placed = (first.1, second.1, second.2);
    }

pub returns-in-Binary : goal.returns-in-Binary
returns-in-Binary t c =
    let turn = c.in_turn-turn.ensures in
    let is = rw c.in-Binary.is at c.kind_at.ensures in
    let a = c.args in
    let g = a.g in
    let room = c.requires.pairs_from in
    let pair = pairs_behind g.lasso.h a.at _ _ _ room.1 turn.second_need in
    let first = c.inner_table-first in
    let second = c.inner_table-second in
    let kept = kept_then _ _ a.t.now a.t.now _ room.0 (kept_all _ a.t.now) first.ensures.kept.0 in
    let e = c.place_two.ensures.0 in
    let table = c.place_two.ensures.1 in
    let placed = other_placed g.marks g.lasso.h a.at room.0 first.result in
    let ends = placed_ends g.marks g.lasso.h a.at room.0 first.result first.ensures.kept.1 in
    let both = kept_then a.at _ a.t.now _ _ (omega arith) first.ensures.kept.0 second.ensures.kept.0 in record {
      kept = (
        kept_then a.at _ a.t.now _ _ (omega (arith, e, other_behind g.marks g.lasso.h a.at room.0 first.result)) both
            (stored_keeps _ _ g.lasso.h _ _ table),
        subst (Placed g.marks g.lasso.h a.at) (sym e) placed,
        omega (arith, e, placed_ends g.marks g.lasso.h a.at room.0 _ placed, pair, c.requires.h_in_bounds, both.size, table.kept),
      );
      by_index = λ bears b shown.
          let P = rows_on g.carts g.lasso.h g.lasso.l bears b in
          let shows = kept_shown g.marks g.lasso.h a.t.now _ kept g.carts bears shown in
          two_made P (record { some = g.some; lap = g.lasso.lap }) g.few a.c.nodes.now a.k _ refl c.requires.ordered.0 _ _ _
          is.0 is.1 c.in_turn-turn.result.swapped _ _ first.result _ turn.first_is turn.second_is
          (table_kept P a.c.nodes.now _ _ first.result _ _ second.ensures.kept.0 ends (first.ensures.by_index bears b shown))
          (second.ensures.by_index bears b shows) (rw (sym is.2) at table);
    }

---- No operand.
pub returns-in_default : goal.returns-in_default
returns-in_default t c =
    let a = c.args in
    let g = a.g in
    let e = c.leaf_at.ensures in
    let ends = leaf_ends g.marks g.lasso.h (node_at a.c.nodes.now a.k) in record {
      kept = (kept_all a.at a.t.now, inl (omega (arith, e, ends)), omega (arith, e, ends, c.requires.constants.room));
      by_index = λ bears b shown. subst (InnerTable (rows_on g.carts g.lasso.h g.lasso.l bears b) a.c.nodes.now a.k a.t.now) (sym e)
          (leaf_table (rows_on g.carts g.lasso.h g.lasso.l bears b) (record { some = g.some; lap = g.lasso.lap }) g.few a.c.nodes.now a.k _
          refl c.requires.ordered.0
          g.marks a.t.now c.requires.constants shown (leaf_is _ _ c.kind_at.ensures c.in_default.not-Unary c.in_default.not-Binary));
    }
