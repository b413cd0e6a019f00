-- The levels of a clause: each reads what the definition's reader of its rank reads. Assumes nothing.
use Rattle.std.proofs.Common.{◌-◌, ◌+◌, arith, drop}
use Rattle.std.proofs.lemmas.Result.{err_from_is_err_and, IfOk-weaker}
use Rattle.grammar.specs.Reader.{smalls, untils}
use Rattle.sheet.specs.Ranks.{leaf_reader}
use Rattle.sheet.specs.Room.{room, room_if_read}
use Rattle.sheet.proofs.Cycle.{conj, disj, first_refused, first_turn, turn_room, turn_ended, turn_shut, turn_broken_with, next_fits, turn_on_with}
use Rattle.sheet.proofs.Levels.{small_nothing, small_word, small_shut, small_paren, small_leaf, small_no_level, small_no_node, operand_with, first_broken, until_alone, until_no_level, until_no_node, rest_with, leaf_mark, leaf_none, leaf_no_level, leaf_no_node, text_fits, text_read}
use Rattle.sheet.proofs.parts.+and_part_leaf_part_or_part_small_part_until_part.Goals.{leaf_part-then-level-eq0-via-then-level-eq0, leaf_part-then-level-eq0-via-else-level-eq0+then-p-eq0, small_part-then-level-eq0-2-via-then-level-eq0-2, small_part-then-level-eq0-2-via-else-level-eq0-2+then-p-eq0, until_part-then-level-eq0-via-then-level-eq0, until_part-then-level-eq0-via-else-level-eq0+then-r-eq0}
use Rattle.sheet.proofs.parts.+and_part_leaf_part_or_part_small_part_until_part.Goals as goal

pub and_part-returns-in_err-r : goal.and_part-returns-in_err-r
and_part-returns-in_err-r t c =
    let a = c.args in
    let e = err_from_is_err_and c.from_residual.result c.from_residual.ensures.1 in
    rw (e.1, e.2)
    (first_refused a.inner conj a.level a.s.now a.p.at a.p.n a.p.left a.nodes.now _ c.until_part.new.nodes c.in_err-r.ensures)

pub and_part-loop-i-init : goal.and_part-loop-i-init
and_part-loop-i-init t c =
    let a = c.args in
    first_turn a.inner conj a.level a.s.now a.p.at a.p.n a.p.left a.nodes.now _ _ c.in_ok-r.ensures

pub and_part-returns : goal.and_part-returns
and_part-returns t c =
    let a = c.args in
    turn_ended a.inner conj a.level a.s.now a.p.at a.p.n a.p.left a.nodes.now _ _ c.loop-i.invariant c.in_default.ensures

pub and_part-returns-then-r-eq0 : goal.and_part-returns-then-r-eq0
and_part-returns-then-r-eq0 t c =
    let a = c.args in
    turn_shut a.inner conj a.level a.s.now a.p.at a.p.n a.p.left a.nodes.now _ _ c.loop-i.invariant _ c.in-Some.ensures c.told-nodes c.requires.2
    c.if-r-eq0.true _ c.refused.ensures

pub and_part-overflow_sub-r : goal.and_part-overflow_sub-r
and_part-overflow_sub-r t c =
    let a = c.args in
    (turn_room a.inner conj a.level a.s.now a.p.at a.p.n a.p.left a.nodes.now _ _ c.loop-i.invariant).some

pub and_part-with_two-requires : goal.and_part-with_two-requires
and_part-with_two-requires t c =
    let a = c.args in
    next_fits a.inner conj a.level a.s.now a.p.at a.p.n a.p.left a.nodes.now _ _ c.loop-i.invariant _ c.in-Some.ensures
    (omega (arith, c.if-r-eq0.false)) c.told-nodes c.requires.2 _ c.until_part-q.result c.until_part-q.ensures

pub and_part-returns-in_err-r-2 : goal.and_part-returns-in_err-r-2
and_part-returns-in_err-r-2 t c =
    let a = c.args in
    let e = err_from_is_err_and c.from_residual-in_err-r-2.result c.from_residual-in_err-r-2.ensures.1 in
    rw (e.1, e.2)
    (turn_broken_with a.inner conj a.level a.s.now a.p.at a.p.n a.p.left a.nodes.now c.loop-i.r c.loop-i.nodes c.loop-i.invariant c.in-Some.i
    c.in-Some.ensures
    (omega (arith, c.if-r-eq0.false)) c.told-nodes c.requires.2
    _ c.until_part-q.result c.until_part-q.ensures _ _ _ c.in_err-r-2.ensures)

pub and_part-loop-i-preserved : goal.and_part-loop-i-preserved
and_part-loop-i-preserved t c =
    let a = c.args in
    (turn_on_with a.inner conj a.level a.s.now a.p.at a.p.n a.p.left a.nodes.now c.loop-i.r c.loop-i.nodes c.loop-i.invariant c.in-Some.i c.in-Some.ensures
    (omega (arith, c.if-r-eq0.false)) c.told-nodes c.requires.2
    _ c.until_part-q.result c.until_part-q.ensures _ c.byte.ensures _ _ c.in_ok-r-2.ensures).0

pub or_part-returns-in_err-r : goal.or_part-returns-in_err-r
or_part-returns-in_err-r t c =
    let a = c.args in
    let e = err_from_is_err_and c.from_residual.result c.from_residual.ensures.1 in
    rw (e.1, e.2)
    (first_refused a.inner disj a.level a.s.now a.p.at a.p.n a.p.left a.nodes.now _ c.and_part.new.nodes c.in_err-r.ensures)

pub or_part-loop-i-init : goal.or_part-loop-i-init
or_part-loop-i-init t c =
    let a = c.args in
    first_turn a.inner disj a.level a.s.now a.p.at a.p.n a.p.left a.nodes.now _ _ c.in_ok-r.ensures

pub or_part-returns : goal.or_part-returns
or_part-returns t c =
    let a = c.args in
    turn_ended a.inner disj a.level a.s.now a.p.at a.p.n a.p.left a.nodes.now _ _ c.loop-i.invariant c.in_default.ensures

pub or_part-returns-then-r-eq0 : goal.or_part-returns-then-r-eq0
or_part-returns-then-r-eq0 t c =
    let a = c.args in
    turn_shut a.inner disj a.level a.s.now a.p.at a.p.n a.p.left a.nodes.now _ _ c.loop-i.invariant _ c.in-Some.ensures c.told-nodes c.requires.2
    c.if-r-eq0.true _ c.refused.ensures

pub or_part-overflow_sub-r : goal.or_part-overflow_sub-r
or_part-overflow_sub-r t c =
    let a = c.args in
    (turn_room a.inner disj a.level a.s.now a.p.at a.p.n a.p.left a.nodes.now _ _ c.loop-i.invariant).some

pub or_part-with_two-requires : goal.or_part-with_two-requires
or_part-with_two-requires t c =
    let a = c.args in
    next_fits a.inner disj a.level a.s.now a.p.at a.p.n a.p.left a.nodes.now _ _ c.loop-i.invariant _ c.in-Some.ensures
    (omega (arith, c.if-r-eq0.false)) c.told-nodes c.requires.2 _ c.and_part-q.result c.and_part-q.ensures

pub or_part-returns-in_err-r-2 : goal.or_part-returns-in_err-r-2
or_part-returns-in_err-r-2 t c =
    let a = c.args in
    let e = err_from_is_err_and c.from_residual-in_err-r-2.result c.from_residual-in_err-r-2.ensures.1 in
    rw (e.1, e.2)
    (turn_broken_with a.inner disj a.level a.s.now a.p.at a.p.n a.p.left a.nodes.now c.loop-i.r c.loop-i.nodes c.loop-i.invariant c.in-Some.i
    c.in-Some.ensures
    (omega (arith, c.if-r-eq0.false)) c.told-nodes c.requires.2
    _ c.and_part-q.result c.and_part-q.ensures _ _ _ c.in_err-r-2.ensures)

pub or_part-loop-i-preserved : goal.or_part-loop-i-preserved
or_part-loop-i-preserved t c =
    let a = c.args in
    (turn_on_with a.inner disj a.level a.s.now a.p.at a.p.n a.p.left a.nodes.now c.loop-i.r c.loop-i.nodes c.loop-i.invariant c.in-Some.i c.in-Some.ensures
    (omega (arith, c.if-r-eq0.false)) c.told-nodes c.requires.2
    _ c.and_part-q.result c.and_part-q.ensures _ c.byte.ensures _ _ c.in_ok-r-2.ensures).0

pub leaf_part-returns-then-inner : goal.leaf_part-returns-then-inner
leaf_part-returns-then-inner t c =
    let a = c.args in
    leaf_mark a.inner a.s.now a.level a.p.at a.p.n a.p.left a.nodes.now c.if-inner.true _ _ c.mark.ensures

pub leaf_part-returns-then-s-i-ne91 : goal.leaf_part-returns-then-s-i-ne91
leaf_part-returns-then-s-i-ne91 t c =
    let a = c.args in
    leaf_none a.inner a.s.now a.level a.p.at a.p.n a.p.left a.nodes.now c.if-inner.false c.requires.0 c.if-s-i-ne91.true _ c.refused.ensures

pub leaf_part-returns-then-level-eq0 : goal.leaf_part-returns-then-level-eq0
leaf_part-returns-then-level-eq0 t c =
    let a = c.args in
    elim c.then-level-eq0.branch [
      | leaf_part-then-level-eq0-via-then-level-eq0 w ↦
          leaf_no_level a.inner a.s.now a.level a.p.at a.p.n a.p.left a.nodes.now c.if-inner.false c.requires.0 c.if-s-i-ne91.false w.if-level-eq0.true _
          c.refused-then-level-eq0.ensures
      | leaf_part-then-level-eq0-via-else-level-eq0+then-p-eq0 w ↦
          leaf_no_node a.inner a.s.now a.level a.p.at a.p.n a.p.left a.nodes.now c.if-inner.false c.requires.0 c.if-s-i-ne91.false w.if-level-eq0.false
          w.if-p-eq0.true _ c.refused-then-level-eq0.ensures
    ]

pub leaf_part-count_end-requires : goal.leaf_part-count_end-requires
leaf_part-count_end-requires t c =
    let a = c.args in (
      text_fits a.inner a.s.now a.level a.p.at a.p.n a.p.left a.nodes.now c.if-inner.false c.requires.0 c.if-s-i-ne91.false c.if-level-eq0.false
          c.if-p-eq0.false c.requires.2 c.or_part-r.result _ c.or_part-r.ensures,
      c.requires.1,
    )

pub leaf_part-returns : goal.leaf_part-returns
leaf_part-returns t c =
    let a = c.args in
    text_read a.inner a.s.now a.level a.p.at a.p.n a.p.left a.nodes.now c.if-inner.false c.requires.0 c.if-s-i-ne91.false c.if-level-eq0.false
    c.if-p-eq0.false c.told-nodes c.requires.2 c.or_part-r.result _ c.or_part-r.ensures _ _ c.count_end.ensures

pub small_part-returns-then-s-i : goal.small_part-returns-then-s-i
small_part-returns-then-s-i t c =
    let a = c.args in
    small_nothing a.inner a.s.now a.level a.p.at a.p.n a.p.left a.nodes.now c.spaces-i.result c.spaces-i.ensures.0 c.if-s-i.true
    (c.spaces-i.ensures.2 c.requires.0) _ c.refused.ensures

pub small_part-returns-then-b-eq116 : goal.small_part-returns-then-b-eq116
small_part-returns-then-b-eq116 t c =
    let a = c.args in
    small_word a.inner a.s.now a.level a.p.at a.p.n a.p.left a.nodes.now c.spaces-i.result c.spaces-i.ensures.0 (omega (arith, c.if-s-i.false))
    c.if-b-eq116.true _ _ c.word.ensures

pub small_part-returns-then-level-eq0 : goal.small_part-returns-then-level-eq0
small_part-returns-then-level-eq0 t c =
    let a = c.args in
    small_shut a.inner a.s.now a.level a.p.at a.p.n a.p.left a.nodes.now c.spaces-i.result c.spaces-i.ensures.0 (omega (arith, c.if-s-i.false))
    c.if-b-eq40.true c.if-level-eq0.true _ c.refused-then-level-eq0.ensures

pub small_part-returns-then-b-eq40 : goal.small_part-returns-then-b-eq40
small_part-returns-then-b-eq40 t c =
    let a = c.args in
    small_paren a.inner a.s.now a.level a.p.at a.p.n a.p.left a.nodes.now c.spaces-i.result c.spaces-i.ensures.0 (omega (arith, c.if-s-i.false))
    c.if-b-eq40.true c.if-level-eq0.false
    c.told-nodes c.requires.2 c.or_part-r.result _ c.or_part-r.ensures _ c.expect.ensures

pub small_part-returns-in-None : goal.small_part-returns-in-None
small_part-returns-in-None t c =
    let a = c.args in
    small_leaf a.inner a.s.now a.level a.p.at a.p.n a.p.left a.nodes.now c.spaces-i.result c.spaces-i.ensures.0 (omega (arith, c.if-s-i.false))
    c.if-b-eq116.false c.if-b-eq40.false c.in-None.ensures _ _ c.leaf_part.ensures

pub small_part-returns-then-level-eq0-2 : goal.small_part-returns-then-level-eq0-2
small_part-returns-then-level-eq0-2 t c =
    let a = c.args in
    elim c.then-level-eq0-2.branch [
      | small_part-then-level-eq0-2-via-then-level-eq0-2 w ↦
          small_no_level a.inner a.s.now a.level a.p.at a.p.n a.p.left a.nodes.now c.spaces-i.result c.spaces-i.ensures.0 (omega (arith, c.if-s-i.false))
          c.in-Some.o c.in-Some.ensures w.if-level-eq0-2.true _ c.refused-then-level-eq0-2.ensures
      | small_part-then-level-eq0-2-via-else-level-eq0-2+then-p-eq0 w ↦
          small_no_node a.inner a.s.now a.level a.p.at a.p.n a.p.left a.nodes.now c.spaces-i.result c.spaces-i.ensures.0 (omega (arith, c.if-s-i.false))
          c.in-Some.o c.in-Some.ensures w.if-level-eq0-2.false w.if-p-eq0.true _ c.refused-then-level-eq0-2.ensures
    ]

pub small_part-with_one-requires : goal.small_part-with_one-requires
small_part-with_one-requires t c =
    let a = c.args in
    let g = smalls (leaf_reader a.inner) (a.level - 1) (a.p.left - 1) (drop (c.spaces-i.result + 1) a.s.now) in
    IfOk-weaker c.small_part-q.result _ _ (λ p o. (o.some, omega (arith, o.kept, c.if-p-eq0.false)))
    (room_if_read a.inner a.s.now a.p.n (a.p.left - 1) a.nodes.now c.small_part-q.result _ g c.small_part-q.ensures)

pub small_part-returns-else-p-eq0 : goal.small_part-returns-else-p-eq0
small_part-returns-else-p-eq0 t c =
    let a = c.args in
    operand_with a.inner a.s.now a.level a.p.at a.p.n a.p.left a.nodes.now c.spaces-i.result c.spaces-i.ensures.0 (omega (arith, c.if-s-i.false))
    c.in-Some.o c.in-Some.ensures
    c.if-level-eq0-2.false c.if-p-eq0.false
    c.told-nodes c.requires.2 c.small_part-q.result _ c.small_part-q.ensures _ c.byte.ensures _ _ c.with_one.ensures

pub until_part-returns-in_err-r : goal.until_part-returns-in_err-r
until_part-returns-in_err-r t c =
    let a = c.args in
    let e = err_from_is_err_and c.from_residual.result c.from_residual.ensures.1 in
    rw (e.1, e.2)
    (first_broken a.inner a.s.now a.level a.p.at a.p.n a.p.left a.nodes.now _ c.small_part.new.nodes c.in_err-r.ensures)

pub until_part-returns-in-None : goal.until_part-returns-in-None
until_part-returns-in-None t c =
    let a = c.args in
    until_alone a.inner a.s.now a.level a.p.at a.p.n a.p.left a.nodes.now c.in_ok-r.r c.small_part.new.nodes c.in_ok-r.ensures c.in-None.ensures

pub until_part-returns-then-level-eq0 : goal.until_part-returns-then-level-eq0
until_part-returns-then-level-eq0 t c =
    let a = c.args in
    elim c.then-level-eq0.branch [
      | until_part-then-level-eq0-via-then-level-eq0 w ↦
          until_no_level a.inner a.s.now a.level a.p.at a.p.n a.p.left a.nodes.now c.in_ok-r.r c.small_part.new.nodes c.in_ok-r.ensures c.told-nodes
          c.requires.2 c.in-Some.k c.in-Some.ensures w.if-level-eq0.true _ c.refused.ensures
      | until_part-then-level-eq0-via-else-level-eq0+then-r-eq0 w ↦
          until_no_node a.inner a.s.now a.level a.p.at a.p.n a.p.left a.nodes.now c.in_ok-r.r c.small_part.new.nodes c.in_ok-r.ensures c.told-nodes
          c.requires.2 c.in-Some.k c.in-Some.ensures w.if-level-eq0.false w.if-r-eq0.true _ c.refused.ensures
    ]

pub until_part-overflow_sub-r : goal.until_part-overflow_sub-r
until_part-overflow_sub-r t c =
    let a = c.args in
    let o = room a.inner a.s.now a.p.n a.p.left a.nodes.now _ _ (smalls (leaf_reader a.inner) a.level a.p.left (drop a.p.at a.s.now))
    c.in_ok-r.ensures in
    omega (arith, o.some)

pub until_part-with_two-requires : goal.until_part-with_two-requires
until_part-with_two-requires t c =
    let a = c.args in
    let r = c.in_ok-r.r in
    let q = c.until_part-q in
    let o = room a.inner a.s.now a.p.n a.p.left a.nodes.now _ _ (smalls (leaf_reader a.inner) a.level a.p.left (drop a.p.at a.s.now))
    c.in_ok-r.ensures in (
      IfOk-weaker q.result _ _ (λ p x. (x.some, omega (arith, x.kept, o.kept, c.if-r-eq0.false)))
          (room_if_read a.inner a.s.now r.n (r.left - 1) c.small_part.new.nodes q.result _
          (untils (leaf_reader a.inner) (a.level - 1) (r.left - 1) (drop (c.in-Some.k.at + 1) a.s.now)) q.ensures),
      omega (arith, o.kept, o.some),
    )

pub until_part-returns-else-r-eq0 : goal.until_part-returns-else-r-eq0
until_part-returns-else-r-eq0 t c =
    let a = c.args in
    rest_with a.inner a.s.now a.level a.p.at a.p.n a.p.left a.nodes.now c.in_ok-r.r c.small_part.new.nodes c.in_ok-r.ensures c.told-nodes
    c.requires.2 c.in-Some.k c.in-Some.ensures
    c.if-level-eq0.false c.if-r-eq0.false c.until_part-q.new.nodes c.until_part-q.result c.until_part-q.ensures _ c.byte.ensures _ _ c.with_two.ensures
