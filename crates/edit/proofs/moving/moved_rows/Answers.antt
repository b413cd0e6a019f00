use Prim.Native.Nat.{ℕ, ◌+◌, ◌<◌}
use native.Mathlib.Omega.{arith}
use mathlib.Core.List.{List}
use mathlib.Core.Path.{◌≡◌, sym, subst}
use lib.ListN.{length}
use Rattle.std.proofs.Common.{rules}
use Rattle.plan.specs.Read.{part_length}
use Rattle.edit.proofs.RowsMoved.{Moving, begun, one_row, room, length-rows, onward}
use Rattle.edit.proofs.moving.moved_rows.Goals as goal

pub loop-c-init : goal.loop-c-init
loop-c-init c = let a = c.args in
    begun a.h a.s a.block.now a.size

pub moved_row-requires : goal.moved_row-requires
moved_row-requires c =
    let a = c.args in
    let p = c.requires in
    let k = c.loop-c.c in
    let low : k < 32 = omega (arith, c.loop-c-test.true, p.carts_bound.0) in
    let long : length a.block.now ≡ 2048 = search rules in
    let n = part_length a.h.steps a.block.now k low p.head_in_range.steps long in
    let o = one_row a.h a.s a.block.now p.head_in_range long k a.size low p.carts_bound.1 in
    let r = room a.h a.s a.block.now p.head_in_range long k a.size low p.carts_bound.1 in
    let q = length-rows a.h a.s a.block.now p.head_in_range long k a.size low p.carts_bound.1 c.loop-c.rows c.loop-c.invariant in
    (omega (arith, p.head_in_range.stem, n), omega (arith, o, r, q))

pub loop-c-preserved : goal.loop-c-preserved
loop-c-preserved c =
    let a = c.args in
    let p = c.requires in
    let low : c.loop-c.c < 32 = omega (arith, c.loop-c-test.true, p.carts_bound.0) in
    let long : length a.block.now ≡ 2048 = search rules in
    subst (λ (x : List ℕ). Moving a.h a.s a.block.now a.size x (c.loop-c.c + 1)) (sym c.moved_row.ensures)
    (onward a.h a.s a.block.now p.head_in_range long c.loop-c.c a.size low p.carts_bound.1 c.loop-c.rows c.loop-c.invariant)
