use Prim.Native.Nat.{ℕ}
use native.Mathlib.Omega.{arith}
use mathlib.Core.List.{List}
use mathlib.Core.Path.{◌≡◌, sym, ap, subst}
use lib.ListN.{length}
use Rattle.std.proofs.Common.{rules}
use Rattle.refusal.specs.declared.Verdict.TheVariants.{Plan as AboutPlan}
use Rattle.refusal.specs.Outcome.{Gives, written}
use Rattle.refusal.specs.Results.{wrote}
use Rattle.plan.specs.declared.Head.{Head}
use Rattle.plan.specs.Valid.{HeadInRange}
use Rattle.edit.specs.Moved.{moved_head}
use Rattle.edit.proofs.MovedReads.{head_moved}
use Rattle.edit.proofs.RowsMoved.{rows_fit, same_file, file_fits}
use Rattle.edit.proofs.moving.put_moved.Goals as goal

ranged : (s : ℕ) (h m : Head) → HeadInRange h → m ≡ moved_head s h → HeadInRange m
ranged s h m r e = subst HeadInRange (sym e) (head_moved s h r)

pub overflow_mul-len : goal.overflow_mul-len
overflow_mul-len c =
    let p = c.requires in
    let a = c.args in
    let long : length a.block.now ≡ 2048 = search rules in
    omega (arith, rows_fit a.h a.s a.block.now p.head_in_range long a.carts p.carts_bound c.moved_head-m.result c.moved_head-m.ensures)

pub overflow_cast-steps : goal.overflow_cast-steps
overflow_cast-steps c = omega (arith, (ranged _ _ _ c.requires.head_in_range c.moved_head-m.ensures).steps)

pub overflow_cast-m : goal.overflow_cast-m
overflow_cast-m c = let r = ranged _ _ _ c.requires.head_in_range c.moved_head-m.ensures in omega (arith, r.steps, r.stem)

pub overflow_cast-m-2 : goal.overflow_cast-m-2
overflow_cast-m-2 c = omega (arith, (ranged _ _ _ c.requires.head_in_range c.moved_head-m.ensures).drift)

pub slice_bounds-put_numbers-end : goal.slice_bounds-put_numbers-end
slice_bounds-put_numbers-end c =
    let p = c.requires in
    let a = c.args in
    let long : length a.block.now ≡ 2048 = search rules in
    omega (arith, rows_fit a.h a.s a.block.now p.head_in_range long a.carts p.carts_bound c.moved_head-m.result c.moved_head-m.ensures)

pub put_numbers-requires : goal.put_numbers-requires
put_numbers-requires c =
    let p = c.requires in
    let a = c.args in
    let long : length a.block.now ≡ 2048 = search rules in
    let e =
    same_file a.h a.s a.block.now p.head_in_range long a.carts p.carts_bound c.moved_head-m.result c.moved_head-m.ensures
    c.moved_rows-rows.result c.moved_rows-rows.ensures in (
      (ranged _ _ _ p.head_in_range c.moved_head-m.ensures).some,
      omega (arith, ap length e, file_fits a.h a.s a.block.now p.head_in_range long a.carts p.carts_bound),
    )

pub returns : goal.returns
returns c =
    let p = c.requires in
    let a = c.args in
    let long : length a.block.now ≡ 2048 = search rules in
    let e =
    same_file a.h a.s a.block.now p.head_in_range long a.carts p.carts_bound c.moved_head-m.result c.moved_head-m.ensures
    c.moved_rows-rows.result c.moved_rows-rows.ensures in
    subst (λ (x : List ℕ). Gives (written AboutPlan x a.out.now) (wrote c.put_numbers.result) c.put_numbers.new.out) e c.put_numbers.ensures
