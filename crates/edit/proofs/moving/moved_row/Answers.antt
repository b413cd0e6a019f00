use Prim.Native.Nat.{◌-◌}
use native.Mathlib.Omega.{arith}
use mathlib.Core.Path.{ap, ◌∙◌}
use lib.ListN.{length, take, drop}
use Rattle.record.specs.Buffer.{stored}
use Rattle.edit.proofs.Later.{length-turned}
use Rattle.edit.proofs.RowsMoved.{turn_below, early, late}
use Rattle.edit.proofs.moving.moved_row.Goals as goal

pub copy_at-requires : goal.copy_at-requires
copy_at-requires c = let a = c.args in
    let e = ap length (early a.row.now a.stem a.s (omega (arith, c.if-s-stem.true))) in
    omega (arith, c.requires.1)

pub returns-then-s-stem : goal.returns-then-s-stem
returns-then-s-stem c = let a = c.args in
    c.copy_at.ensures
    ∙ ap (stored a.out.now a.at) (early a.row.now a.stem a.s (omega (arith, c.if-s-stem.true)))

pub put_turned-requires : goal.put_turned-requires
put_turned-requires c = let a = c.args in
    let p = c.requires.0 in
    let e = ap length (late a.row.now a.stem a.s (omega (arith, c.if-s-stem.false))) in
    let t = length-turned (take (length a.row.now - a.stem) (drop a.stem a.row.now)) _ (turn_below a.row.now a.stem (a.s - a.stem) p) in
    (turn_below a.row.now a.stem _ p, omega (arith, c.requires.1, e, t))

pub returns : goal.returns
returns c = let a = c.args in
    c.put_turned.ensures
    ∙ ap (stored a.out.now a.at) (late a.row.now a.stem a.s (omega (arith, c.if-s-stem.false)))
