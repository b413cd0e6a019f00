use native.Mathlib.Omega.{arith}
use mathlib.Core.Path.{sym, ap, ◌∙◌}
use Rattle.refusal.specs.Results.{checked}
use Rattle.refusal.specs.Stages.{is_accepted}
use Rattle.plan.specs.Plan.{held_numbers}
use Rattle.edit.proofs.RowFitting.{fitting, follows}
use Rattle.edit.proofs.replacing.judge_moves_and_row.Goals as goal

pub judge_plan_and_row-requires-clause-further_fits : goal.judge_plan_and_row-requires-clause-further_fits
judge_plan_and_row-requires-clause-further_fits c = λ some.
    let a = c.args in
    let r = a.r.now in
    let fits = ap is_accepted (sym c.judge_fit.ensures ∙ ap checked c.in_default.is) in
    let w = fitting a.floor.now r.floor (held_numbers r.floor.carts r.plan.head r.plan.block) a.cart a.row.now fits in
    let size = w.row_fits.size in
    let h = c.requires.head_in_range in
    (w.cart, omega (arith, size, h.stem), omega (arith, size, h.steps))

pub returns : goal.returns
returns c =
    let a = c.args in
    let r = a.r.now in
    let fits = ap is_accepted (sym c.judge_fit.ensures ∙ ap checked c.in_default.is) in
    c.judge_plan_and_row.ensures
    ∙ follows a.floor.now r.floor (held_numbers r.floor.carts r.plan.head r.plan.block) a.cart a.row.now fits c.requires.head_in_range.stem
