use native.Mathlib.Omega.{arith}
use mathlib.Core.Path.{◌≡◌, sym, ap, subst, ◌∙◌}
use Rattle.std.specs.Prelude.{Err}
use Rattle.std.proofs.Common.{rules}
use Rattle.refusal.specs.Results.{checked}
use Rattle.floor.specs.Located.{accepts}
use Rattle.plan.specs.Read.{held_range}
use Rattle.edit.specs.Judgement.{ReplacementJudged}
use Rattle.edit.proofs.RowJudged.{refused, refused_after, judged}
use Rattle.edit.proofs.replacing.judge.Goals as goal

pub returns-in_err-r : goal.returns-in_err-r
returns-in_err-r c =
    let a = c.args in
    let e : c.from_residual.result ≡ Err c.in_err-r.field-0.0 = search rules in
    subst (ReplacementJudged a.floor.now a.plan.now a.cart a.row.now) (sym e)
    (refused a.floor.now a.plan.now a.cart a.row.now _ (sym c.in_err-r.was ∙ c.read.ensures.answer))

pub judge_moves_and_row-requires-clause-accepted_floor : goal.judge_moves_and_row-requires-clause-accepted_floor
judge_moves_and_row-requires-clause-accepted_floor c =
    accepts _ _ (λ i. omega (arith, c.type_inv.floor i)) (c.read.ensures.accepted _ c.in_ok-r.was).floor_read

pub judge_moves_and_row-requires-clause-head_in_range : goal.judge_moves_and_row-requires-clause-head_in_range
judge_moves_and_row-requires-clause-head_in_range c = held_range _ _ _ (c.read.ensures.accepted _ c.in_ok-r.was)

pub returns-in_err-judge_moves_and_row : goal.returns-in_err-judge_moves_and_row
returns-in_err-judge_moves_and_row c =
    let a = c.args in
    let e : c.from_residual-in_err-judge_moves_and_row.result ≡ Err c.in_err-judge_moves_and_row.field-0.0 = search rules in
    subst (ReplacementJudged a.floor.now a.plan.now a.cart a.row.now) (sym e)
    (refused_after a.floor.now a.plan.now a.cart a.row.now c.in_ok-r.r (c.read.ensures.accepted _ c.in_ok-r.was) _
    (ap checked (sym c.in_err-judge_moves_and_row.was) ∙ c.judge_moves_and_row.ensures))

pub row_at-requires : goal.row_at-requires
row_at-requires c = let range = held_range _ _ _ (c.read.ensures.accepted _ c.in_ok-r.was) in omega (arith, range.stem, range.steps)

pub returns : goal.returns
returns c =
    let a = c.args in
    judged a.floor.now a.plan.now a.cart a.row.now c.in_ok-r.r (c.read.ensures.accepted _ c.in_ok-r.was)
    (ap checked (sym c.in_ok-judge_moves_and_row.was) ∙ c.judge_moves_and_row.ensures) _ c.row_at.ensures
