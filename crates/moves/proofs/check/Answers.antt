use native.Mathlib.Omega.{arith}
use mathlib.Core.Path.{◌≡◌, sym, ap, ◌∙◌}
use Rattle.std.specs.Prelude.{Err}
use Rattle.std.proofs.Common.{rules}
use Rattle.refusal.specs.Results.{told, checked}
use Rattle.floor.specs.Located.{accepts}
use Rattle.plan.specs.Plan.{PlanNumbers}
use Rattle.plan.specs.Read.{after_accepted, after_refused, held_numbers_lem, held_range}
use Rattle.moves.specs.Carts.{moves_verdict, judged_carts, checked_moves}
use Rattle.moves.specs.Unending.{promise}
use Rattle.moves.proofs.check.Goals as goal

pub returns-in_err-r : goal.returns-in_err-r
unfolding checked_moves
returns-in_err-r c =
    let e : c.from_residual.result ≡ Err c.in_err-r.field-0.0 = search rules in
    let same = sym c.in_err-r.was ∙ c.read.ensures.answer in
    promise _ _ _ (ap checked e ∙ sym (after_refused told (moves_verdict c.args.floor.now) _ _ _ same))

pub judge_plan-requires-clause-accepted_floor : goal.judge_plan-requires-clause-accepted_floor
judge_plan-requires-clause-accepted_floor c =
    accepts _ _ (λ i. omega (arith, c.type_inv.floor i)) (c.read.ensures.accepted _ c.in_ok-r.was).floor_read

pub judge_plan-requires-clause-stem_lt_steps : goal.judge_plan-requires-clause-stem_lt_steps
judge_plan-requires-clause-stem_lt_steps c =
    let h = held_range _ _ _ (c.read.ensures.accepted _ c.in_ok-r.was) in (h.stem, h.steps)

pub returns : goal.returns
unfolding checked_moves
returns c =
    let w = c.read.ensures.accepted _ c.in_ok-r.was in
    let floor = c.args.floor.now in
    promise _ _ _
    (c.judge_plan.ensures ∙ ap (λ (n : PlanNumbers). judged_carts floor n c.in_ok-r.r.floor.carts 0) (held_numbers_lem _ _ _ w)
    ∙ sym (after_accepted told (moves_verdict floor) _ _ _ w))
