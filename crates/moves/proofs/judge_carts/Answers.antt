use native.Mathlib.Omega.{arith}
use mathlib.Core.Path.{◌≡◌, sym, ap, ◌∙◌}
use lib.ListN.{length}
use Rattle.std.proofs.Common.{rules}
use Rattle.std.specs.Prelude.{Err}
use Rattle.refusal.specs.Results.{checked}
use Rattle.refusal.specs.Accepting.{refused_stops}
use Rattle.refusal.specs.Stages.{is_accepted}
use Rattle.plan.specs.Plan.{held_numbers}
use Rattle.moves.specs.Judged.{carts_passed}
use Rattle.moves.proofs.Judging.{refused, onward}
use Rattle.moves.proofs.judge_carts.Goals as goal

pub returns-in_err-judge_cart_row : goal.returns-in_err-judge_cart_row
returns-in_err-judge_cart_row c =
    let a = c.args in
    let l = a.lanes.now in
    let size : length a.block.now ≡ 2048 = search rules in
    let e : c.from_residual.result ≡ Err c.in_err-judge_cart_row.field-0.0 = search rules in
    ap checked e
    ∙ refused l.counts.carts a.h a.block.now c.loop-c.c l.accepted_floor.valid.few_carts (omega (arith, c.loop-c-test.true)) c.requires.1 size l.floor.now
    c.loop-c.invariant _ (sym (ap checked c.in_err-judge_cart_row.was) ∙ c.judge_cart_row.ensures) (refused_stops _)

pub loop-c-preserved : goal.loop-c-preserved
loop-c-preserved c =
    let a = c.args in
    let l = a.lanes.now in
    let size : length a.block.now ≡ 2048 = search rules in
    onward l.counts.carts a.h a.block.now c.loop-c.c l.accepted_floor.valid.few_carts (omega (arith, c.loop-c-test.true)) c.requires.1 size l.floor.now
    c.loop-c.invariant _ c.judge_cart_row.ensures (ap (λ r. is_accepted (checked r)) c.in_ok-judge_cart_row.was)

pub returns : goal.returns
returns c =
    let a = c.args in
    let l = a.lanes.now in
    sym
    (c.loop-c.invariant ∙ carts_passed l.floor.now (held_numbers l.counts.carts a.h a.block.now) l.counts.carts c.loop-c.c
    (omega (arith, c.loop-c-test.false)))
