use Rattle.std.proofs.Common.{arith, rules, ap, ◌∙◌}
use Rattle.std.specs.Prelude.{◌≡◌, Err}
use Rattle.refusal.specs.Results.{checked}
use Rattle.refusal.specs.declared.Verdict.TheVariants.{Accepted}
use Rattle.conflict.specs.Table.{table_routes}
use Rattle.conflict.proofs.Judging.{begun, on_step, refused, onward, accepted, answered}
use Rattle.conflict.proofs.carts.judge_carts.Goals as goal

pub loop-c-init : goal.loop-c-init
loop-c-init c = let a = c.args in
    begun (table_routes a.bays.now a.carts a.h a.block.now) a.h.drift c.requires.head_in_range.stem

pub refused_meeting-requires : goal.refused_meeting-requires
refused_meeting-requires c = let f = c.first_met in
    (omega arith, λ s e. omega (arith, on_step c.loop-c.invariant f.result s f.ensures e))

pub returns-in_err-refused_meeting : goal.returns-in_err-refused_meeting
returns-in_err-refused_meeting c narrow marks = let a = c.args in
    let w = c.loop-c.invariant in
    let f = c.first_met in
    let e : c.from_residual.result ≡ Err c.in_err-refused_meeting.field-0.0 = search rules in
    ap checked e
    ∙ answered a.bays.now a.carts a.h a.block.now c.fits-block w.lap _ (refused w f.result f.ensures c.refused_meeting.ensures _ c.in_err-refused_meeting.was) narrow marks

pub loop-c-preserved : goal.loop-c-preserved
loop-c-preserved c = let f = c.first_met in
    onward c.loop-c.invariant f.result f.ensures c.refused_meeting.ensures c.in_ok-refused_meeting.was (omega arith)

pub returns : goal.returns
returns c = let a = c.args in
    let w = c.loop-c.invariant in
    answered a.bays.now a.carts a.h a.block.now c.fits-block w.lap Accepted (accepted w (omega arith))
