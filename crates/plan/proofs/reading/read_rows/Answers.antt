use Rattle.std.specs.Prelude.{Err}
use Rattle.std.proofs.Common.{rules}
use Rattle.std.proofs.lemmas.Result.{err_from_is_err_and}
use native.Mathlib.Omega.{arith}
use mathlib.Core.Path.{◌≡◌, sym, ap, ◌∙◌}
use Rattle.refusal.specs.Codes.{at_offset}
use Rattle.refusal.specs.declared.Refused.TheVariants.{Plan as RefusedPlan}
use Rattle.record.specs.Opened.{Opened, opened}
use Rattle.plan.specs.Plan.{zeros}
use Rattle.plan.proofs.Rowing.{begin, stop_short, stop_cut, done, stop_fault, fits, again}
use Rattle.plan.proofs.Wrapped.{kept, refused}
use Rattle.plan.proofs.reading.read_rows.Goals as goal

pub loop-block-init : goal.loop-block-init
unfolding zeros
loop-block-init c = begin c.args.f c.args.h c.args.s.now c.requires.2

pub returns-then-n-f : goal.returns-then-n-f
returns-then-n-f c =
    ap Err c.refused_at.ensures
    ∙ stop_short _ _ _ _ _ _ c.loop-block.invariant (sym c.find.ensures ∙ c.in-End.is) c.if-n-f.true

pub returns-in-End : goal.returns-in-End
returns-in-End c = done _ _ _ _ _ _ c.loop-block.invariant (sym c.find.ensures ∙ c.in-End.is) c.if-n-f.false

pub returns-in-Cut : goal.returns-in-Cut
returns-in-Cut c =
    ap Err c.refused_at-in-Cut.ensures
    ∙ stop_cut _ _ _ _ _ _ c.loop-block.invariant (sym c.find.ensures ∙ c.in-Cut.is)

pub slice_bounds-body-end : goal.slice_bounds-body-end
slice_bounds-body-end c =
    let o : Opened c.args.s.now c.loop-block.at c.in-Whole.kind c.in-Whole.start c.in-Whole.end =
    opened _ _ _ _ _ (sym c.find.ensures ∙ c.in-Whole.is) in
    omega arith

pub returns-in_err-map_err-in-Whole : goal.returns-in_err-map_err-in-Whole
returns-in_err-map_err-in-Whole c =
    let e = refused _ c.judge_record.result _ c.map_err.ensures.cases _ c.in_err-map_err-in-Whole.was in
    let q : c.in_err-map_err-in-Whole.field-0.0 ≡ RefusedPlan (at_offset e.0 c.loop-block.at) = search rules in
    let p = err_from_is_err_and c.from_residual.result c.from_residual.ensures.1 in
    rw (p.1, p.2, q)
    (stop_fault _ _ _ _ _ _ c.loop-block.invariant _ _ _ (sym c.find.ensures ∙ c.in-Whole.is) e.0 (sym e.1 ∙ c.judge_record.ensures))

pub copy_at-requires : goal.copy_at-requires
copy_at-requires c =
    let e = kept _ c.judge_record.result _ c.map_err.ensures.cases _ c.in_ok-map_err-in-Whole.was in
    fits _ _ _ _ _ _ c.loop-block.invariant _ _ _ (sym c.find.ensures ∙ c.in-Whole.is) (sym e ∙ c.judge_record.ensures) c.requires.1 c.requires.0

pub loop-block-preserved : goal.loop-block-preserved
loop-block-preserved c =
    let e = kept _ c.judge_record.result _ c.map_err.ensures.cases _ c.in_ok-map_err-in-Whole.was in
    again _ _ _ _ _ _ c.loop-block.invariant _ _ _ (sym c.find.ensures ∙ c.in-Whole.is) (sym e ∙ c.judge_record.ensures) c.requires.1 c.requires.0
    _ c.copy_at.ensures
