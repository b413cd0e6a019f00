use Rattle.std.specs.Prelude.{Err}
use Rattle.std.proofs.Common.{rules, arith, ◌≡◌, ◌+◌, ◌≤◌, length, ap, sym, ◌∙◌}
use Rattle.std.proofs.lemmas.Result.{err_from_is_err_and}
use Rattle.refusal.specs.Codes.{at_offset}
use Rattle.plan.proofs.JudgingRows.{all_judged, too_few, refused_row, fits, again}
use Rattle.plan.proofs.Wrapped.{kept, refused}
use Rattle.plan.proofs.writing.judge_rows.Goals as goal

pub returns-in_err-map_err : goal.returns-in_err-map_err
returns-in_err-map_err c =
    let k = c.in-Some.ensures.steps in
    let v = c.loop-row.invariant in
    let s = v.size in
    let e = refused _ c.judge_record.result _ c.map_err.ensures.cases _ c.in_err-map_err.was in
    let q : c.in_err-map_err.field-0.0 ≡ at_offset e.0 c.loop-row.at = search rules in
    let p = err_from_is_err_and c.from_residual.result c.from_residual.ensures.1 in
    rw (p.1, p.2, q)
    (refused_row _ _ _ _ _ _ v.judging _ _ c.requires.0 k.1.0 (omega (arith, k)) k.1.2 _ (sym e.1 ∙ c.judge_record.ensures))

fit : (c : goal.In_ok-map_err) → c.loop-row.at + (4 + length c.in-Some.row.now) ≤ 65536
fit c =
    let k = c.in-Some.ensures.steps in
    let v = c.loop-row.invariant in
    let s = v.size in
    fits _ _ _ _ _ _ v.judging _ _ c.requires.0 k.1.0 (omega (arith, k)) k.1.2

pub overflow_cast-at : goal.overflow_cast-at
overflow_cast-at c = omega (arith, fit c)

pub overflow_add-at : goal.overflow_add-at
overflow_add-at c = omega (arith, fit c)

pub overflow_add-at-in-loop-row : goal.overflow_add-at-in-loop-row
overflow_add-at-in-loop-row c = omega (arith, fit c)

pub loop-row-preserved : goal.loop-row-preserved
loop-row-preserved c =
    let k = c.in-Some.ensures.steps in
    let v = c.loop-row.invariant in
    let s = v.size in
    let e = kept _ c.judge_record.result _ c.map_err.ensures.cases _ c.in_ok-map_err.was in
    record {
      size = k.0 ∙ s;
      judging = again _ _ _ _ _ _ v.judging _ _ c.requires.0 k.1.0 (omega (arith, k)) k.1.2 (sym e ∙ c.judge_record.ensures);
    }

pub returns-then-n-f : goal.returns-then-n-f
returns-then-n-f c =
    ap Err c.at_offset.ensures ∙ too_few _ _ _ _ _ _ c.loop-row.invariant.judging c.in-None.ensures.steps.1.0 c.if-n-f.true

pub returns : goal.returns
returns c = all_judged _ _ _ _ _ _ c.loop-row.invariant.judging c.in-None.ensures.steps.1.0 c.if-n-f.false
