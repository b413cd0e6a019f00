use Rattle.std.specs.Prelude.{Err}
use Rattle.std.proofs.lemmas.Result.{err_from_is_err_and}
use mathlib.Core.Path.{sym, ap, ◌∙◌}
use Rattle.plan.specs.Plan.{plan_read}
use Rattle.plan.proofs.Steps.{too_long, refused_head, headed}
use Rattle.plan.proofs.Wrapped.{kept, refused}
use Rattle.plan.proofs.reading.read_for.Goals as goal

pub returns-then-s-gt65536 : goal.returns-then-s-gt65536
returns-then-s-gt65536 c = let a = c.args in
    ap Err c.refused_at.ensures ∙ ap (plan_read a.f) (sym (too_long a.f a.s.now c.if-s-gt65536.true))

pub read_rows-requires : goal.read_rows-requires
read_rows-requires c =
    let e = kept _ c.read_head.result _ c.map_err.ensures.cases _ c.in_ok-h.was in
    let g = headed c.args.s.now _ (sym c.read_head.ensures ∙ e) in
    (c.requires, g.range.steps, g.room, c.if-s-gt65536.false)

pub returns-in_err-h : goal.returns-in_err-h
returns-in_err-h c =
    let a = c.args in
    let e = refused _ c.read_head.result _ c.map_err.ensures.cases _ c.in_err-h.was in
    let p = err_from_is_err_and c.from_residual.result c.from_residual.ensures.1 in
    rw (p.1, p.2, e.2) (ap (plan_read a.f) (sym (refused_head a.f a.s.now _ c.if-s-gt65536.false (sym c.read_head.ensures ∙ e.1))))

pub returns : goal.returns
returns c =
    let a = c.args in
    let e = kept _ c.read_head.result _ c.map_err.ensures.cases _ c.in_ok-h.was in
    let g = headed a.s.now _ (sym c.read_head.ensures ∙ e) in
    c.read_rows.ensures ∙ ap (plan_read a.f) (sym (g.rows a.f c.if-s-gt65536.false))
