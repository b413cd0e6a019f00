use Rattle.std.specs.Prelude.{Err}
use Rattle.std.proofs.lemmas.Option.{MatchOption-at_some, MatchOption-at_none}
use native.Mathlib.Omega.{arith}
use mathlib.Core.Path.{sym, ap, ◌∙◌}
use Rattle.plan.specs.Numbers.{plan_bytes, judged_numbers}
use Rattle.plan.specs.Passed.{in_range}
use Rattle.plan.specs.RoundTrip.{length_plan}
use Rattle.plan.specs.Judged.{wide_head, good_head}
use Rattle.plan.proofs.Steps.{too_long}
use Rattle.plan.proofs.writing.judge_numbers.Goals as goal

pub returns-in_default : goal.returns-in_default
returns-in_default c = let a = c.args in
    ap Err c.at_offset.ensures
    ∙ sym (ap judged_numbers (too_long a.f (plan_bytes a.h a.rows.now) (MatchOption-at_none _ _ c.in_default.is c.laid_size.ensures)))

pub returns-then-out_of_range : goal.returns-then-out_of_range
returns-then-out_of_range c = let a = c.args in
    ap Err c.at_offset-then-out_of_range.ensures
    ∙ sym
    (ap judged_numbers (wide_head a.f a.h a.rows.now c.requires (omega (arith, MatchOption-at_some _ _ _ c.in-Some.is c.laid_size.ensures))
    (sym c.out_of_range.ensures ∙ c.if-out_of_range.true)))

pub judge_rows-requires : goal.judge_rows-requires
judge_rows-requires c = let a = c.args in
    let r = in_range a.h (sym c.out_of_range.ensures ∙ c.if-out_of_range.false) in
    (r.some, omega (arith, MatchOption-at_some _ _ _ c.in-Some.is c.laid_size.ensures, length_plan a.h a.rows.now))

pub returns : goal.returns
returns c = let a = c.args in
    c.judge_rows.ensures
    ∙ sym
    (ap judged_numbers (good_head a.f a.h a.rows.now c.requires (omega (arith, MatchOption-at_some _ _ _ c.in-Some.is c.laid_size.ensures))
    (sym c.out_of_range.ensures ∙ c.if-out_of_range.false)))
