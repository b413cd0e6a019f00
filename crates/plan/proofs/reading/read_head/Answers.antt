use native.Mathlib.Omega.{arith}
use mathlib.Core.Path.{sym, ◌∙◌}
use Rattle.record.specs.Opened.{Opened, opened}
use Rattle.plan.proofs.Steps.{head_there}
use Rattle.plan.proofs.reading.read_head.Goals as goal

pub slice_bounds-judge_head-end : goal.slice_bounds-judge_head-end
slice_bounds-judge_head-end c =
    let o : Opened c.args.s.now 0 c.in-Whole.kind c.in-Whole.start c.in-Whole.end = opened _ _ _ _ _ (sym c.find.ensures ∙ c.in-Whole.is) in
    omega arith

pub returns-in-Whole : goal.returns-in-Whole
returns-in-Whole c = c.judge_head.ensures ∙ head_there c.args.s.now _ _ _ (sym c.find.ensures ∙ c.in-Whole.is)
