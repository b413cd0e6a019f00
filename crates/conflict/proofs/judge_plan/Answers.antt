use Rattle.std.proofs.Common.{arith, sym}
use Rattle.floor.specs.Numbers.{numbers_of}
use Rattle.plan.specs.Plan.{held_numbers}
use Rattle.conflict.specs.OfPlan.{plan_routes}
use Rattle.conflict.proofs.NoneNarrow.{none_narrow, none_named}
use Rattle.conflict.proofs.judge_plan.Goals as goal

pub returns-then-f-eq0 : goal.returns-then-f-eq0
returns-then-f-eq0 c = let a = c.args in
    let P = plan_routes a.floor.now a.f (held_numbers a.f.carts a.h a.block.now) in
    sym (none_narrow P a.h.drift (none_named (numbers_of a.floor.now).narrow (omega (arith, c.requires.accepted_floor.valid.narrow))) c.requires.head_in_range.stem)
