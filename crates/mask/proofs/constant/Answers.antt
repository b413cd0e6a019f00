use mathlib.Core.Path.{sym, subst}
use mathlib.Core.Bool.{Bool}
use Rattle.mask.specs.Mask.{Row}
use Rattle.mask.specs.Combined.{all_false}
use Rattle.mask.proofs.constant.Goals as goal

pub returns-then-p : goal.returns-then-p
returns-then-p c = subst (λ (p : Bool). Row c.args.h c.full.result (λ s. p)) (sym c.if-p.true) c.full.ensures

pub returns-else-p : goal.returns-else-p
returns-else-p c = subst (λ (p : Bool). Row c.args.h 0 (λ s. p)) (sym c.if-p.false) (all_false c.args.h)
