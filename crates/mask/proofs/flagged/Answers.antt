use mathlib.Core.Path.{sym, subst}
use mathlib.Core.Bool.{Bool}
use borrow.Author.Rules.{rules}
use Rattle.mask.specs.Mask.{on, Row, signed}
use Rattle.mask.specs.Combined.{itself}
use Rattle.mask.proofs.flagged.Goals as goal

pub returns-then-p : goal.returns-then-p
returns-then-p c = let a = c.args in
    subst (λ (p : Bool). Row a.h a.a (λ s. signed p (on a.a s))) (sym c.if-p.true) (itself a.h a.a (search rules))

pub returns-else-p : goal.returns-else-p
returns-else-p c = let a = c.args in
    subst (λ (p : Bool). Row a.h c.complement.result (λ s. signed p (on a.a s))) (sym c.if-p.false) c.complement.ensures
