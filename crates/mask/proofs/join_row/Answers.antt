use mathlib.Core.Path.{sym, subst}
use mathlib.Core.Bool.{Bool}
use lib.Bits.{bit_and, bit_or}
use Rattle.cltl.specs.Rules.{join}
use Rattle.mask.specs.Mask.{on, Row}
use Rattle.mask.specs.Combined.{both, either}
use Rattle.mask.proofs.join_row.Goals as goal

pub returns-then-p : goal.returns-then-p
returns-then-p c = let a = c.args in
    λ h p q. subst (λ (t : Bool). Row h (bit_and a.a a.b) (λ s. join t (on a.a s) (on a.b s))) (sym c.if-p.true) (both h a.a a.b p q)

pub returns-else-p : goal.returns-else-p
returns-else-p c = let a = c.args in
    λ h p q. subst (λ (t : Bool). Row h (bit_or a.a a.b) (λ s. join t (on a.a s) (on a.b s))) (sym c.if-p.false) (either h a.a a.b p q)
