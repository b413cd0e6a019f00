use native.Mathlib.Omega.{arith}
use borrow.Author.Rules.{rules}
use Rattle.mask.specs.Combined.{turn_true, turn_false}
use Rattle.mask.proofs.lasso.Lasso.turned.Goals as goal

pub returns-then-r-self-eq1 : goal.returns-then-r-self-eq1
returns-then-r-self-eq1 c = let a = c.args in
    turn_true a.self.h a.self.l a.r a.gap (search rules) c.complement.result (omega arith) c.complement.ensures

pub returns-else-r-self-eq1 : goal.returns-else-r-self-eq1
returns-else-r-self-eq1 c = let a = c.args in
    turn_false a.self.h a.self.l a.r a.gap (search rules) (omega arith)
