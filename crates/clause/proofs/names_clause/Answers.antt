use Rattle.clause.specs.Clause.{names_clause}
use mathlib.Core.Bool.{or-true, or-false}
use borrow.Author.Tests.{eq-eqb, ne_eqb}
use Rattle.clause.proofs.names_clause.Goals as goal

pub returns-then-number-eq16 : goal.returns-then-number-eq16
unfolding names_clause
returns-then-number-eq16 c = simp (eq-eqb _ _ c.if-number-eq16.true, or-true)

pub returns-then-number-eq17 : goal.returns-then-number-eq17
unfolding names_clause
returns-then-number-eq17 c = simp (ne_eqb _ _ c.if-number-eq16.false, eq-eqb _ _ c.if-number-eq17.true, or-true)

pub returns-else-number-eq17 : goal.returns-else-number-eq17
unfolding names_clause
returns-else-number-eq17 c = simp (ne_eqb _ _ c.if-number-eq16.false, ne_eqb _ _ c.if-number-eq17.false, or-false)
