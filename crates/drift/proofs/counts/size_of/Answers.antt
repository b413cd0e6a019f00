use native.Mathlib.Omega.{arith}
use lib.Count.{ones-le}
use borrow.Author.Tests.{ne_eqb}
use Rattle.drift.proofs.counts.size_of.Goals as goal

pub returns : goal.returns
returns c = let a = c.args in
    (rw (ne_eqb a.o 0 c.if-o-eq0.false), omega (arith, ones-le a.carts a.who c.requires.1))
