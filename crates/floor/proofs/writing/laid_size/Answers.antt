use Rattle.std.proofs.Common.{arith}
use Rattle.floor.specs.Lent.{lent}
use Rattle.floor.specs.Walk.{length_floor}
use Rattle.floor.proofs.writing.laid_size.Goals as goal

pub returns-then-max-gt65536 : goal.returns-then-max-gt65536
returns-then-max-gt65536 c = omega (arith, length_floor (lent c.args.n))

pub returns-then-size-gt65536 : goal.returns-then-size-gt65536
returns-then-size-gt65536 c = omega (arith, length_floor (lent c.args.n))

pub returns : goal.returns
returns c = (omega (arith, length_floor (lent c.args.n)), omega arith)
