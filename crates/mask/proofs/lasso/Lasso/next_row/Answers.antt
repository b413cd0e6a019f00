use native.Mathlib.Omega.{arith}
use Rattle.mask.specs.Turned.{turned}
use Rattle.mask.proofs.lasso.Lasso.next_row.Goals as goal

pub returns : goal.returns
returns c = turned c.args.a c.args.self.h c.args.self.l (omega arith) (omega arith) (omega arith) _ (omega arith)
