use Rattle.conflict.proofs.Searching.{Searching}
use Rattle.conflict.proofs.rows.Rows.first_above.Given as goal

abbrev pub invariant-loop-v : goal.invariant-loop-v
invariant-loop-v l = Searching l.self.bays.now l.self.block.now l.self.carts l.self.head l.a l.last l.sw l.sv l.v
