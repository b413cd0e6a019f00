use Prim.Native.Nat.{◌+◌, ◌-◌}
use lib.ListN.{length}
use Rattle.plan.proofs.Rowing.{Rowing}
use Rattle.plan.proofs.reading.read_rows.Given as goal

abbrev pub invariant-loop-block : goal.invariant-loop-block
invariant-loop-block l = Rowing l.f l.h l.s l.block l.n l.at

abbrev pub decreases-loop-block : goal.decreases-loop-block
decreases-loop-block l = length l.s + 1 - l.at
