use native.Mathlib.Omega.{arith}
use Rattle.cltl.specs.Threshold.{threshold}
use Rattle.drift.proofs.counts.threshold.Goals as goal

pub returns-then-percent : goal.returns-then-percent
unfolding threshold
returns-then-percent c = rw c.if-percent.true (omega arith)

pub returns-else-percent : goal.returns-else-percent
unfolding threshold
returns-else-percent c = rw c.if-percent.false
