use native.Mathlib.Omega.{arith}
use Rattle.cltl.specs.Threshold.{quota}
use Rattle.drift.proofs.counts.quota.Goals as goal

pub returns-then-p : goal.returns-then-p
unfolding quota
returns-then-p c = rw c.if-p.true

pub returns-then-m-size : goal.returns-then-m-size
unfolding quota
returns-then-m-size c = rw c.if-p.false (omega arith)

pub returns-else-m-size : goal.returns-else-m-size
unfolding quota
returns-else-m-size c = rw c.if-p.false (omega arith)
