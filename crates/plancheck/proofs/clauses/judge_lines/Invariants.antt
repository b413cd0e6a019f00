use Rattle.std.proofs.Common.{◌≡◌, ◌-◌, length}
use Rattle.refusal.specs.Results.{checked}
use Rattle.table.specs.Layout.{Shown}
use Rattle.drift.specs.Lent.{Lent}
use Rattle.drift.specs.Tallies.{Tallies}
use Rattle.plancheck.specs.Readable.{rows_read}
use Rattle.plancheck.proofs.Turns.{Going}
use Rattle.plancheck.proofs.clauses.judge_lines.Given as goal

abbrev pub invariant-loop-at : goal.invariant-loop-at
invariant-loop-at l = record {
  nodes : length l.nodes ≡ 512;
  shown : Shown l.marks l.r.floor.carts l.r.plan.head.steps (rows_read l.floor l.r).bears l.t;
  going : Going (rows_read l.floor l.r) l.r.plan.head.drift l.r.floor.groups l.rules l.at l.n (checked l.next) (checked l.found);
  lent : Lent l.g l.t l.bits;
  tallies : Tallies l.g l.t l.tallies;
}

abbrev pub decreases-loop-at : goal.decreases-loop-at
decreases-loop-at l = 32 - l.n
