use Rattle.row.proofs.Following.{Following, rank}
use Rattle.row.proofs.lanes.Lanes.some_lane_opens.Given as goal

abbrev pub invariant-loop-k : goal.invariant-loop-k
invariant-loop-k l = ∥ Following l.self.floor.now l.self.next.now l.class l.from l.to l.k ∥₁

abbrev pub decreases-loop-k : goal.decreases-loop-k
decreases-loop-k l = rank l.k
