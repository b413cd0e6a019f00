use Rattle.std.proofs.Common.{◌≡◌}
use Rattle.row.specs.Lasso.{step_of}
use Rattle.conflict.specs.Table.{LatestAbove}
use Rattle.conflict.proofs.rows.Rows.lead.Given as goal

abbrev pub invariant-loop-w : goal.invariant-loop-w
invariant-loop-w l = record {
  step : l.s ≡ step_of l.self.head.steps l.self.head.stem l.w;
  latest : LatestAbove l.self.block.now l.self.carts l.self.head l.a l.w l.last;
}
