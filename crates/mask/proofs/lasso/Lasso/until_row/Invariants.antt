use Prim.Native.Nat.{◌-◌}
use Rattle.mask.proofs.Doubling.{Doubling}
use Rattle.mask.proofs.lasso.Lasso.until_row.Given as goal

abbrev pub invariant-loop-w : goal.invariant-loop-w
invariant-loop-w l = Doubling l.self.h l.b l.initial.gap l.r l.gap l.w

abbrev pub decreases-loop-w : goal.decreases-loop-w
decreases-loop-w l = l.self.h - l.w
