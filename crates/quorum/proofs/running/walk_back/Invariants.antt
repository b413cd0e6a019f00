use Prim.Native.Nat.{◌-◌, ◌≤◌}
use Rattle.quorum.specs.Unary.{WalkedBack}
use Rattle.quorum.proofs.running.walk_back.Given as goal

abbrev pub invariant-loop-s : goal.invariant-loop-s
invariant-loop-s l = (l.s ≤ l.h) × WalkedBack l.s (l.h - l.s) l.d l.initial.w l.w

abbrev pub decreases-loop-s : goal.decreases-loop-s
decreases-loop-s l = l.s
