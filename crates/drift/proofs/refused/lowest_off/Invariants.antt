use Prim.Native.Nat.{◌-◌}
use mathlib.Core.Path.{◌≡◌}
use Rattle.cltl.specs.Step.{lowest}
use Rattle.mask.specs.Mask.{on}
use Rattle.drift.proofs.refused.lowest_off.Given as goal

abbrev pub invariant-loop-s : goal.invariant-loop-s
invariant-loop-s l = lowest (on l.a) (l.h - l.s) l.s ≡ lowest (on l.a) l.h 0
