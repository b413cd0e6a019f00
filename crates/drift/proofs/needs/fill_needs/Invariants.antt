use Prim.Native.Nat.{ℕ, ◌≤◌, ◌<◌}
use mathlib.Core.Path.{◌≡◌}
use lib.ListN.{get_or, length}
use Rattle.drift.specs.Need.{Needs}
use Rattle.drift.proofs.needs.fill_needs.Given as goal

abbrev pub invariant-loop-k : goal.invariant-loop-k
invariant-loop-k l = record {
  size : length l.needs ≡ length l.initial.needs;
  needed : Needs l.nodes l.needs l.k;
  below : (j : ℕ) → j < l.k → get_or l.needs j 0 ≤ j;
  others : (j : ℕ) → l.k ≤ j → get_or l.needs j 0 ≡ get_or l.initial.needs j 0;
}
