use Rattle.std.proofs.Common.{ℕ, ◌<◌, ◌≡◌, Bool}
use Rattle.mask.specs.Mask.{Row}
use Rattle.quorum.proofs.counting.row_of.Given as goal

abbrev pub invariant-loop-j : goal.invariant-loop-j
invariant-loop-j g l = (f : ℕ → Bool) → ((j : ℕ) (r : Bool) → j < l.n → goal.F-post g l.test j r → r ≡ f j) → Row l.j l.row f
