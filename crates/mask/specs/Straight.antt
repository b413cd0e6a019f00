-- Straight on, without the lap's turn.
use Rattle.std.specs.Prelude.{ℕ, zero, suc, Bool, true, false, ◌&&◌, ◌||◌}

-- a at all of n steps from s on
unfoldable pub holds : (ℕ → Bool) → ℕ → ℕ → Bool
holds a zero s = true
holds a (suc n) s = a s && holds a n (suc s)

-- b reached in fewer than n moves from s, with a up to there
unfoldable pub reaches : (a b : ℕ → Bool) → ℕ → ℕ → Bool
reaches a b zero s = false
reaches a b (suc n) s = b s || (a s && reaches a b n (suc s))
