-- Counting by a test.
use Rattle.std.specs.Prelude.{ℕ, zero, suc, Bool, true, cond, ◌&&◌}

-- how many of the numbers below n pass it, and whether all do
unfoldable pub tally : (ℕ → Bool) → ℕ → ℕ
tally f zero = zero
tally f (suc n) = cond (f n) (suc (tally f n)) (tally f n)

unfoldable pub every : (ℕ → Bool) → ℕ → Bool
every f zero = true
every f (suc n) = f n && every f n
