-- Running counts of all carts at once, in unary.
use Rattle.std.specs.Prelude.{ℕ, ◌+◌, ◌-◌, ◌≤◌, ◌<◌, ◌≡◌, List, ltb, get_or, length}
use Rattle.cltl.specs.Running.{walk}
use Rattle.mask.specs.Mask.{on}
use Rattle.quorum.specs.Words.{has}

-- a word with the carts whose count is above j
abbrev pub Above : (ℕ → ℕ) → ℕ → ℕ → Type 0
Above count j x = (i : ℕ) → on x i ≡ ltb j (count i)

-- 17 words of them from a number on
abbrev pub InUnary : List ℕ → ℕ → (ℕ → ℕ) → Type 0
InUnary w s count = (j : ℕ) → j ≤ 16 → Above count j (get_or w (s + j) 0)

-- Walked back over n steps, of which s is the first. The words up to step s's own are as they were. Behind the last of the 17 words of a step's counts stands
-- that of the carts whose count is above d there.
pub record WalkedBack (s n d : ℕ) (before after : List ℕ) : Type 0 where
  pub size : length after ≡ length before
  pub still : (k : ℕ) → k ≤ s → get_or after k 0 ≡ get_or before k 0
  pub beyond : (k : ℕ) → s + n + 17 ≤ k → get_or after k 0 ≡ get_or before k 0
  pub counts : (count : ℕ → ℕ) → InUnary before (s + n) count → InUnary after s (λ i. walk (has before i) s n (count i))
  pub above : (count : ℕ → ℕ) → InUnary before (s + n) count → (v : ℕ) → s ≤ v → v < s + n
      → Above (λ i. walk (has before i) v (s + n - v) (count i)) d (get_or after (17 + v) 0)
