-- Truth by step for all carts at once: a table is one word a step, with bit i for cart i.
use Rattle.std.specs.Prelude.{ℕ, ◌+◌, ◌≤◌, ◌<◌, ◌≡◌, Bool, ◌⊎◌, List, get_or, length}
use Rattle.mask.specs.Mask.{on}

-- what the table from an offset on says of cart i at step s
abbrev pub told : List ℕ → ℕ → ℕ → ℕ → Bool
told t at i s = on (get_or t (at + s) 0) i

-- a word has bit i exactly if f i
abbrev pub Word : (ℕ → Bool) → ℕ → Type 0
Word f x = (i : ℕ) → i < 32 → on x i ≡ f i

-- the words from one number up to another of the table at an offset are stored, word s with P s; every other word is left alone
pub record Stored (P : ℕ → ℕ → Type 0) (at from to : ℕ) (before after : List ℕ) : Type 0 where
  pub kept : length after ≡ length before
  pub each : (s : ℕ) → from ≤ s → s < to → P s (get_or after (at + s) 0)
  pub below : (j : ℕ) → j < at + from → get_or after j 0 ≡ get_or before j 0
  pub above : (j : ℕ) → at + to ≤ j → get_or after j 0 ≡ get_or before j 0

-- a whole table of h steps: word s has bit i exactly if f i s
abbrev pub Table : (ℕ → ℕ → Bool) → (at h : ℕ) (before after : List ℕ) → Type 0
Table f at h before after = Stored (λ s. Word (λ i. f i s)) at 0 h before after

-- two tables of n words that share none
abbrev pub Apart : (a b n : ℕ) → Type 0
Apart a b n = (a + n ≤ b) ⊎ (b + n ≤ a)

-- no longer or shorter, and the first n words are left alone
pub record Kept (n : ℕ) (before after : List ℕ) : Type 0 where
  pub size : length after ≡ length before
  pub below : (j : ℕ) → j < n → get_or after j 0 ≡ get_or before j 0
