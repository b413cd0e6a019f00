-- The words of a count: one a step, with bit i for cart i.
use Rattle.std.specs.Prelude.{ℕ, ◌^◌, ◌≤◌, ◌<◌, ◌≡◌, Bool, ◌&&◌, List, get_or, length}
use Rattle.mask.specs.Mask.{on, Row}

-- the text of the carts that have their bit in a word, and of no other
abbrev pub within : ℕ → (ℕ → ℕ → Bool) → ℕ → ℕ → Bool
within who f i s = on who i && f i s

-- the word of step s: of these carts those with f
pub record Of (who : ℕ) (f : ℕ → ℕ → Bool) (s x : ℕ) : Type 0 where
  pub low : x ≤ who
  pub each : (i : ℕ) → i < 32 → on x i ≡ within who f i s

-- the word of step s: the carts with f, and no bit of what is no cart
abbrev pub CartsAt : (carts : ℕ) → (ℕ → ℕ → Bool) → ℕ → ℕ → Type 0
CartsAt carts f s x = Row carts x (λ i. f i s)

-- whether cart i has its bit in the word of step s
abbrev pub has : List ℕ → ℕ → ℕ → Bool
has w i s = on (get_or w s 0) i

-- a table of the 32 bits: word j is bit j alone. What stands in the nine words behind them is the lender's.
pub record Bits (b : List ℕ) : Type 0 where
  pub size : length b ≡ 41
  pub each : (j : ℕ) → j < 32 → get_or b j 0 ≡ 2 ^ j
