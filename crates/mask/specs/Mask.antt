-- A truth row in one number: bit s is the truth at step s.
use Rattle.std.specs.Prelude.{ℕ, ◌/◌, ◌%◌, ◌^◌, ◌<◌, ◌≡◌, Bool, true, false, not, eqb}

-- bit s of a mask
unfoldable pub on : ℕ → ℕ → Bool
on x s = eqb (x / 2 ^ s % 2) 1

-- the mask x is the row f of h steps
pub record Row (h x : ℕ) (f : ℕ → Bool) : Type 0 where
  -- no bit beyond the steps
  pub low : x < 2 ^ h
  pub at : (s : ℕ) → s < h → on x s ≡ f s

-- a truth itself, or its negation
abbrev pub signed : Bool → Bool → Bool
signed true x = x
signed false x = not x
