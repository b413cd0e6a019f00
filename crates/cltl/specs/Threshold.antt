-- How many carts a count asks for. `size` is how many carts it is over.
use Rattle.std.specs.Prelude.{ℕ, suc, ◌+◌, ◌*◌, ◌-◌, ◌/◌, ◌≤◌, ◌≡◌, Bool, true, false}

-- A number is itself. "A percentage becomes a number of carts: percent × carts ÷ 100", and by document 02, 3) "a share of a fleet is rounded to the nearest
-- cart, a half going up".
unfoldable pub threshold : ℕ → Bool → ℕ → ℕ
threshold number false size = number
threshold number true size = (number * size + 50) / 100

-- What the threshold of k percent means, without the division.
module _ (k size : ℕ) where
  -- how far n carts are from k × size ÷ 100, in hundredths of a cart
  abbrev pub distance : ℕ → ℕ
  distance n = (100 * n - k * size) + (k * size - 100 * n)

  -- m is "the nearest cart, a half going up": no number of carts is nearer, and none that is as near is higher
  abbrev pub Nearest : ℕ → Type 0
  Nearest m = (n : ℕ) → (distance m ≤ distance n) × (distance n ≡ distance m → n ≤ m)

-- The threshold m of a count (true) and of its negation (false): "!`[a,m]` becomes `[!a,N+1−m]`, .. never below 0."
unfoldable pub quota : Bool → ℕ → ℕ → ℕ
quota true m size = m
quota false m size = suc size - m
