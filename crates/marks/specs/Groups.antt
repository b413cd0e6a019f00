-- The carts of the fleet and of the groups, by words: bit i for cart i.
use Rattle.std.specs.Prelude.{ℕ, zero, suc, List, get_or}
use Rattle.floor.specs.Numbers.{numbers_of}

-- of the fleet (0), or of a group (one more than its number); a group that the floor lacks has none
abbrev pub carts_word : ℕ → List ℕ → ℕ → ℕ
carts_word fleet floor zero = fleet
carts_word fleet floor (suc g) = get_or (numbers_of floor).groups g 0
