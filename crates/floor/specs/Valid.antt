-- The numbers of a readable floor: the table of 'Files' in document 01, and document 02's further kinds.
use Rattle.std.specs.Prelude.{ℕ, ◌+◌, ◌*◌, ◌^◌, ◌≤◌, ◌<◌, ◌≡◌, length, get_or}
use Rattle.floor.specs.Numbers.{FloorNumbers}
use Rattle.floor.specs.declared.Floor.{Floor}

pub record ValidFloor (n : FloorNumbers) (f : Floor) : Type 0 where
  -- "1 to 256" places, "0 to 1,024" lanes of three bytes, "1 to 32" carts of two; "at most 256" narrow places, "up to eight groups"
  pub places : length n.places ≡ f.places
  pub lanes : length n.lanes ≡ 3 * f.lanes
  pub carts : length n.carts ≡ 2 * f.carts
  pub narrow : length n.narrow ≡ f.narrow
  pub groups : length n.groups ≡ f.groups
  pub some_place : 0 < f.places
  pub some_cart : 0 < f.carts
  pub few_places : f.places ≤ 256
  pub few_lanes : f.lanes ≤ 1024
  pub few_carts : f.carts ≤ 32
  pub few_narrow : f.narrow ≤ 256
  pub few_groups : f.groups ≤ 8
  -- a lane is between places of the floor
  pub lane_from : (j : ℕ) → j < f.lanes → get_or n.lanes (3 * j) 0 < f.places
  pub lane_to : (j : ℕ) → j < f.lanes → get_or n.lanes (3 * j + 1) 0 < f.places
  -- "class 0 to 7, start place"
  pub cart_class : (c : ℕ) → c < f.carts → get_or n.carts (2 * c) 0 < 8
  pub cart_start : (c : ℕ) → c < f.carts → get_or n.carts (2 * c + 1) 0 < f.places
  -- a narrow place is a place of the floor
  pub narrow_there : (i : ℕ) → i < f.narrow → get_or n.narrow i 0 < f.places
  -- "bit n for cart n": no bit of an absent cart
  pub group_there : (g : ℕ) → g < f.groups → get_or n.groups g 0 < 2 ^ f.carts
