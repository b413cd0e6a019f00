-- What the places of a plan's rows bear, from the bytes of the floor and of the plan's block.
use Rattle.std.specs.Prelude.{ℕ, ◌+◌, ◌*◌, ◌-◌, ◌≤◌, ◌<◌, ◌≡◌, Bool, true, false, List, get_or, length}
use Rattle.endian.specs.Little.{value}
use Rattle.floor.specs.Numbers.{place_at, body_at}
use Rattle.mask.specs.Mask.{on}

-- "4 bytes: one bit for each mark m0 (lowest) to m31": the marks of place q
unfoldable pub marks_of : List ℕ → ℕ → ℕ
marks_of floor q = value (body_at 4 (place_at q) floor)

-- the place on step s of cart i: "cart n's row beginning at 64 times n"
abbrev pub block_place : List ℕ → ℕ → ℕ → ℕ
block_place block i s = get_or block (64 * i + s) 0

abbrev pub bearing : List ℕ → List ℕ → ℕ → ℕ → ℕ → Bool
bearing floor block i s k = on (marks_of floor (block_place block i s)) k

-- cart i's places have their records in the floor's bytes
pub record OnFloor (floor block : List ℕ) (h i : ℕ) : Type 0 where
  pub inside : (s : ℕ) → s < h → 8 * block_place block i s + 8 ≤ length floor

pub record Placed (floor block : List ℕ) (carts h : ℕ) : Type 0 where
  pub row : (i : ℕ) → i < carts → OnFloor floor block h i

-- r is one more than the highest mark that a place below `places` bears, and 0 if none bears a mark
pub record Borne (floor : List ℕ) (places r : ℕ) : Type 0 where
  pub few : r ≤ 32
  pub none : (q k : ℕ) → q < places → r ≤ k → k < 32 → on (marks_of floor q) k ≡ false
  pub some : 0 < r → (q : ℕ) × (q < places) × (on (marks_of floor q) (r - 1) ≡ true)

-- no place of the carts' rows bears a mark from r on
pub record NoneFrom (floor block : List ℕ) (carts h r : ℕ) : Type 0 where
  pub none : (i s k : ℕ) → i < carts → s < h → r ≤ k → k < 32 → bearing floor block i s k ≡ false
