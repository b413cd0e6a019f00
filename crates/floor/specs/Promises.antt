-- What reading and writing a floor promise.
use Rattle.std.specs.Prelude.{ℕ, ◌*◌, ◌<◌, ◌≡◌, List, [], ◌∷◌, take, drop, get_or, Result, Ok}
use Rattle.endian.specs.Little.{value}
use Rattle.refusal.specs.Given.{Given, reading_floor, writing_floor}
use Rattle.refusal.specs.Outcome.{Gives, written}
use Rattle.refusal.specs.declared.Verdict.{Verdict}
use Rattle.refusal.specs.declared.Verdict.TheVariants.{Written, Floor as AboutFloor}
use Rattle.floor.specs.Floor.{read_floor, floor_verdict}
use Rattle.floor.specs.Numbers.{FloorNumbers, floor_bytes, numbers_of, place_at, lane_at, cart_at, narrow_at, group_at, body_at, write_floor}
use Rattle.floor.specs.Valid.{ValidFloor}
use Rattle.floor.specs.declared.Floor.{Floor}
use Rattle.refusal.specs.declared.Refusal.{Refusal}

-- an accepted floor: its numbers are those of the table, they write back as the same bytes, and they lie at fixed offsets
pub record AcceptedFloor (s : List ℕ) (f : Floor) : Type 0 where
  pub valid : ValidFloor (numbers_of s) f
  pub writes_back : floor_bytes (numbers_of s) ≡ s
  pub written_again : (before : List ℕ) → write_floor (numbers_of s) before ≡ written AboutFloor s before
  pub place : (i : ℕ) → i < f.places → value (body_at 4 (place_at i) s) ≡ get_or (numbers_of s).places i 0
  pub lane : (j : ℕ) → j < f.lanes → body_at 3 (lane_at f j) s ≡ take 3 (drop (3 * j) (numbers_of s).lanes)
  pub cart : (n : ℕ) → n < f.carts → body_at 2 (cart_at f n) s ≡ take 2 (drop (2 * n) (numbers_of s).carts)
  pub narrow : (i : ℕ) → i < f.narrow → body_at 1 (narrow_at f i) s ≡ get_or (numbers_of s).narrow i 0 ∷ []
  pub group : (g : ℕ) → g < f.groups → value (body_at 4 (group_at f g) s) ≡ get_or (numbers_of s).groups g 0

pub record FloorRead (s : List ℕ) (r : Result Floor Refusal) : Type 0 where
  -- the answer, for every file
  pub answer : r ≡ read_floor s
  -- "Reading a floor: 1 .. 7"
  pub numbers : Given reading_floor (floor_verdict r)
  -- "floor and plan files read and write back to the same bytes"
  pub accepted : (f : Floor) → r ≡ Ok f → AcceptedFloor s f

pub record FloorWritten (n : FloorNumbers) (before : List ℕ) (v : Verdict) (after : List ℕ) : Type 0 where
  -- the answer and every byte of the buffer, for all numbers
  pub outcome : Gives (write_floor n before) v after
  -- "refused as reading their file would be .., then 18"
  pub numbers : Given writing_floor v
  -- numbers of the table are refused only for want of room
  pub complete : (f : Floor) → ValidFloor n f → Gives (written AboutFloor (floor_bytes n) before) v after
  -- "What is written reads back as the same numbers."
  pub reads_back : (k : ℕ) → v ≡ Written k → (f : Floor) × (read_floor (take k after) ≡ Ok f) × (numbers_of (take k after) ≡ n)
