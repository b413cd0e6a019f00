-- The lanes and carts of an accepted floor, byte by byte.
use Rattle.std.specs.Prelude.{ℕ, ◌+◌, ◌*◌, ◌≤◌, ◌<◌, ◌≡◌, List, [], length, take, drop, get_or}
use Rattle.std.proofs.Common.{arith, sym, ap, ◌∙◌, get_or-take, get_or-drop}
use Rattle.record.specs.Parts.{parts}
use Rattle.record.specs.Laid.{part_of, whole_parts}
use Rattle.floor.specs.Numbers.{numbers_of, lane_at, cart_at, body_at}
use Rattle.floor.specs.Promises.{AcceptedFloor}
use Rattle.floor.specs.Located.{accepted_length}
use Rattle.floor.specs.declared.Floor.{Floor}
use Rattle.row.specs.Moves.{lanes_in, carts_in}

module _ (s : List ℕ) (f : Floor) (w : AcceptedFloor s f) where
  -- the file is at least as long as its places, lanes and carts
  pub file_length_lem : 8 * f.places + (7 * f.lanes + 6 * f.carts) ≤ length s
  file_length_lem = omega (arith, accepted_length s f w)

  pub lane_count : length (lanes_in s) ≡ f.lanes
  lane_count = (whole_parts 3 (omega arith) (λ x. Unit {0}) f.lanes (numbers_of s).lanes w.valid.lanes (λ j h. tt)).0

  -- byte k of part j of a list, which stands in the file as the body of a record
  part_byte : (size : ℕ) → 0 < size → (n : ℕ) (l : List ℕ) → length l ≡ size * n → (j at k : ℕ) → j < n → k < size
      → body_at size at s ≡ take size (drop (size * j) l) → get_or (get_or (parts size l) j []) k 0 ≡ get_or s (at + 4 + k) 0
  part_byte size some n l e j at k h m b =
      ap (λ (x : List ℕ). get_or x k 0) (part_of size some n l e j h ∙ sym b) ∙ get_or-take size (drop (at + 4) s) k 0 m ∙ get_or-drop (at + 4) s k 0

  -- from, to and classes
  pub lane_byte : (j k : ℕ) → j < f.lanes → k < 3 → get_or (get_or (lanes_in s) j []) k 0 ≡ get_or s (lane_at f j + 4 + k) 0
  lane_byte j k h m = part_byte 3 (omega arith) f.lanes (numbers_of s).lanes w.valid.lanes j (lane_at f j) k h m (w.lane j h)

  -- class and start
  pub cart_byte : (c k : ℕ) → c < f.carts → k < 2 → get_or (get_or (carts_in s) c []) k 0 ≡ get_or s (cart_at f c + 4 + k) 0
  cart_byte c k h m = part_byte 2 (omega arith) f.carts (numbers_of s).carts w.valid.carts c (cart_at f c) k h m (w.cart c h)
