-- What the promises of reading and writing a floor give: a reader of them alone can conclude this.
use Rattle.std.specs.Prelude.{ℕ, ◌*◌, ◌/◌, ◌%◌, ◌^◌, ◌≤◌, ◌<◌, ◌≡◌, refl, List, [], ◌∷◌, ◌++◌, length, take, drop, get_or, Result, Ok, Err}
use Rattle.std.proofs.Common.{add-zero, arith, sym, subst, ◌∙◌}
use Rattle.endian.specs.Little.{value}
use Rattle.refusal.specs.Codes.{refused, code_of}
use Rattle.refusal.specs.Given.{OneOf, Given, floor_numbers, reading_floor, writing_floor}
use Rattle.refusal.specs.Numbered.{zero_accepts, zero_writes}
use Rattle.refusal.specs.Outcome.{Outcome, Gives}
use Rattle.refusal.specs.Held.{with_room, without_room}
use Rattle.refusal.specs.declared.Refusal.{Refusal}
use Rattle.refusal.specs.declared.Verdict.{Verdict}
use Rattle.refusal.specs.declared.Verdict.TheVariants.{Accepted, Written, Floor as AboutFloor}
use Rattle.record.specs.Laid.{field_of}
use Rattle.floor.specs.Floor.{floor_verdict}
use Rattle.floor.specs.Numbers.{FloorNumbers, floor_bytes, numbers_of, place_at, lane_at, cart_at, narrow_at, group_at, body_at}
use Rattle.floor.specs.Valid.{ValidFloor}
use Rattle.floor.specs.Promises.{FloorRead, FloorWritten}
use Rattle.floor.specs.Absent.{only_present}
use Rattle.floor.specs.declared.Floor.{Floor}

module _ (s : List ℕ) (r : Result Floor Refusal) (w : FloorRead s r) where
  -- a refusal has one of the numbers listed, and number 0 is accepted
  pub refusal_listed : (x : Refusal) → r ≡ Err x → OneOf floor_numbers x.number
  refusal_listed x e = subst (λ (a : Result Floor Refusal). Given reading_floor (floor_verdict a)) e w.numbers

  pub zero_accepted : (code_of (floor_verdict r)).number ≡ 0 → floor_verdict r ≡ Accepted
  zero_accepted z = zero_accepts reading_floor refl refl (floor_verdict r) w.numbers z

  module _ (f : Floor) (e : r ≡ Ok f) where
    -- accepted: what the bytes of a place, a lane, a cart, a narrow place and a group hold
    pub marks_of_place : (i : ℕ) → i < f.places → get_or (numbers_of s).places i 0 ≡ value (body_at 4 (place_at i) s)
    marks_of_place i l = sym ((w.accepted f e).place i l)

    pub lane_between : (j : ℕ) → j < f.lanes → (get_or (body_at 3 (lane_at f j) s) 0 0 < f.places) × (get_or (body_at 3 (lane_at f j) s) 1 0 < f.places)
    lane_between j l =
        let a = w.accepted f e in
        let lanes = (numbers_of s).lanes in
        rw (a.lane j l) (
          rw (field_of 3 lanes j 0 (omega arith), add-zero (3 * j)) (a.valid.lane_from j l),
          rw (field_of 3 lanes j 1 (omega arith)) (a.valid.lane_to j l),
        )

    pub cart_placed : (n : ℕ) → n < f.carts → (get_or (body_at 2 (cart_at f n) s) 0 0 < 8) × (get_or (body_at 2 (cart_at f n) s) 1 0 < f.places)
    cart_placed n l =
        let a = w.accepted f e in
        let carts = (numbers_of s).carts in
        rw (a.cart n l) (
          rw (field_of 2 carts n 0 (omega arith), add-zero (2 * n)) (a.valid.cart_class n l),
          rw (field_of 2 carts n 1 (omega arith)) (a.valid.cart_start n l),
        )

    pub narrow_placed : (i : ℕ) → i < f.narrow → get_or (body_at 1 (narrow_at f i) s) 0 0 < f.places
    narrow_placed i l = let a = w.accepted f e in rw (a.narrow i l) (a.valid.narrow_there i l)

    pub group_carts : (g : ℕ) → g < f.groups → value (body_at 4 (group_at f g) s) < 2 ^ f.carts
    group_carts g l = let a = w.accepted f e in rw (a.group g l) (a.valid.group_there g l)

    pub group_present : (g n : ℕ) → g < f.groups → f.carts ≤ n → value (body_at 4 (group_at f g) s) / 2 ^ n % 2 ≡ 0
    group_present g n l m = only_present f.carts _ n (group_carts g l) m

    -- its numbers, written to a buffer with room, are its bytes again, and the rest of the buffer stays
    pub read_then_write : (before : List ℕ) (v : Verdict) (after : List ℕ) → FloorWritten (numbers_of s) before v after → length s ≤ length before
        → (v ≡ Written (length s)) × (after ≡ s ++ drop (length s) before)
    read_then_write before v after x room =
        with_room AboutFloor s before v after (subst (λ (o : Outcome). Gives o v after) ((w.accepted f e).written_again before) x.outcome) room

module _ (n : FloorNumbers) (before : List ℕ) (v : Verdict) (after : List ℕ) (w : FloorWritten n before v after) where
  -- numbers of the table are written if there is room, and otherwise 18 says how much is needed
  pub valid_written : (f : Floor) → ValidFloor n f → length (floor_bytes n) ≤ length before
      → (v ≡ Written (length (floor_bytes n))) × (after ≡ floor_bytes n ++ drop (length (floor_bytes n)) before)
  valid_written f x room = with_room AboutFloor (floor_bytes n) before v after (w.complete f x) room

  pub room_needed : (f : Floor) → ValidFloor n f → length before < length (floor_bytes n)
      → (v ≡ AboutFloor (refused 18 (length (floor_bytes n)) 0)) × (after ≡ before)
  room_needed f x short = without_room AboutFloor (floor_bytes n) before v after (w.complete f x) short

  -- a refusal has one of the numbers listed, and number 0 is a result of the length that is told
  pub writing_listed : (x : Refusal) → v ≡ AboutFloor x → OneOf (floor_numbers ++ (18 ∷ [])) x.number
  writing_listed x e = subst (Given writing_floor) e w.numbers

  pub zero_written : (code_of v).number ≡ 0 → v ≡ Written (code_of v).first
  zero_written z = zero_writes writing_floor refl refl v w.numbers z

  -- what was written is read as the same numbers
  pub write_then_read : (k : ℕ) → v ≡ Written k → (r : Result Floor Refusal) → FloorRead (take k after) r
      → (f : Floor) × (r ≡ Ok f) × (numbers_of (take k after) ≡ n) × ValidFloor n f
  write_then_read k e r x =
      let b = w.reads_back k e in
      let is : r ≡ Ok b.0 = x.answer ∙ b.1 in
      (b.0, is, b.2, subst (λ (m : FloorNumbers). ValidFloor m b.0) b.2 (x.accepted b.0 is).valid)
