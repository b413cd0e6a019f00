-- The numbers that a floor holds, and writing them.
use Rattle.std.specs.Prelude.{ℕ, ◌+◌, ◌*◌, ◌^◌, ◌<◌, cond, eqb, take, drop, get_or, Result, Ok, Err}
use mathlib.Core.List.{List, [], ◌∷◌, ◌++◌, map, flatten}
use Rattle.endian.specs.Little.{bytes, value}
use Rattle.refusal.specs.Outcome.{Outcome, unchanged, written}
use Rattle.refusal.specs.declared.Verdict.TheVariants.{Floor as AboutFloor}
use Rattle.record.specs.Record.{Record, layout, records_in}
use Rattle.record.specs.Parts.{parts, of_kind}
use Rattle.floor.specs.Floor.{Kind, kinds, read_floor}
use Rattle.floor.specs.declared.Floor.{Floor}
use Rattle.refusal.specs.declared.Refusal.{Refusal}

-- "Places and carts are numbered from 0 in file order": the marks of each place; from, to and classes of each lane; class and start of each cart; the
-- narrow places; the carts of each group
pub record FloorNumbers : Type 0 where
  pub places : List ℕ
  pub lanes : List ℕ
  pub carts : List ℕ
  pub narrow : List ℕ
  pub groups : List ℕ

-- the five lists that a caller lends
abbrev pub numbers : List ℕ → List ℕ → List ℕ → List ℕ → List ℕ → FloorNumbers
numbers places lanes carts narrow groups = record { places = places; lanes = lanes; carts = carts; narrow = narrow; groups = groups }

-- bodies of each kind in turn, as records in the table's order
abbrev pub in_order : List Kind → List (List (List ℕ)) → List Record
in_order [] groups = []
in_order (k ∷ ks) [] = []
in_order (k ∷ ks) (bodies ∷ groups) = map (of_kind k.number) bodies ++ in_order ks groups

-- numbers of 32 bits as records of one kind, four bytes to a body
abbrev pub word_records : ℕ → List ℕ → List Record
word_records k ms = map (of_kind k) (map (bytes 4) ms)

-- the bodies that the numbers make, in the table's order: four bytes to a place, a lane to each three bytes, a cart to each two, a
-- narrow place to each one, four to a group; bytes left over are a body of wrong length
abbrev pub bodies : FloorNumbers → List (List (List ℕ))
bodies n = map (bytes 4) n.places ∷ parts 3 n.lanes ∷ parts 2 n.carts ∷ parts 1 n.narrow ∷ map (bytes 4) n.groups ∷ []

abbrev pub floor_records : FloorNumbers → List Record
floor_records n = in_order kinds (bodies n)

abbrev pub floor_bytes : FloorNumbers → List ℕ
floor_bytes n = layout (floor_records n)

-- the bodies of the records of one kind, in file order
unfoldable pub bodies_of : ℕ → List Record → List (List ℕ)
bodies_of k [] = []
bodies_of k (r ∷ rs) = cond (eqb r.kind k) (r.body ∷ bodies_of k rs) (bodies_of k rs)

-- the numbers that a file holds
abbrev pub numbers_in : List Record → FloorNumbers
numbers_in rs = record {
  places = map value (bodies_of 1 rs);
  lanes = flatten (bodies_of 2 rs);
  carts = flatten (bodies_of 3 rs);
  narrow = flatten (bodies_of 6 rs);
  groups = map value (bodies_of 7 rs);
}

abbrev pub numbers_of : List ℕ → FloorNumbers
numbers_of s = numbers_in (records_in s).records

-- the offset of a place's, a lane's, a cart's, a narrow place's and a group's record
abbrev pub place_at : ℕ → ℕ
place_at i = 8 * i

abbrev pub lane_at : Floor → ℕ → ℕ
lane_at f j = 8 * f.places + 7 * j

abbrev pub cart_at : Floor → ℕ → ℕ
cart_at f n = 8 * f.places + (7 * f.lanes + 6 * n)

abbrev pub narrow_at : Floor → ℕ → ℕ
narrow_at f i = 8 * f.places + (7 * f.lanes + (6 * f.carts + 5 * i))

abbrev pub group_at : Floor → ℕ → ℕ
group_at f g = 8 * f.places + (7 * f.lanes + (6 * f.carts + (5 * f.narrow + 8 * g)))

-- the body of so many bytes in the record at an offset
abbrev pub body_at : ℕ → ℕ → List ℕ → List ℕ
body_at size at s = take size (drop (at + 4) s)

-- "(fields are no wider than the file's)": what every lent slice of 32-bit numbers is
abbrev pub Words : List ℕ → Type 0
Words l = (i : ℕ) → get_or l i 0 < 2 ^ 32

-- "numbers that no file could give are refused as reading their file would be (fields are no wider than the file's), then 18 as below"
abbrev pub by_reading : Result Floor Refusal → List ℕ → List ℕ → Outcome
by_reading (Err r) file out = unchanged (AboutFloor r) out
by_reading (Ok f) file out = written AboutFloor file out

unfoldable pub write_floor : FloorNumbers → List ℕ → Outcome
write_floor n out = by_reading (read_floor (floor_bytes n)) (floor_bytes n) out
