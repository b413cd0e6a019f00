-- Reading a floor: "For each record, offset at its start: 2 .. 6. At the end 7."
use Rattle.std.specs.Prelude.{ℕ, ◌+◌, ◌^◌, Bool, true, false, cond, not, ◌||◌, List, [], ◌∷◌, ◌++◌, eqb, leb, ltb, length, get_or, Result, Ok, Err}
use Rattle.endian.specs.Little.{value}
use Rattle.refusal.specs.Codes.{at_offset, first_fault, unless_fault}
use Rattle.refusal.specs.declared.Verdict.{Verdict}
use Rattle.refusal.specs.declared.Verdict.TheVariants.{Accepted, Floor as AboutFloor}
use Rattle.record.specs.Record.{Record, Split, records_in}
use Rattle.floor.specs.declared.Floor.{Floor}
use Rattle.refusal.specs.declared.Refusal.{Refusal}

-- A kind of record: its number, the bytes of its body, how many are taken, and its field test, by how many records there are of each kind before it in
-- the table.
pub record Kind : Type 0 where
  pub number : ℕ
  pub size : ℕ
  pub most : ℕ
  pub bad : List ℕ → List ℕ → Bool

-- 6: "absent place"; "places and carts are numbered from 0 in file order", and places are the first kind of the table
abbrev pub absent : List ℕ → ℕ → Bool
absent before q = leb (get_or before 0 0) q

-- 1 place: "4 bytes: one bit for each mark", "1 to 256"
abbrev pub place : Kind
place = record { number = 1; size = 4; most = 256; bad = λ before body. false }

-- 2 lane: "from, to, classes (a byte each)", "0 to 1,024"
abbrev pub lane : Kind
lane = record { number = 2; size = 3; most = 1024; bad = λ before body. absent before (get_or body 0 0) || absent before (get_or body 1 0) }

-- 3 cart: "class 0 to 7, start place", "1 to 32"; 6: "class over 7"
abbrev pub cart : Kind
cart = record { number = 3; size = 2; most = 32; bad = λ before body. ltb 7 (get_or body 0 0) || absent before (get_or body 1 0) }

-- 6 narrow place, document 02, 2): "has a one-byte body naming such a place (absent: 6); at most 256 are taken"
abbrev pub narrow : Kind
narrow = record { number = 6; size = 1; most = 256; bad = λ before body. absent before (get_or body 0 0) }

-- 7 group, document 02, 6): "a four-byte body, bit n for cart n; up to eight groups, numbered from 0 (the ninth is 5, an absent cart 6)": 6 for a bit at the
-- number of carts or above it; carts are the third kind of the table
abbrev pub group : Kind
group = record { number = 7; size = 4; most = 8; bad = λ before body. leb (2 ^ get_or before 2 0) (value body) }

-- "A floor holds kinds 1, 2, 3 in that order", "kind 6, after the carts", and kind 7, "last in the file": the table
abbrev pub kinds : List Kind
kinds = place ∷ lane ∷ cart ∷ narrow ∷ group ∷ []

-- how many records of each kind a floor has, in the table's order, and the floor that has so many
abbrev pub counts : Floor → List ℕ
counts f = f.places ∷ f.lanes ∷ f.carts ∷ f.narrow ∷ f.groups ∷ []

abbrev pub floor_of : List ℕ → Floor
floor_of ns = record { places = get_or ns 0 0; lanes = get_or ns 1 0; carts = get_or ns 2 0; narrow = get_or ns 3 0; groups = get_or ns 4 0 }

-- some record of these kinds is counted
abbrev pub seen : List ℕ → Bool
seen [] = false
seen (n ∷ ns) = ltb 0 n || seen ns

-- A record of kind k behind n of its kind: the refusal by these tests in order, 0 for none. 3 "out of place", that is, behind one of a later kind;
-- 4 "wrong body length"; 5 "one too many"; 6.
abbrev pub fault_of : Kind → List ℕ → ℕ → List ℕ → List ℕ → ℕ
fault_of k before n after body =
    first_fault ((seen after, 3) ∷ (not (eqb (length body) k.size), 4) ∷ (leb k.most n, 5) ∷ (k.bad before body, 6) ∷ [])

-- refused, or counted in
abbrev pub judged_as : Kind → List ℕ → ℕ → List ℕ → List ℕ → Result Floor ℕ
judged_as k before n after body = unless_fault (fault_of k before n after body) (Ok (floor_of (before ++ ((n + 1) ∷ after)))) Err

-- by its kind's number in the table, from some kind on; 3 "kind unknown" behind the last
abbrev pub judged_by : List Kind → List ℕ → List ℕ → ℕ → List ℕ → Result Floor ℕ
judged_by [] before ns number body = Err 3
judged_by (k ∷ ks) before [] number body = Err 3
judged_by (k ∷ ks) before (n ∷ ns) number body =
    cond (eqb number k.number) (judged_as k before n ns body) (judged_by ks (before ++ (n ∷ [])) ns number body)

unfoldable pub judged : Floor → ℕ → List ℕ → Result Floor ℕ
judged f number body = judged_by kinds [] (counts f) number body

-- records judged in order: the floor and the offset behind them, or the first refusal
abbrev pub Walked : Type 0
Walked = Result (Floor × ℕ) Refusal

-- on with the floor that a record gives, or a stop at its offset
abbrev pub onward : Result Floor ℕ → ℕ → (Floor → Walked) → Walked
onward (Ok g) at next = next g
onward (Err n) at next = Err (at_offset n at)

-- "The lowest offset wins": records in order, with what is counted and the offset so far, up to the first refusal
unfoldable pub walk : Floor → ℕ → List Record → Walked
walk f at [] = Ok (f, at)
walk f at (r ∷ rs) = onward (judged f r.kind r.body) at (λ g. walk g (at + 4 + length r.body) rs)

-- behind the last whole record: 2 "cut short", or "at the end 7: no place or no cart (offset is the file's length)"
abbrev pub at_end : Walked → Bool → Result Floor Refusal
at_end (Ok (f, at)) true = Err (at_offset 2 at)
at_end (Ok (f, at)) false = cond (eqb f.places 0 || eqb f.carts 0) (Err (at_offset 7 at)) (Ok f)
at_end (Err r) cut = Err r

-- a file from an offset on, behind what is counted
abbrev pub read_on : Floor → ℕ → Split → Result Floor Refusal
read_on f at s = at_end (walk f at s.records) s.cut

-- nothing counted yet
abbrev pub empty_floor : Floor
empty_floor = floor_of []

-- 1: "too long (offset 0, before all else)"; "a file holds at most 65,536 bytes"
unfoldable pub read_floor : List ℕ → Result Floor Refusal
read_floor s = cond (ltb 65536 (length s)) (Err (at_offset 1 0)) (read_on empty_floor 0 (records_in s))

-- the answer as a verdict: a refusal is about the floor
abbrev pub floor_verdict : Result Floor Refusal → Verdict
floor_verdict (Ok f) = Accepted
floor_verdict (Err r) = AboutFloor r
