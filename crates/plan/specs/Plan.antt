-- Reading a plan: "the floor's, then 1, and in each record 2, 3, 4, 5, 8, 9; 7 at the end".
use Rattle.std.specs.Prelude.{ℕ, zero, suc, ◌+◌, ◌*◌, ◌-◌, Bool, true, false, cond, not, ◌||◌, eqb, leb, ltb, length, take, drop, get_or, replicate, Result, Ok, Err}
use mathlib.Core.List.{List, [], ◌∷◌, ◌++◌, map, flatten}
use Rattle.endian.specs.Little.{value}
use Rattle.refusal.specs.Codes.{at_offset, first_fault, unless_fault}
use Rattle.refusal.specs.declared.Refusal.{Refusal}
use Rattle.refusal.specs.declared.Refused.{Refused}
use Rattle.refusal.specs.declared.Refused.TheVariants.{Floor as RefusedFloor, Plan as RefusedPlan}
use Rattle.record.specs.Record.{Record, Split, records_in}
use Rattle.floor.specs.Floor.{read_floor}
use Rattle.floor.specs.declared.Floor.{Floor}
use Rattle.plan.specs.declared.Head.{Head}
use Rattle.plan.specs.declared.Plan.{Plan}
use Rattle.plan.specs.declared.PlanRead.{PlanRead}
use Rattle.plan.specs.declared.RowFault.TheVariants.{Absent, WrongLength}
use Rattle.plan.specs.declared.RowFault.{RowFault}

-- the numbers that a plan holds: its head, and for each cart in file order a row of places
pub record PlanNumbers : Type 0 where
  pub head : Head
  pub rows : List (List ℕ)

-- the place on step s of cart i's row
abbrev pub place_on_step : PlanNumbers → ℕ → ℕ → ℕ
place_on_step p i s = get_or (get_or p.rows i []) s 0

-- "head: h, l, d, two bytes each"
abbrev pub head_from : List ℕ → Head
head_from body = record { steps = value (take 2 body); stem = value (take 2 (drop 2 body)); drift = value (take 2 (drop 4 body)) }

-- 8 "(h, l or d out of range)": "steps 1 to 64, first step of the lap (below h), drift 0 to 16"
abbrev pub out_of_range : Head → Bool
out_of_range h = eqb h.steps 0 || (ltb 64 h.steps || (leb h.steps h.stem || ltb 16 h.drift))

-- "A plan [holds] kind 4 and then 5"; "with no valid head first, a row is 3": the first record's refusal, 0 for none
abbrev pub head_fault : ℕ → List ℕ → ℕ
head_fault kind body = first_fault ((not (eqb kind 4), 3) ∷ (not (eqb (length body) 6), 4) ∷ (out_of_range (head_from body), 8) ∷ [])

abbrev pub head_by : ℕ → Head → Result Head Refusal
head_by n h = unless_fault n (Ok h) (λ m. Err (at_offset m 0))

unfoldable pub judged_head : ℕ → List ℕ → Result Head Refusal
judged_head kind body = head_by (head_fault kind body) (head_from body)

-- the first record of a file: 2 "cut short", 7 "at the end for no head", or judged
abbrev pub first_head : List Record → Bool → Result Head Refusal
first_head [] true = Err (at_offset 2 0)
first_head [] false = Err (at_offset 7 0)
first_head (r ∷ rs) cut = judged_head r.kind r.body

abbrev pub head_in : Split → Result Head Refusal
head_in s = first_head s.records s.cut

-- places from step i on: the lowest step whose place is not on the floor, places being numbered from 0
unfoldable pub judged_places : ℕ → ℕ → List ℕ → Result (Unit {0}) RowFault
judged_places places i [] = Ok tt
judged_places places i (p ∷ row) = cond (leb places p) (Err (Absent i)) (judged_places places (suc i) row)

-- "A row is judged on the record's body alone": "h bytes, one place a step"
unfoldable pub judged_row : List ℕ → ℕ → ℕ → Result (Unit {0}) RowFault
judged_row body steps places = cond (eqb (length body) steps) (judged_places places 0 body) (Err WrongLength)

-- document 01's number of each answer: 4 "wrong body length", 9 "place not on the floor", 0 for none
abbrev pub row_number : Result (Unit {0}) RowFault → ℕ
row_number (Ok tt) = 0
row_number (Err WrongLength) = 4
row_number (Err (Absent i)) = 9

-- behind the head every record is a row, and a second head is 3; 5 "more rows than carts": a record's refusal behind n rows, 0 for none
abbrev pub row_fault_by : Result (Unit {0}) RowFault → Floor → ℕ → ℕ → ℕ
row_fault_by a f n kind = first_fault ((not (eqb kind 5), 3) ∷ (eqb (row_number a) 4, 4) ∷ (leb f.carts n, 5) ∷ (eqb (row_number a) 9, 9) ∷ [])

abbrev pub row_fault : Floor → Head → ℕ → ℕ → List ℕ → ℕ
row_fault f h n kind body = row_fault_by (judged_row body h.steps f.places) f n kind

-- the answer: the plan's numbers or its refusal
pub data PlanAnswer : Type 0 where
  accepted : PlanNumbers → PlanAnswer
  rejected : Refusal → PlanAnswer

-- behind the last whole record: 2 "cut short", or 7 "at the end for .. too few rows"
abbrev pub rows_end : Floor → Head → List (List ℕ) → ℕ → Bool → PlanAnswer
rows_end f h rows at true = rejected (at_offset 2 at)
rows_end f h rows at false = cond (ltb (length rows) f.carts) (rejected (at_offset 7 at)) (accepted (record { head = h; rows = rows }))

-- on with what follows a record, or a refusal at its offset
abbrev pub onward : ℕ → ℕ → PlanAnswer → PlanAnswer
onward n at next = unless_fault n next (λ m. rejected (at_offset m at))

-- "The lowest offset wins": records in order, with the rows and the offset so far, up to the first refusal
unfoldable pub read_rows : Floor → Head → List (List ℕ) → ℕ → List Record → Bool → PlanAnswer
read_rows f h rows at [] cut = rows_end f h rows at cut
read_rows f h rows at (r ∷ rs) cut =
    onward (row_fault f h (length rows) r.kind r.body) at (read_rows f h (rows ++ (r.body ∷ [])) (at + 4 + length r.body) rs cut)

-- a file from an offset on, behind a head and rows
abbrev pub rows_from : Floor → Head → List (List ℕ) → ℕ → List ℕ → PlanAnswer
rows_from f h rows at s = read_rows f h rows at (records_in (drop at s)).records (records_in (drop at s)).cut

-- behind a head, whose record is ten bytes, come the rows
abbrev pub behind_head : Floor → Result Head Refusal → List Record → Bool → PlanAnswer
behind_head f (Ok h) rs cut = read_rows f h [] 10 rs cut
behind_head f (Err r) rs cut = rejected r

abbrev pub after_first : List Record → List Record
after_first [] = []
after_first (r ∷ rs) = rs

abbrev pub read_records : Floor → List Record → Bool → PlanAnswer
read_records f rs cut = behind_head f (first_head rs cut) (after_first rs) cut

-- 1, and then record by record; "a file holds at most 65,536 bytes"
unfoldable pub read_plan : Floor → List ℕ → PlanAnswer
read_plan f s = cond (ltb 65536 (length s)) (rejected (at_offset 1 0)) (read_records f (records_in s).records (records_in s).cut)

-- "Rows are kept as 32 rows of 64 steps in one block", "cart n's row beginning at 64 times n"; every other byte is 0
unfoldable pub zeros : ℕ → List ℕ
zeros n = replicate n 0

abbrev pub padded : List ℕ → List ℕ
padded row = row ++ zeros (64 - length row)

unfoldable pub block_of : List (List ℕ) → List ℕ
block_of rows = flatten (map padded rows) ++ zeros (64 * (32 - length rows))

abbrev pub plan_of : PlanNumbers → Plan
plan_of n = record { head = n.head; carts = length n.rows; block = block_of n.rows }

-- n rows of so many steps that a block holds
unfoldable pub block_rows : ℕ → ℕ → List ℕ → List (List ℕ)
block_rows zero steps block = []
block_rows (suc n) steps block = take steps block ∷ block_rows n steps (drop 64 block)

-- the numbers of a plan with so many carts whose head and block are these
abbrev pub held_numbers : ℕ → Head → List ℕ → PlanNumbers
held_numbers carts h block = record { head = h; rows = block_rows carts h.steps block }

-- what reading gives: the floor and the plan
abbrev pub accepted_read : Floor → PlanNumbers → Result PlanRead Refused
accepted_read f n = Ok (record { floor = f; plan = plan_of n })

-- by the floor's answer and then the plan's: a refusal, or what is done with the floor and the plan's numbers
module _ {A : Type 0} (refuse : Refused → A) (go : Floor → PlanNumbers → A) where
  abbrev pub after_plan : Floor → PlanAnswer → A
  after_plan f (accepted n) = go f n
  after_plan f (rejected r) = refuse (RefusedPlan r)

  abbrev pub after_floor : Result Floor Refusal → List ℕ → A
  after_floor (Ok f) s = after_plan f (read_plan f s)
  after_floor (Err r) s = refuse (RefusedFloor r)

abbrev pub plan_read : Floor → PlanAnswer → Result PlanRead Refused
plan_read f a = after_plan Err accepted_read f a

-- "Reading a plan: the floor's, then" its own
abbrev pub on_floor : Result Floor Refusal → List ℕ → Result PlanRead Refused
on_floor a s = after_floor Err accepted_read a s

unfoldable pub read_both : List ℕ → List ℕ → Result PlanRead Refused
read_both floor s = on_floor (read_floor floor) s
