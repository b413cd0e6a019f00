-- Small plans from bytes to the verdict, and written, by computation.
use Rattle.std.specs.Prelude.{ℕ, ◌≡◌, refl, take, drop, replicate}
use mathlib.Core.List.{List, [], ◌∷◌, ◌++◌, flatten}
use Rattle.endian.specs.Little.{bytes, value}
use Rattle.refusal.specs.Codes.{refused}
use Rattle.refusal.specs.Outcome.{Outcome, unchanged}
use Rattle.refusal.specs.Results.{checked}
use Rattle.refusal.specs.declared.Verdict.{Verdict}
use Rattle.refusal.specs.declared.Verdict.TheVariants.{Accepted, Written, Floor as AboutFloor, Plan as AboutPlan}
use Rattle.record.specs.Record.{encoded, layout, split, records_in}
use Rattle.record.specs.Parts.{parts_in, parts}
use Rattle.floor.specs.Floor.{judged, walk, read_floor}
use Rattle.plan.specs.Plan.{accepted, judged_head, judged_places, judged_row, read_rows, read_plan, zeros, block_of, block_rows, read_both}
use Rattle.plan.specs.Numbers.{head_of, row_at, write_plan}

-- two places, two carts
abbrev floor : List ℕ
floor = 4 ∷ 0 ∷ 1 ∷ 0 ∷ 1 ∷ 0 ∷ 0 ∷ 0 ∷ 4 ∷ 0 ∷ 1 ∷ 0 ∷ 2 ∷ 0 ∷ 0 ∷ 0 ∷ 2 ∷ 0 ∷ 3 ∷ 0 ∷ 0 ∷ 0 ∷ 2 ∷ 0 ∷ 3 ∷ 0 ∷ 0 ∷ 0 ∷ []

-- a head by its three numbers, and a row of one step
abbrev head : ℕ → ℕ → ℕ → List ℕ
head h l d = 6 ∷ 0 ∷ 4 ∷ 0 ∷ h ∷ 0 ∷ l ∷ 0 ∷ d ∷ 0 ∷ []

abbrev row : ℕ → List ℕ
row p = 1 ∷ 0 ∷ 5 ∷ 0 ∷ p ∷ []

abbrev two : List ℕ
two = head 1 0 0 ++ (row 0 ++ row 1)

abbrev verdict : List ℕ → Verdict
verdict s = checked (read_both floor s)

-- a buffer of so many bytes
abbrev blank : ℕ → List ℕ
blank n = replicate n 9

abbrev writing : ℕ → List ℕ → ℕ → Outcome
writing h rows n = write_plan floor (head_of h 0 0) rows (blank n)

-- the definitions that these cases compute with, under one name
computing : List ℕ → ℕ → ℕ → Verdict × Outcome
unfolding
    flatten bytes value encoded layout split records_in parts_in parts judged walk read_floor judged_head judged_places judged_row read_rows read_plan zeros block_of
    block_rows read_both write_plan
computing s h n = (verdict s, writing h s n)

-- the floor's refusal first; the head; the order at one offset of a row, the offset of each, and the end
pub plans :
    (checked (read_both [] []) ≡ AboutFloor (refused 7 0 0))
    × (verdict [] ≡ AboutPlan (refused 7 0 0))
    × (verdict (1 ∷ []) ≡ AboutPlan (refused 2 0 0))
    × (verdict (row 0) ≡ AboutPlan (refused 3 0 0))
    × (verdict (5 ∷ 0 ∷ 4 ∷ 0 ∷ 0 ∷ 0 ∷ 0 ∷ 0 ∷ 0 ∷ []) ≡ AboutPlan (refused 4 0 0))
    × (verdict (head 0 0 0) ≡ AboutPlan (refused 8 0 0))
    × (verdict (head 65 0 0) ≡ AboutPlan (refused 8 0 0))
    × (verdict (head 1 1 0) ≡ AboutPlan (refused 8 0 0))
    × (verdict (head 1 0 17) ≡ AboutPlan (refused 8 0 0))
    × (verdict (head 64 63 16) ≡ AboutPlan (refused 7 10 0))
    × (verdict (head 1 0 0 ++ head 1 0 0) ≡ AboutPlan (refused 3 10 0))
    × (verdict (head 1 0 0 ++ (1 ∷ [])) ≡ AboutPlan (refused 2 10 0))
    × (verdict (head 1 0 0 ++ (row 0 ++ row 2)) ≡ AboutPlan (refused 9 15 0))
    × (verdict (two ++ (2 ∷ 0 ∷ 5 ∷ 0 ∷ 0 ∷ 0 ∷ [])) ≡ AboutPlan (refused 4 20 0))
    × (verdict (two ++ row 2) ≡ AboutPlan (refused 5 20 0))
    × (verdict two ≡ Accepted)
    × (read_plan (record { places = 2; lanes = 0; carts = 2; narrow = 0; groups = 0 }) two ≡ accepted (record { head = head_of 1 0 0; rows = (0 ∷ []) ∷ (1 ∷ []) ∷ [] }))
unfolding computing
plans = (refl, refl, refl, refl, refl, refl, refl, refl, refl, refl, refl, refl, refl, refl, refl, refl, refl)

-- written: a byte too few, a byte more than needed, and numbers that no file could give; cart 1's row in the file and in the block
pub plans-written :
    (writing 1 (0 ∷ 1 ∷ []) 19 ≡ unchanged (AboutPlan (refused 18 20 0)) (blank 19))
    × (writing 1 (0 ∷ 1 ∷ []) 21 ≡ record { answer = Written 20; out = two ++ (9 ∷ []) })
    × (writing 2 (0 ∷ 1 ∷ 0 ∷ []) 99 ≡ unchanged (AboutPlan (refused 4 16 0)) (blank 99))
    × (write_plan [] (head_of 1 0 0) (0 ∷ 1 ∷ []) [] ≡ unchanged (AboutFloor (refused 7 0 0)) [])
    × (take 1 (drop (row_at 1 1) two) ≡ 1 ∷ [])
    × (take 1 (drop 64 (block_of ((0 ∷ []) ∷ (1 ∷ []) ∷ []))) ≡ 1 ∷ [])
unfolding computing
plans-written = (refl, refl, refl, refl, refl, refl)
