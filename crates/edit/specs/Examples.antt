-- Moving on and replacing from the bytes of floor and plan, by computation.
use Rattle.std.specs.Prelude.{ℕ, ◌≡◌, refl}
use mathlib.Core.List.{List, [], ◌∷◌, ◌++◌, flatten}
use Rattle.endian.specs.Little.{value, bytes}
use Rattle.refusal.specs.Codes.{refused}
use Rattle.refusal.specs.Outcome.{Outcome}
use Rattle.refusal.specs.declared.Verdict.{Verdict}
use Rattle.refusal.specs.declared.Verdict.TheVariants.{Accepted, Written, Floor as AboutFloor, Plan as AboutPlan}
use Rattle.record.specs.Record.{split, records_in, encoded, layout}
use Rattle.record.specs.Parts.{parts_in, parts}
use Rattle.floor.specs.Floor.{judged, walk, read_floor}
use Rattle.floor.specs.Numbers.{bodies_of}
use Rattle.plan.specs.Plan.{judged_head, judged_places, judged_row, read_rows, read_plan}
use Rattle.plan.specs.Numbers.{head_of}
use Rattle.plan.specs.After.{after_reading}
use Rattle.row.specs.Lasso.{next_step}
use Rattle.row.specs.Moves.{some_lane_opens, is_open, lowest_shut, judged_moves}
use Rattle.moves.specs.Carts.{judged_carts}
use Rattle.edit.specs.Moved.{moved_row, moved_head, move_on}
use Rattle.edit.specs.Replaced.{replace_row}

-- six steps, the lap from step 2 on
abbrev pub six : List ℕ
six = 10 ∷ 11 ∷ 12 ∷ 13 ∷ 14 ∷ 15 ∷ []

abbrev pub by : ℕ → List ℕ
by s = moved_row 6 2 s six

-- two places; lanes 0 to 1 and, for these classes, 1 to 0; two carts of class 0 from place 0
abbrev pub floor : ℕ → List ℕ
floor classes =
    4 ∷ 0 ∷ 1 ∷ 0 ∷ 1 ∷ 0 ∷ 0 ∷ 0 ∷
    4 ∷ 0 ∷ 1 ∷ 0 ∷ 2 ∷ 0 ∷ 0 ∷ 0 ∷
    3 ∷ 0 ∷ 2 ∷ 0 ∷ 0 ∷ 1 ∷ 255 ∷
    3 ∷ 0 ∷ 2 ∷ 0 ∷ 1 ∷ 0 ∷ classes ∷
    2 ∷ 0 ∷ 3 ∷ 0 ∷ 0 ∷ 0 ∷
    2 ∷ 0 ∷ 3 ∷ 0 ∷ 0 ∷ 0 ∷ []

-- two steps, the lap from step 0 on, drift 3: 22 bytes
abbrev pub plan : ℕ → ℕ → ℕ → ℕ → List ℕ
plan a b c d =
    6 ∷ 0 ∷ 4 ∷ 0 ∷ 2 ∷ 0 ∷ 0 ∷ 0 ∷ 3 ∷ 0 ∷
    2 ∷ 0 ∷ 5 ∷ 0 ∷ a ∷ b ∷
    2 ∷ 0 ∷ 5 ∷ 0 ∷ c ∷ d ∷ []

-- the same with the lap from step 1 on; and moved on by 1: one step is left, 20 bytes
abbrev pub stemmed : List ℕ
stemmed = 6 ∷ 0 ∷ 4 ∷ 0 ∷ 2 ∷ 0 ∷ 1 ∷ 0 ∷ 3 ∷ 0 ∷ 2 ∷ 0 ∷ 5 ∷ 0 ∷ 0 ∷ 1 ∷ 2 ∷ 0 ∷ 5 ∷ 0 ∷ 1 ∷ 0 ∷ []

abbrev pub stemless : List ℕ
stemless = 6 ∷ 0 ∷ 4 ∷ 0 ∷ 1 ∷ 0 ∷ 0 ∷ 0 ∷ 3 ∷ 0 ∷ 1 ∷ 0 ∷ 5 ∷ 0 ∷ 1 ∷ 1 ∷ 0 ∷ 5 ∷ 0 ∷ 0 ∷ []

-- a buffer of 23 bytes, the last of them 8
abbrev pub buffer : List ℕ
buffer = 9 ∷ 9 ∷ 9 ∷ 9 ∷ 9 ∷ 9 ∷ 9 ∷ 9 ∷ 9 ∷ 9 ∷ 9 ∷ 9 ∷ 9 ∷ 9 ∷ 9 ∷ 9 ∷ 9 ∷ 9 ∷ 9 ∷ 9 ∷ 9 ∷ 9 ∷ 8 ∷ []

abbrev pub gives : Verdict → List ℕ → Outcome
gives v out = record { answer = v; out = out }

-- the definitions that both operations compute with, under one name
unfoldable pub computing : List ℕ → List ℕ → ℕ → List ℕ → Outcome × Outcome
unfolding
    flatten value bytes split records_in encoded layout parts_in parts judged walk read_floor bodies_of
    judged_head judged_places judged_row read_rows read_plan after_reading
    next_step some_lane_opens is_open lowest_shut judged_moves judged_carts moved_row moved_head move_on replace_row
computing floor plan n rest = (move_on floor plan n rest, replace_row floor plan n rest)

-- a new row for a cart of a plan
abbrev new : ℕ → List ℕ → ℕ → List ℕ → Outcome
new classes p c row = replace_row (floor classes) p c row

abbrev refuses : ℕ → ℕ → ℕ → List ℕ → Outcome
refuses n a b p = gives (AboutPlan (refused n a b)) p

pub worked :
    -- the first steps of the run-in go, by l it is gone, by l + 3 the lap is turned by 3
    (by 0 ≡ six)
    × (by 1 ≡ 11 ∷ 12 ∷ 13 ∷ 14 ∷ 15 ∷ [])
    × (by 2 ≡ 12 ∷ 13 ∷ 14 ∷ 15 ∷ [])
    × (by 5 ≡ 15 ∷ 12 ∷ 13 ∷ 14 ∷ [])
    -- 65,534 − 2 is 16,383 laps of 4
    × (by 65534 ≡ 12 ∷ 13 ∷ 14 ∷ 15 ∷ [])
    × (by 65535 ≡ 13 ∷ 14 ∷ 15 ∷ 12 ∷ [])
    × (moved_head 1 (head_of 6 2 7) ≡ head_of 5 1 7)
    × (moved_head 65534 (head_of 6 2 7) ≡ head_of 4 0 7)
    -- a lap of two turned by one; "bytes past the result" stay
    × (move_on (floor 0) (plan 0 1 1 0) 1 buffer ≡ gives (Written 22) (plan 1 0 0 1 ++ (8 ∷ [])))
    -- neither starts nor lanes are compared
    × (move_on (floor 0) (plan 1 1 1 0) 65534 buffer ≡ gives (Written 22) (plan 1 1 1 0 ++ (8 ∷ [])))
    × (move_on (floor 0) stemmed 1 buffer ≡ gives (Written 20) (stemless ++ (9 ∷ 9 ∷ 8 ∷ [])))
    -- 18 about the plan, with the needed length
    × (move_on (floor 0) (plan 0 0 0 0) 0 (7 ∷ []) ≡ gives (AboutPlan (refused 18 22 0)) (7 ∷ []))
    × (move_on (floor 0) stemmed 1 (7 ∷ []) ≡ gives (AboutPlan (refused 18 20 0)) (7 ∷ []))
    -- before it the floor's refusal and the plan's
    × (move_on [] (plan 0 0 0 0) 0 [] ≡ gives (AboutFloor (refused 7 0 0)) [])
    × (move_on (floor 0) (plan 0 0 0 2) 0 [] ≡ gives (AboutPlan (refused 9 16 0)) [])
    -- "only that row's bytes change"
    × (new 1 (plan 0 0 0 0) 0 (0 ∷ 1 ∷ []) ≡ gives Accepted (plan 0 1 0 0))
    × (new 1 (plan 0 0 0 0) 1 (0 ∷ 1 ∷ []) ≡ gives Accepted (plan 0 0 0 1))
    -- a row that parks, beside one that parks already
    × (new 1 (plan 0 0 0 1) 1 (0 ∷ 0 ∷ []) ≡ gives Accepted (plan 0 0 0 0))
    -- the new row's own refusals: 19, 4, 9, 10, 11
    × (new 0 (plan 0 0 0 0) 2 [] ≡ refuses 19 2 0 (plan 0 0 0 0))
    × (new 0 (plan 0 0 0 0) 1 (0 ∷ []) ≡ refuses 4 0 0 (plan 0 0 0 0))
    × (new 0 (plan 0 0 0 0) 1 (1 ∷ 2 ∷ []) ≡ refuses 9 1 1 (plan 0 0 0 0))
    × (new 0 (plan 0 0 0 0) 1 (1 ∷ 0 ∷ []) ≡ refuses 10 1 0 (plan 0 0 0 0))
    × (new 0 (plan 0 0 0 0) 1 (0 ∷ 1 ∷ []) ≡ refuses 11 1 1 (plan 0 0 0 0))
    -- before them the moves of the plan as it is, also of the cart whose row is replaced
    × (new 0 (plan 1 0 0 0) 2 [] ≡ refuses 10 0 0 (plan 1 0 0 0))
    × (new 0 (plan 0 0 0 1) 1 (0 ∷ 0 ∷ []) ≡ refuses 11 1 1 (plan 0 0 0 1))
    -- and before all the floor's refusal and the plan's
    × (replace_row [] [] 0 [] ≡ gives (AboutFloor (refused 7 0 0)) [])
    × (new 0 (plan 0 0 0 2) 1 (0 ∷ 0 ∷ []) ≡ refuses 9 16 0 (plan 0 0 0 2))
unfolding computing
worked = (
  refl,
  refl,
  refl,
  refl,
  refl,
  refl,
  refl,
  refl,
  refl,
  refl,
  refl,
  refl,
  refl,
  refl,
  refl,
  refl,
  refl,
  refl,
  refl,
  refl,
  refl,
  refl,
  refl,
  refl,
  refl,
  refl,
  refl,
)
