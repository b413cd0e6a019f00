-- Moves checked from the bytes of floor and plan, by computation.
use Rattle.std.specs.Prelude.{ℕ, ◌≡◌, refl}
use mathlib.Core.List.{List, [], ◌∷◌, flatten}
use Rattle.endian.specs.Little.{value}
use Rattle.refusal.specs.Codes.{refused}
use Rattle.refusal.specs.declared.Verdict.{Verdict}
use Rattle.refusal.specs.declared.Verdict.TheVariants.{Accepted, Floor as AboutFloor, Plan as AboutPlan}
use Rattle.record.specs.Record.{split, records_in}
use Rattle.record.specs.Parts.{parts_in, parts}
use Rattle.floor.specs.Floor.{judged, walk, read_floor}
use Rattle.floor.specs.Numbers.{bodies_of}
use Rattle.plan.specs.Plan.{judged_head, judged_places, judged_row, read_rows, read_plan}
use Rattle.plan.specs.After.{after_reading}
use Rattle.row.specs.Lasso.{next_step}
use Rattle.row.specs.Moves.{some_lane_opens, is_open, lowest_shut, judged_moves}
use Rattle.moves.specs.Carts.{judged_carts, checked_moves}

-- two places; a lane from a to b for these classes and one from 0 to 1 for all; a cart of class 0 from place 0 and one of this class and start
abbrev floor : ℕ → ℕ → ℕ → ℕ → ℕ → List ℕ
floor a b classes class start =
    4 ∷ 0 ∷ 1 ∷ 0 ∷ 1 ∷ 0 ∷ 0 ∷ 0 ∷
    4 ∷ 0 ∷ 1 ∷ 0 ∷ 2 ∷ 0 ∷ 0 ∷ 0 ∷
    3 ∷ 0 ∷ 2 ∷ 0 ∷ a ∷ b ∷ classes ∷
    3 ∷ 0 ∷ 2 ∷ 0 ∷ 0 ∷ 1 ∷ 255 ∷
    2 ∷ 0 ∷ 3 ∷ 0 ∷ 0 ∷ 0 ∷
    2 ∷ 0 ∷ 3 ∷ 0 ∷ class ∷ start ∷ []

-- three steps, the lap from l on; each cart's last two places, the first being 0 of cart 0 and p of cart 1
abbrev plan : ℕ → ℕ → ℕ → ℕ → ℕ → ℕ → List ℕ
plan l i j p q r =
    6 ∷ 0 ∷ 4 ∷ 0 ∷ 3 ∷ 0 ∷ l ∷ 0 ∷ 0 ∷ 0 ∷
    3 ∷ 0 ∷ 5 ∷ 0 ∷ 0 ∷ i ∷ j ∷
    3 ∷ 0 ∷ 5 ∷ 0 ∷ p ∷ q ∷ r ∷ []

-- lanes from 0 to 1 alone
abbrev onward : List ℕ
onward = floor 0 1 255 0 0

-- the definitions that the check computes with, under one name
computing : List ℕ → List ℕ → Verdict
unfolding
    flatten value split records_in parts_in parts judged walk read_floor bodies_of judged_head judged_places judged_row read_rows read_plan after_reading
    next_step some_lane_opens is_open lowest_shut judged_moves judged_carts checked_moves
computing floor plan = checked_moves floor plan

pub worked :
    (checked_moves onward (plan 0 0 0 0 0 0) ≡ Accepted)
    -- the move from the last step to the lap's first, from place 1 back to 0
    × (checked_moves onward (plan 0 0 0 0 0 1) ≡ AboutPlan (refused 11 1 2))
    × (checked_moves (floor 1 1 255 0 0) (plan 0 1 1 0 1 1) ≡ AboutPlan (refused 11 0 2))
    -- and to another first step: carts park on place 1, which no lane leaves
    × (checked_moves onward (plan 1 1 1 0 1 1) ≡ Accepted)
    × (checked_moves onward (plan 2 0 1 0 0 1) ≡ Accepted)
    -- class 7 parks: on a place that no lane leaves, and where the lane from the place to itself is for class 0 alone
    × (checked_moves (floor 0 1 1 7 1) (plan 0 0 0 1 1 1) ≡ Accepted)
    × (checked_moves (floor 0 0 1 7 0) (plan 0 0 0 0 0 0) ≡ Accepted)
    -- the lowest step, and not the last, nor one that the cart stays on
    × (checked_moves onward (plan 0 1 0 0 0 0) ≡ AboutPlan (refused 11 0 1))
    × (checked_moves (floor 1 0 255 0 1) (plan 0 0 0 1 1 0) ≡ Accepted)
    × (checked_moves onward (plan 0 0 0 0 1 0) ≡ AboutPlan (refused 11 1 1))
    × (checked_moves onward (plan 0 1 0 0 1 0) ≡ AboutPlan (refused 11 0 1))
    -- 10 before 11 of one cart, but carts in order
    × (checked_moves onward (plan 0 0 0 1 0 0) ≡ AboutPlan (refused 10 1 0))
    × (checked_moves onward (plan 0 0 1 1 0 0) ≡ AboutPlan (refused 11 0 2))
    -- each cart's own start and class
    × (checked_moves (floor 0 0 255 0 1) (plan 0 0 0 0 0 0) ≡ AboutPlan (refused 10 1 0))
    × (checked_moves (floor 1 0 3 1 0) (plan 0 0 1 0 0 1) ≡ Accepted)
    × (checked_moves (floor 1 0 1 1 0) (plan 0 0 1 0 0 1) ≡ AboutPlan (refused 11 1 2))
    × (checked_moves (floor 1 0 2 1 0) (plan 0 0 1 0 0 1) ≡ AboutPlan (refused 11 0 2))
    -- the floor's refusal, then the plan's
    × (checked_moves [] [] ≡ AboutFloor (refused 7 0 0))
    × (checked_moves onward [] ≡ AboutPlan (refused 7 0 0))
unfolding computing
worked = (
  refl,
  refl,
  refl,
  refl,
  refl,
  refl,
  refl,
  refl,
  refl,
  refl,
  refl,
  refl,
  refl,
  refl,
  refl,
  refl,
  refl,
  refl,
  refl,
)
