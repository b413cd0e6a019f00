-- The definitions on small cases, by computation.
use Rattle.std.specs.Prelude.{◌≡◌, refl, true, false, List, [], ◌∷◌, ℕ, Result, Ok, Err}
use Rattle.row.specs.Lasso.{next_step, step_of}
use Rattle.row.specs.Moves.{some_lane_opens, is_open, lowest_shut, judged_moves}
use Rattle.row.specs.declared.MoveFault.{MoveFault}
use Rattle.row.specs.declared.MoveFault.TheVariants.{Elsewhere, Shut}

-- one lane, from place 0 to place 1 for class 0
abbrev one_way : List (List ℕ)
one_way = (0 ∷ 1 ∷ 1 ∷ []) ∷ []

-- one lane, from place 0 to itself for class 0
abbrev to_itself : List (List ℕ)
to_itself = (0 ∷ 0 ∷ 1 ∷ []) ∷ []

-- place 0 to 1 for classes 0 and 2, and place 1 to 0 twice, for class 0 and for class 2
abbrev two_ways : List (List ℕ)
two_ways = (0 ∷ 1 ∷ 5 ∷ []) ∷ (1 ∷ 0 ∷ 1 ∷ []) ∷ (1 ∷ 0 ∷ 4 ∷ []) ∷ []

-- the row 0 1 of a cart of class 2, by its start and the lap's first step
abbrev judged : ℕ → ℕ → Result (Unit {0}) MoveFault
judged start l = judged_moves two_ways 2 start (0 ∷ 1 ∷ []) 2 l

-- a row from place 0 on a floor whose one lane is from 0 to 1, for class 0
abbrev one_way_row : List ℕ → ℕ → ℕ → Result (Unit {0}) MoveFault
one_way_row row h l = judged_moves one_way 0 0 row h l

pub worked :
    -- six steps, the lap from step 2 on: after 5 comes 2
    (next_step 6 2 0 ≡ 1)
    × (next_step 6 2 5 ≡ 2)
    -- counter 6 stands on step 2, counter 9 on 5 and counter 10 on 2 again
    × (step_of 6 2 5 ≡ 5)
    × (step_of 6 2 6 ≡ 2)
    × (step_of 6 2 9 ≡ 5)
    × (step_of 6 2 10 ≡ 2)
    -- a lane goes one way, and is open to its classes
    × (is_open one_way 0 0 1 ≡ true)
    × (is_open one_way 0 1 0 ≡ false)
    × (is_open one_way 1 0 1 ≡ false)
    × (is_open two_ways 1 0 1 ≡ false)
    -- "either opens it"
    × (is_open two_ways 0 1 0 ≡ true)
    × (is_open two_ways 2 1 0 ≡ true)
    × (judged 0 0 ≡ Ok tt)
    -- 10 before 11
    × (judged 1 1 ≡ Err Elsewhere)
    -- a cart parks on any place: with no lane on the floor, on a place that none leaves, beside a lane that leaves it, whatever its class
    × (is_open [] 0 0 0 ≡ true)
    × (is_open one_way 7 1 1 ≡ true)
    × (is_open one_way 1 0 0 ≡ true)
    -- a lane from a place to itself shuts no class out, and opens no other move
    × (is_open to_itself 1 0 0 ≡ true)
    × (is_open to_itself 0 0 1 ≡ false)
    -- the closing move too: the lap is the last step alone, or the only one
    × (judged 0 1 ≡ Ok tt)
    × (judged_moves [] 7 3 (3 ∷ []) 1 0 ≡ Ok tt)
    -- but from another start it is refused
    × (judged_moves [] 7 2 (3 ∷ []) 1 0 ≡ Err Elsewhere)
    -- 11 at the step left for another place, and not where the cart was parked before or after it
    × (one_way_row (0 ∷ 0 ∷ 1 ∷ 1 ∷ []) 4 2 ≡ Ok tt)
    × (one_way_row (0 ∷ 0 ∷ 1 ∷ 1 ∷ []) 4 0 ≡ Err (Shut 3))
    × (judged_moves [] 0 0 (0 ∷ 0 ∷ 1 ∷ 1 ∷ []) 4 2 ≡ Err (Shut 1))
    -- the lowest of two
    × (judged_moves [] 0 0 (0 ∷ 0 ∷ 1 ∷ 0 ∷ []) 4 0 ≡ Err (Shut 1))
unfolding next_step step_of some_lane_opens is_open lowest_shut judged_moves
worked = (
  refl,
  refl,
  refl,
  refl,
  refl,
  refl,
  refl,
  refl,
  refl,
  refl,
  refl,
  refl,
  refl,
  refl,
  refl,
  refl,
  refl,
  refl,
  refl,
  refl,
  refl,
  refl,
  refl,
  refl,
  refl,
  refl,
)
