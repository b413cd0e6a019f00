-- Worked cases of moving on twice, and by 0, from the bytes of floor and plan, by computation.
use Rattle.std.specs.Prelude.{ℕ, ◌≡◌, refl, drop, replicate}
use mathlib.Core.List.{List, [], ◌∷◌, ◌++◌}
use Rattle.refusal.specs.Codes.{refused}
use Rattle.refusal.specs.declared.Verdict.TheVariants.{Written, Plan as AboutPlan}
use Rattle.plan.specs.Numbers.{head_of}
use Rattle.edit.specs.Moved.{turned, moved_row, moved_head, move_on}
use Rattle.edit.specs.Examples.{six, by, floor, plan, stemmed, stemless, buffer, gives, computing}

-- a run-in of one step and a lap of three; moved on by 2, and by 3
abbrev bent : List ℕ
bent = 6 ∷ 0 ∷ 4 ∷ 0 ∷ 4 ∷ 0 ∷ 1 ∷ 0 ∷ 3 ∷ 0 ∷ 4 ∷ 0 ∷ 5 ∷ 0 ∷ 0 ∷ 1 ∷ 1 ∷ 0 ∷ 4 ∷ 0 ∷ 5 ∷ 0 ∷ 1 ∷ 0 ∷ 0 ∷ 1 ∷ []

abbrev bent_by2 : List ℕ
bent_by2 = 6 ∷ 0 ∷ 4 ∷ 0 ∷ 3 ∷ 0 ∷ 0 ∷ 0 ∷ 3 ∷ 0 ∷ 3 ∷ 0 ∷ 5 ∷ 0 ∷ 1 ∷ 0 ∷ 1 ∷ 3 ∷ 0 ∷ 5 ∷ 0 ∷ 0 ∷ 1 ∷ 0 ∷ []

abbrev bent_by3 : List ℕ
bent_by3 = 6 ∷ 0 ∷ 4 ∷ 0 ∷ 3 ∷ 0 ∷ 0 ∷ 0 ∷ 3 ∷ 0 ∷ 3 ∷ 0 ∷ 5 ∷ 0 ∷ 0 ∷ 1 ∷ 1 ∷ 3 ∷ 0 ∷ 5 ∷ 0 ∷ 1 ∷ 0 ∷ 0 ∷ []

abbrev nines : ℕ → List ℕ
nines n = replicate n 9

pub worked_sums :
    -- at l both formulas agree
    (by 2 ≡ turned 0 (drop 2 six))
    × (moved_head 2 (head_of 6 2 7) ≡ head_of 4 0 7)
    -- moved on again, within the run-in and from there into the lap
    × (moved_row 5 1 1 (by 1) ≡ by 2)
    × (moved_row 5 1 4 (by 1) ≡ by 5)
    -- and from a plan without a run-in, where by 0 nothing is turned again
    × (moved_row 4 0 0 (by 5) ≡ 15 ∷ 12 ∷ 13 ∷ 14 ∷ [])
    × (moved_row 4 0 2 (by 5) ≡ 13 ∷ 14 ∷ 15 ∷ 12 ∷ [])
    × (moved_row 4 0 2 (by 5) ≡ by 7)
    × (moved_row 4 0 65530 (by 5) ≡ by 65535)
    × (moved_head 65530 (head_of 4 0 7) ≡ head_of 4 0 7)
    -- by 0 the plan's own bytes; what was moved on by 1, moved on by 65,534, is the plan moved on by 65,535
    × (move_on (floor 0) stemmed 0 buffer ≡ gives (Written 22) (stemmed ++ (8 ∷ [])))
    × (move_on (floor 0) stemless 0 buffer ≡ gives (Written 20) (stemless ++ (9 ∷ 9 ∷ 8 ∷ [])))
    × (move_on (floor 0) stemless 65534 buffer ≡ gives (Written 20) (stemless ++ (9 ∷ 9 ∷ 8 ∷ [])))
    × (move_on (floor 0) stemmed 65535 buffer ≡ gives (Written 20) (stemless ++ (9 ∷ 9 ∷ 8 ∷ [])))
    × (move_on (floor 0) (plan 1 0 0 1) 1 buffer ≡ move_on (floor 0) (plan 0 1 1 0) 2 buffer)
    -- a run-in and a lap of three: by 2, by as many and 85 laps, then by 1, and by 3 at once
    × (move_on (floor 0) bent 2 (nines 26) ≡ gives (Written 24) (bent_by2 ++ nines 2))
    × (move_on (floor 0) bent 257 (nines 26) ≡ gives (Written 24) (bent_by2 ++ nines 2))
    × (move_on (floor 0) bent_by2 1 (nines 26) ≡ gives (Written 24) (bent_by3 ++ nines 2))
    × (move_on (floor 0) bent 3 (nines 26) ≡ gives (Written 24) (bent_by3 ++ nines 2))
    -- with just room enough, and a byte short either way; by 0 into as many bytes as the plan has
    × (move_on (floor 0) bent_by2 1 (nines 24) ≡ gives (Written 24) bent_by3)
    × (move_on (floor 0) bent_by2 1 (nines 23) ≡ gives (AboutPlan (refused 18 24 0)) (nines 23))
    × (move_on (floor 0) bent 3 (nines 23) ≡ gives (AboutPlan (refused 18 24 0)) (nines 23))
    × (move_on (floor 0) bent 0 (nines 26) ≡ gives (Written 26) bent)
unfolding computing
worked_sums = (
  refl,
  refl,
  refl,
  refl,
  refl,
  refl,
  refl,
  refl,
  refl,
  refl,
  refl,
  refl,
  refl,
  refl,
  refl,
  refl,
  refl,
  refl,
  refl,
  refl,
  refl,
  refl,
)
