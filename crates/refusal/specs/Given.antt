-- "What each operation refuses": which numbers, about which file; and what its answer is then.
use Rattle.std.specs.Prelude.{ℕ, ◌≡◌, ◌⊎◌, List, [], ◌∷◌, ◌++◌}
use Rattle.refusal.specs.declared.Code.{Code}
use Rattle.refusal.specs.declared.Verdict.{Verdict}
use Rattle.refusal.specs.declared.Verdict.TheVariants.{Accepted, Written, Floor, Plan, Rules}

-- n is one of these
abbrev pub OneOf : List ℕ → ℕ → Type 0
OneOf [] n = ⊥
OneOf (x ∷ xs) n = (n ≡ x) ⊎ OneOf xs n

-- an operation that is done says so, or says how many bytes it wrote
pub data Done : Type 0 where
  accepts writes : Done

-- the numbers of an operation's refusals, by the file that they are about
pub record Refusals : Type 0 where
  pub done : Done
  pub floor : List ℕ
  pub plan : List ℕ
  pub rules : List ℕ

-- a verdict that such an operation may give
abbrev pub Given : Refusals → Verdict → Type 0
Given t Accepted = t.done ≡ accepts
Given t (Written n) = t.done ≡ writes
Given t (Floor r) = OneOf t.floor r.number
Given t (Plan r) = OneOf t.plan r.number
Given t (Rules r) = OneOf t.rules r.number

-- a refusal's four numbers: one of the operation's, about its file (1 floor, 2 plan, 3 rules)
abbrev pub RefusedAs : Refusals → Code → Type 0
RefusedAs t c =
    ((c.about ≡ 1) × OneOf t.floor c.number) ⊎ (((c.about ≡ 2) × OneOf t.plan c.number) ⊎ ((c.about ≡ 3) × OneOf t.rules c.number))

-- the four numbers that such an operation answers with: number 0 is done, and no refusal has it
pub record Answered (t : Refusals) (c : Code) : Type 0 where
  -- done: the rest is 0, but for the length of a result that was written
  pub done : c.number ≡ 0 → (c.about ≡ 0) × (c.second ≡ 0) × (t.done ≡ accepts → c.first ≡ 0)
  -- refused: by one of its numbers
  pub refused : (c.number ≡ 0 → ⊥) → RefusedAs t c

---- The table, in document 01's order.
-- "Reading a floor: 1 too long .. 2 cut short, 3 kind unknown or out of place, 4 wrong body length, 5 one too many, 6 absent place or class over 7. At
-- the end 7"; document 02, 6): 6 also for an absent cart of a group
abbrev pub floor_numbers : List ℕ
floor_numbers = 1 ∷ 2 ∷ 3 ∷ 4 ∷ 5 ∷ 6 ∷ 7 ∷ []

abbrev pub reading_floor : Refusals
reading_floor = record { done = accepts; floor = floor_numbers; plan = []; rules = [] }

-- "Reading a plan: the floor's, then 1, and in each record 2, 3, 4, 5 .., 8 .., 9 ..; 7 at the end"
abbrev pub plan_numbers : List ℕ
plan_numbers = 1 ∷ 2 ∷ 3 ∷ 4 ∷ 5 ∷ 8 ∷ 9 ∷ 7 ∷ []

abbrev pub reading_plan : Refusals
reading_plan = record { done = accepts; floor = floor_numbers; plan = plan_numbers; rules = [] }

-- "Writing a floor or plan: .. refused as reading their file would be .., then 18"
abbrev pub writing_floor : Refusals
writing_floor = record { done = writes; floor = floor_numbers ++ (18 ∷ []); plan = []; rules = [] }

abbrev pub writing_plan : Refusals
writing_plan = record { done = writes; floor = floor_numbers; plan = plan_numbers ++ (18 ∷ []); rules = [] }

-- "Checking moves, carts in order: 10 .., then 11"
abbrev pub moves_numbers : List ℕ
moves_numbers = plan_numbers ++ (10 ∷ 11 ∷ [])

abbrev pub checking_moves : Refusals
checking_moves = record { done = accepts; floor = floor_numbers; plan = moves_numbers; rules = [] }

-- "Reading a sheet: 12 too long .. 13 .. 14 .. 15 .. 7 at offset 0 for an empty sheet."
abbrev pub sheet_numbers : List ℕ
sheet_numbers = 12 ∷ 13 ∷ 14 ∷ 15 ∷ 7 ∷ []

abbrev pub reading_sheet : Refusals
reading_sheet = record { done = accepts; floor = []; plan = []; rules = sheet_numbers }

-- "A clause refused by its number (as in 16 and 17)": the first further number is a clause; document 02, 6): 21, "after the sheet is read and before 16"
abbrev pub clause_numbers : List ℕ
clause_numbers = 21 ∷ 16 ∷ 17 ∷ []

-- "Checking a plan: floor, plan, moves, sheet as above; then 16 .., then 17"; document 02, 2): 20, "in the check only, after 11 and before the sheet"
abbrev pub checking_plan : Refusals
checking_plan = record { done = accepts; floor = floor_numbers; plan = moves_numbers ++ (20 ∷ []); rules = sheet_numbers ++ clause_numbers }

-- "Moving on by s: floor and plan as for reading; 18"
abbrev pub moving_on : Refusals
moving_on = record { done = writes; floor = floor_numbers; plan = plan_numbers ++ (18 ∷ []); rules = [] }

-- "Replacing a row: floor, plan and its moves; 19 .., 4 .., 9 .., 10, 11"
abbrev pub replacing_row : Refusals
replacing_row = record { done = accepts; floor = floor_numbers; plan = moves_numbers ++ (19 ∷ []); rules = [] }
