-- What accepted and refused moves mean, over counters without end.
use Rattle.std.specs.Prelude.{ℕ, suc, ◌≡◌, true, List, get_or}
use Rattle.row.specs.First.{FailsFirst}
use Rattle.row.specs.Lasso.{next_step, step_of}
use Rattle.row.specs.Moves.{is_open, open_at}

-- the place of a row at counter v
abbrev pub place_at_counter : List ℕ → ℕ → ℕ → ℕ → ℕ
place_at_counter row h l v = get_or row (step_of h l v) 0

-- a row begins at the start, and its move at every counter is open to the class
pub record Unending (lanes : List (List ℕ)) (class start : ℕ) (row : List ℕ) (h l : ℕ) : Type 0 where
  pub begins : get_or row 0 0 ≡ start
  pub open_at_lem : (v : ℕ) → is_open lanes class (place_at_counter row h l v) (place_at_counter row h l (suc v)) ≡ true

-- the move that leaves step k is to another place
abbrev pub Departs : List ℕ → ℕ → ℕ → ℕ → Type 0
Departs row h l k = get_or row k 0 ≡ get_or row (next_step h l k) 0 → ⊥

-- what 11 says of step k: it is the first that is left by a move that is not open
pub record Lowest (lanes : List (List ℕ)) (class : ℕ) (row : List ℕ) (h l k : ℕ) : Type 0 where
  pub first : FailsFirst (open_at lanes class row h l) 0 h k
  -- document 02, 1): "11 is then given only between two different places"
  pub departs : Departs row h l k
