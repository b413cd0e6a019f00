-- What checking moves promises.
use Rattle.std.specs.Prelude.{ℕ, ◌<◌, ◌≡◌, false, List, [], get_or, Err}
use Rattle.refusal.specs.Given.{Given, checking_moves}
use Rattle.refusal.specs.Stages.{is_accepted}
use Rattle.refusal.specs.declared.Verdict.{Verdict}
use Rattle.refusal.specs.declared.Verdict.TheVariants.{Accepted}
use Rattle.floor.specs.declared.Floor.{Floor}
use Rattle.plan.specs.Plan.{PlanNumbers}
use Rattle.plan.specs.After.{ReadAs}
use Rattle.row.specs.Moves.{lanes_in}
use Rattle.row.specs.Meaning.{Unending, Departs, Lowest}
use Rattle.row.specs.declared.MoveFault.TheVariants.{Elsewhere, Shut}
use Rattle.moves.specs.Carts.{class_of, start_of, verdict_of, row_verdict, checked_moves}

-- cart c begins at its start, and its move at every counter is open to its class
abbrev pub CartUnending : List ℕ → PlanNumbers → ℕ → Type 0
CartUnending floor p c = Unending (lanes_in floor) (class_of floor c) (start_of floor c) (get_or p.rows c []) p.head.steps p.head.stem

abbrev pub AllUnending : List ℕ → Floor → PlanNumbers → Type 0
AllUnending floor f p = (c : ℕ) → c < f.carts → CartUnending floor p c

-- cart c leaves step k for another place
abbrev pub CartDeparts : PlanNumbers → ℕ → ℕ → Type 0
CartDeparts p c k = Departs (get_or p.rows c []) p.head.steps p.head.stem k

-- step k is the lowest of cart c's that is left by a move that is not open, and that move is to another place
abbrev pub LowestLeft : List ℕ → PlanNumbers → ℕ → ℕ → Type 0
LowestLeft floor p c k = Lowest (lanes_in floor) (class_of floor c) (get_or p.rows c []) p.head.steps p.head.stem k

-- floor and plan are read, and every cart's moves go on without end
pub record Moving (floor plan : List ℕ) : Type 0 where
  pub floor_is : Floor
  pub numbers : PlanNumbers
  pub read : ReadAs floor plan floor_is numbers
  pub unending : AllUnending floor floor_is numbers

-- a verdict that is the first cart's of those refused
pub record FirstRefused (floor : List ℕ) (f : Floor) (p : PlanNumbers) (v : Verdict) : Type 0 where
  pub cart : ℕ
  pub there : cart < f.carts
  pub refused : row_verdict floor p cart ≡ v
  pub before : (c : ℕ) → c < cart → CartUnending floor p c
  -- 10: "first place is not the start"
  pub away : v ≡ verdict_of cart (Err Elsewhere) → get_or (get_or p.rows cart []) 0 0 ≡ start_of floor cart → ⊥
  -- 11 names the "lowest step left", and it is left for another place
  pub lowest : (k : ℕ) → v ≡ verdict_of cart (Err (Shut k)) → LowestLeft floor p cart k

pub record MovesChecked (floor plan : List ℕ) (v : Verdict) : Type 0 where
  -- the answer, for every floor and plan
  pub answer : v ≡ checked_moves floor plan
  -- floor's and plan's refusals, "10 .., then 11"
  pub numbers : Given checking_moves v
  -- accepted exactly where floor and plan are readable, and every cart begins at its start and makes open moves only, without end
  pub sound : v ≡ Accepted → Moving floor plan
  pub complete : Moving floor plan → v ≡ Accepted
  -- "carts in order": with floor and plan read, a refusal is that of the first cart refused
  pub first : (f : Floor) (p : PlanNumbers) → ReadAs floor plan f p → is_accepted v ≡ false → FirstRefused floor f p v
