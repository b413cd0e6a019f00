-- "Checking moves, carts in order".
use Rattle.std.specs.Prelude.{ℕ, Bool, List, [], get_or, Result, Ok, Err}
use Rattle.refusal.specs.Results.{told}
use Rattle.refusal.specs.Codes.{refused}
use Rattle.refusal.specs.Stages.{is_accepted}
use Rattle.refusal.specs.declared.Verdict.{Verdict}
use Rattle.refusal.specs.declared.Verdict.TheVariants.{Accepted, Plan as AboutPlan}
use Rattle.floor.specs.declared.Floor.{Floor}
use Rattle.plan.specs.Plan.{PlanNumbers}
use Rattle.plan.specs.After.{after_reading}
use Rattle.row.specs.First.{first_failing}
use Rattle.row.specs.Moves.{lanes_in, carts_in, judged_moves}
use Rattle.row.specs.declared.MoveFault.{MoveFault}
use Rattle.row.specs.declared.MoveFault.TheVariants.{Elsewhere, Shut}

-- "class 0 to 7, start place"
abbrev pub class_of : List ℕ → ℕ → ℕ
class_of floor c = get_or (get_or (carts_in floor) c []) 0 0

abbrev pub start_of : List ℕ → ℕ → ℕ
start_of floor c = get_or (get_or (carts_in floor) c []) 1 0

-- document 01's numbers of each answer: "10 first place is not the start (cart, 0), then 11 no open lane (cart, lowest step left)"; document 02, 1):
-- "11 is then given only between two different places"
abbrev pub verdict_of : ℕ → Result (Unit {0}) MoveFault → Verdict
verdict_of c (Ok done) = Accepted
verdict_of c (Err Elsewhere) = AboutPlan (refused 10 c 0)
verdict_of c (Err (Shut s)) = AboutPlan (refused 11 c s)

-- a row as cart c's, by an h and l
abbrev pub cart_answer : List ℕ → ℕ → List ℕ → ℕ → ℕ → Result (Unit {0}) MoveFault
cart_answer floor c row h l = judged_moves (lanes_in floor) (class_of floor c) (start_of floor c) row h l

abbrev pub cart_verdict : List ℕ → ℕ → List ℕ → ℕ → ℕ → Verdict
cart_verdict floor c row h l = verdict_of c (cart_answer floor c row h l)

abbrev pub row_verdict : List ℕ → PlanNumbers → ℕ → Verdict
row_verdict floor p c = cart_verdict floor c (get_or p.rows c []) p.head.steps p.head.stem

abbrev pub row_accepted : List ℕ → PlanNumbers → ℕ → Bool
row_accepted floor p c = is_accepted (row_verdict floor p c)

-- "carts in order": of n carts from cart c on, the verdict of the first that is refused
unfoldable pub judged_carts : List ℕ → PlanNumbers → ℕ → ℕ → Verdict
judged_carts floor p n c = first_failing (row_accepted floor p) (row_verdict floor p) (λ end. Accepted) n c

-- all carts of the floor
abbrev pub moves_verdict : List ℕ → Floor → PlanNumbers → Verdict
moves_verdict floor f p = judged_carts floor p f.carts 0

-- the floor's and the plan's refusals, then the moves
unfoldable pub checked_moves : List ℕ → List ℕ → Verdict
checked_moves floor plan = after_reading told (moves_verdict floor) floor plan
