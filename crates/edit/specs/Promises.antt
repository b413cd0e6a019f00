-- What moving on and replacing a row promise.
use Rattle.std.specs.Prelude.{ℕ, ◌+◌, ◌*◌, ◌≤◌, ◌<◌, ◌≡◌, false, ◌⊎◌, List, [], length, take, get_or}
use Rattle.refusal.specs.Codes.{refused}
use Rattle.refusal.specs.Given.{Given, moving_on, replacing_row}
use Rattle.refusal.specs.Stages.{is_accepted}
use Rattle.refusal.specs.Outcome.{Gives, written}
use Rattle.refusal.specs.declared.Verdict.{Verdict}
use Rattle.refusal.specs.declared.Verdict.TheVariants.{Accepted, Written, Plan as AboutPlan}
use Rattle.floor.specs.declared.Floor.{Floor}
use Rattle.plan.specs.Plan.{PlanNumbers, accepted, read_plan}
use Rattle.plan.specs.After.{ReadAs}
use Rattle.plan.specs.Valid.{RowFits}
use Rattle.row.specs.Meaning.{place_at_counter}
use Rattle.moves.specs.Carts.{checked_moves}
use Rattle.moves.specs.Promises.{AllUnending, CartUnending, LowestLeft}
use Rattle.edit.specs.Moved.{moved, move_on}
use Rattle.edit.specs.Replaced.{replaced, replace_row}

-- the place of cart c at a counter
abbrev pub cart_place_at : PlanNumbers → ℕ → ℕ → ℕ
cart_place_at p c i = place_at_counter (get_or p.rows c []) p.head.steps p.head.stem i

-- the length of a plan's file: its head is ten bytes, a row four and one a step
abbrev pub file_length : Floor → PlanNumbers → ℕ
file_length f p = 10 + f.carts * (4 + p.head.steps)

-- what moving on by s left in a buffer of which k bytes were written: a plan that goes on where the first one is after s moves
pub record Later (floor plan : List ℕ) (s k : ℕ) (after : List ℕ) : Type 0 where
  pub floor_is : Floor
  pub numbers : PlanNumbers
  pub read : ReadAs floor plan floor_is numbers
  pub reads : read_plan floor_is (take k after) ≡ accepted (moved s numbers)
  pub size : k ≡ file_length floor_is (moved s numbers)
  pub drift : (moved s numbers).head.drift ≡ numbers.head.drift
  pub place : (c i : ℕ) → c < floor_is.carts → cart_place_at (moved s numbers) c i ≡ cart_place_at numbers c (s + i)

pub record MovedOn (floor plan : List ℕ) (s : ℕ) (before : List ℕ) (v : Verdict) (after : List ℕ) : Type 0 where
  -- the answer and every byte of the buffer, for every floor and plan
  pub outcome : Gives (move_on floor plan s before) v after
  -- "floor and plan as for reading; 18"
  pub numbers : Given moving_on v
  -- the result reads as a plan whose place at counter i is the plan's at counter s + i, for every i
  pub later : (k : ℕ) → v ≡ Written k → Later floor plan s k after
  -- a plan that is read is moved on if there is room
  pub room : (f : Floor) (p : PlanNumbers) → ReadAs floor plan f p → file_length f (moved s p) ≤ length before → v ≡ Written (file_length f (moved s p))

-- what moving on promises of a second move, beside MovedOn
pub record MovesAddUp (floor plan : List ℕ) (s : ℕ) (before : List ℕ) (v : Verdict) (after : List ℕ) : Type 0 where
  -- document 02, 7): "moving on by 0 gives the plan back": the outcome is that of putting the plan's own bytes
  pub by_0 : s ≡ 0 → (f : Floor) (p : PlanNumbers) → ReadAs floor plan f p → Gives (written AboutPlan plan before) v after
  -- "Moving on by s and then by u must give the very bytes of moving on by s + u": whatever the buffer, the result, moved on by u in turn, has the outcome of
  -- the plan moved on by s + u, the answer and every byte. The operation's number has two bytes, so no call has a greater sum than 65,535
  pub adds_up : (k : ℕ) → v ≡ Written k → (u : ℕ) (out : List ℕ) → move_on floor (take k after) u out ≡ move_on floor plan (s + u) out

-- what replacing left: a plan that differs in that row alone, and whose moves are accepted as those of the plan before it were
pub record NewRow (floor before : List ℕ) (c : ℕ) (row after : List ℕ) : Type 0 where
  pub floor_is : Floor
  pub numbers : PlanNumbers
  pub read : ReadAs floor before floor_is numbers
  pub cart : c < floor_is.carts
  pub reads : read_plan floor_is after ≡ accepted (replaced c row numbers)
  pub moves_before : checked_moves floor before ≡ Accepted
  pub moves : checked_moves floor after ≡ Accepted

pub record RowReplaced (floor before : List ℕ) (c : ℕ) (row : List ℕ) (v : Verdict) (after : List ℕ) : Type 0 where
  -- the answer and every byte of the plan, for every floor, plan, cart and row
  pub outcome : Gives (replace_row floor before c row) v after
  -- "floor, plan and its moves; 19 .., 4 .., 9 .., 10, 11"
  pub numbers : Given replacing_row v
  pub replaces : v ≡ Accepted → NewRow floor before c row after
  -- "Lent buffers are unchanged."
  pub kept : is_accepted v ≡ false → after ≡ before
  -- a row that fits a cart of the floor, and whose moves go on without end as those of the plan do, is not refused
  pub complete : (f : Floor) (p : PlanNumbers) → ReadAs floor before f p → AllUnending floor f p → c < f.carts
      → RowFits p.head.steps f.places row → CartUnending floor (replaced c row p) c → v ≡ Accepted
  -- 11, of the plan as it is or, where its moves go on without end, of cart c with the new row: the "lowest step left", left for another place
  pub shut_11 : (f : Floor) (p : PlanNumbers) → ReadAs floor before f p → (n k : ℕ) → v ≡ AboutPlan (refused 11 n k)
      → LowestLeft floor p n k ⊎ (AllUnending floor f p × (n ≡ c) × LowestLeft floor (replaced c row p) n k)
