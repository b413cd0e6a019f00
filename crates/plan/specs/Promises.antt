-- What reading and writing a plan promise.
use Rattle.std.specs.Prelude.{ℕ, ◌*◌, ◌<◌, ◌≡◌, take, drop, get_or, Result, Ok}
use mathlib.Core.List.{List, [], flatten}
use Rattle.refusal.specs.Given.{Given, reading_plan, writing_plan}
use Rattle.refusal.specs.Outcome.{Gives, written}
use Rattle.refusal.specs.Results.{checked}
use Rattle.refusal.specs.declared.Refused.{Refused}
use Rattle.refusal.specs.declared.Verdict.{Verdict}
use Rattle.refusal.specs.declared.Verdict.TheVariants.{Written, Plan as AboutPlan}
use Rattle.record.specs.Parts.{parts}
use Rattle.floor.specs.Floor.{read_floor}
use Rattle.floor.specs.declared.Floor.{Floor}
use Rattle.plan.specs.Plan.{PlanNumbers, accepted as acceptedNumbers, read_plan, plan_of, read_both}
use Rattle.plan.specs.Valid.{ValidPlan}
use Rattle.plan.specs.Numbers.{plan_bytes, plan_file, write_plan}
use Rattle.plan.specs.declared.Head.{Head}
use Rattle.plan.specs.declared.PlanRead.{PlanRead}

-- an accepted plan: its numbers are those of the table, they write back as the same bytes, and cart c's row begins at 64 c in the block
pub record AcceptedPlan (floor s : List ℕ) (r : PlanRead) : Type 0 where
  pub numbers : PlanNumbers
  pub floor_read : read_floor floor ≡ Ok r.floor
  pub plan_read_lem : read_plan r.floor s ≡ acceptedNumbers numbers
  pub held : r.plan ≡ plan_of numbers
  pub valid : ValidPlan numbers r.floor
  pub writes_back : plan_file numbers ≡ s
  pub written_again : (before : List ℕ) → write_plan floor numbers.head (flatten numbers.rows) before ≡ written AboutPlan s before
  pub row : (c : ℕ) → c < r.floor.carts → take numbers.head.steps (drop (64 * c) r.plan.block) ≡ get_or numbers.rows c []

pub record PlanReads (floor s : List ℕ) (r : Result PlanRead Refused) : Type 0 where
  -- the answer, the block included, for every floor and plan
  pub answer : r ≡ read_both floor s
  -- "Reading a plan: the floor's, then 1 .."
  pub numbers : Given reading_plan (checked r)
  -- "floor and plan files read and write back to the same bytes"
  pub accepted : (x : PlanRead) → r ≡ Ok x → AcceptedPlan floor s x

pub record PlanWritten (floor : List ℕ) (h : Head) (rows before : List ℕ) (v : Verdict) (after : List ℕ) : Type 0 where
  -- the answer and every byte of the buffer, for all numbers
  pub outcome : Gives (write_plan floor h rows before) v after
  -- "refused as reading their file would be .., then 18"
  pub numbers : Given writing_plan v
  -- numbers of the table are refused only for want of room
  pub complete : (f : Floor) → read_floor floor ≡ Ok f → ValidPlan (record { head = h; rows = parts h.steps rows }) f
      → Gives (written AboutPlan (plan_bytes h rows) before) v after
  -- "What is written reads back as the same numbers."
  pub reads_back : (k : ℕ) → v ≡ Written k
      → (f : Floor) × (n : PlanNumbers) × (read_floor floor ≡ Ok f) × (read_plan f (take k after) ≡ acceptedNumbers n)
      × (n.head ≡ h) × (flatten n.rows ≡ rows)
