-- Writing a plan's numbers.
use Rattle.std.specs.Prelude.{ℕ, ◌+◌, ◌*◌, ◌<◌, Result, Ok, Err}
use mathlib.Core.List.{List, ◌∷◌, ◌++◌, map, flatten}
use Rattle.endian.specs.Little.{bytes}
use Rattle.refusal.specs.Outcome.{Outcome, unchanged, written}
use Rattle.refusal.specs.declared.Verdict.TheVariants.{Floor as AboutFloor, Plan as AboutPlan}
use Rattle.record.specs.Record.{Record, layout}
use Rattle.record.specs.Parts.{parts, of_kind}
use Rattle.floor.specs.Floor.{read_floor}
use Rattle.plan.specs.Plan.{PlanNumbers, PlanAnswer, accepted, rejected, read_plan}
use Rattle.floor.specs.declared.Floor.{Floor}
use Rattle.plan.specs.declared.Head.{Head}
use Rattle.refusal.specs.declared.Refusal.{Refusal}

-- a head by its three numbers
abbrev pub head_of : ℕ → ℕ → ℕ → Head
head_of h l d = record { steps = h; stem = l; drift = d }

-- "(fields are no wider than the file's)": two bytes each
pub record Narrow (h : Head) : Type 0 where
  pub steps : h.steps < 65536
  pub stem : h.stem < 65536
  pub drift : h.drift < 65536

-- a head's body: "h, l, d, two bytes each"
abbrev pub head_bytes : Head → List ℕ
head_bytes h = bytes 2 h.steps ++ (bytes 2 h.stem ++ bytes 2 h.drift)

-- the numbers laid out as records: a row to each h bytes; bytes left over are a record of wrong length, and with h = 0 all are
abbrev pub row_records : Head → List ℕ → List Record
row_records h rows = map (of_kind 5) (parts h.steps rows)

abbrev pub plan_records : Head → List ℕ → List Record
plan_records h rows = of_kind 4 (head_bytes h) ∷ row_records h rows

abbrev pub plan_bytes : Head → List ℕ → List ℕ
plan_bytes h rows = layout (plan_records h rows)

-- the file of a plan's numbers
abbrev pub plan_file : PlanNumbers → List ℕ
plan_file n = plan_bytes n.head (flatten n.rows)

-- where cart c's row of so many steps lies in a plan's file: behind the head's ten bytes, the rows before it, and its own length and kind
abbrev pub row_at : ℕ → ℕ → ℕ
row_at steps c = 10 + c * (4 + steps) + 4

-- whether reading accepts, or its refusal
abbrev pub judged_numbers : PlanAnswer → Result (Unit {0}) Refusal
judged_numbers (accepted n) = Ok tt
judged_numbers (rejected r) = Err r

-- "numbers that no file could give are refused as reading their file would be (fields are no wider than the file's), then 18 as below"
abbrev pub by_reading : PlanAnswer → List ℕ → List ℕ → Outcome
by_reading (accepted n) file out = written AboutPlan file out
by_reading (rejected r) file out = unchanged (AboutPlan r) out

abbrev pub write_for : Floor → Head → List ℕ → List ℕ → Outcome
write_for f h rows out = by_reading (read_plan f (plan_bytes h rows)) (plan_bytes h rows) out

abbrev pub by_floor : Result Floor Refusal → Head → List ℕ → List ℕ → Outcome
by_floor (Ok f) h rows out = write_for f h rows out
by_floor (Err r) h rows out = unchanged (AboutFloor r) out

unfoldable pub write_plan : List ℕ → Head → List ℕ → List ℕ → Outcome
write_plan floor h rows out = by_floor (read_floor floor) h rows out
