-- What the promises of reading and writing a plan give: a reader of them alone can conclude this.
use Rattle.std.specs.Prelude.{ℕ, ◌*◌, ◌≤◌, ◌<◌, ◌≡◌, refl, length, take, drop, get_or, Result, Ok}
use Rattle.std.proofs.Common.{subst, ◌∙◌}
use Rattle.std.proofs.Math.Path.{ap}
use mathlib.Core.List.{List, [], ◌∷◌, ◌++◌, flatten}
use Rattle.refusal.specs.Codes.{refused, code_of}
use Rattle.refusal.specs.Given.{OneOf, Given, floor_numbers, plan_numbers, reading_plan, writing_plan}
use Rattle.refusal.specs.Numbered.{zero_accepts, zero_writes}
use Rattle.refusal.specs.Outcome.{Outcome, Gives}
use Rattle.refusal.specs.Held.{with_room, without_room}
use Rattle.refusal.specs.declared.Refusal.{Refusal}
use Rattle.refusal.specs.Results.{checked}
use Rattle.refusal.specs.declared.Refused.{Refused}
use Rattle.refusal.specs.declared.Verdict.{Verdict}
use Rattle.refusal.specs.declared.Verdict.TheVariants.{Accepted, Written, Floor as AboutFloor, Plan as AboutPlan}
use Rattle.record.specs.Parts.{parts}
use Rattle.floor.specs.Floor.{read_floor}
use Rattle.floor.specs.declared.Floor.{Floor}
use Rattle.plan.specs.Plan.{PlanNumbers, plan_of, plan_read, on_floor, accepted_read, read_both}
use Rattle.plan.specs.After.{ReadAs}
use Rattle.plan.specs.Numbers.{plan_bytes}
use Rattle.plan.specs.Valid.{ValidPlan}
use Rattle.plan.specs.Promises.{PlanReads, PlanWritten}
use Rattle.plan.specs.declared.Head.{Head}
use Rattle.plan.specs.declared.Plan.{Plan}
use Rattle.plan.specs.declared.PlanRead.{PlanRead}

module _ (floor s : List ℕ) (r : Result PlanRead Refused) (w : PlanReads floor s r) where
  -- a refusal is the floor's or the plan's, with one of the numbers listed; number 0 is accepted
  pub floor_listed : (x : Refusal) → checked r ≡ AboutFloor x → OneOf floor_numbers x.number
  floor_listed x e = subst (Given reading_plan) e w.numbers

  pub plan_listed : (x : Refusal) → checked r ≡ AboutPlan x → OneOf plan_numbers x.number
  plan_listed x e = subst (Given reading_plan) e w.numbers

  pub zero_accepted : (code_of (checked r)).number ≡ 0 → checked r ≡ Accepted
  zero_accepted z = zero_accepts reading_plan refl refl (checked r) w.numbers z

  -- accepted: floor and plan are read, and the plan that is given is these numbers
  module _ (x : PlanRead) (e : r ≡ Ok x) where
    pub read_as : (n : PlanNumbers) × ReadAs floor s x.floor n × (x.plan ≡ plan_of n) × ValidPlan n x.floor
    read_as = let a = w.accepted x e in (a.numbers, record { floor_read = a.floor_read; plan_read_lem = a.plan_read_lem }, a.held, a.valid)

    -- the place of cart c on each step, at 64 c in the block, is on the floor
    pub place_in_block : (c t : ℕ) → c < x.floor.carts → t < x.plan.head.steps
        → get_or (take x.plan.head.steps (drop (64 * c) x.plan.block)) t 0 < x.floor.places
    place_in_block c t l m =
        let a = w.accepted x e in
        let h : x.plan.head.steps ≡ a.numbers.head.steps = ap (λ (p : Plan). p.head.steps) a.held in
        rw h (rw (a.row c l) (a.valid.places c t l (subst (λ (k : ℕ). t < k) h m)))

    -- its numbers, written to a buffer with room, are its bytes again, and the rest of the buffer stays
    pub read_then_write : (before : List ℕ) (v : Verdict) (after : List ℕ)
        → PlanWritten floor (w.accepted x e).numbers.head (flatten (w.accepted x e).numbers.rows) before v after → length s ≤ length before
        → (v ≡ Written (length s)) × (after ≡ s ++ drop (length s) before)
    read_then_write before v after y room =
        with_room AboutPlan s before v after (subst (λ (o : Outcome). Gives o v after) ((w.accepted x e).written_again before) y.outcome) room

module _ (floor : List ℕ) (h : Head) (rows before : List ℕ) (v : Verdict) (after : List ℕ) (w : PlanWritten floor h rows before v after) where
  -- numbers of the table are written if there is room, and otherwise 18 says how much is needed
  module _ (f : Floor) (p : read_floor floor ≡ Ok f) (x : ValidPlan (record { head = h; rows = parts h.steps rows }) f) where
    pub valid_written : length (plan_bytes h rows) ≤ length before
        → (v ≡ Written (length (plan_bytes h rows))) × (after ≡ plan_bytes h rows ++ drop (length (plan_bytes h rows)) before)
    valid_written room = with_room AboutPlan (plan_bytes h rows) before v after (w.complete f p x) room

    pub room_needed : length before < length (plan_bytes h rows) → (v ≡ AboutPlan (refused 18 (length (plan_bytes h rows)) 0)) × (after ≡ before)
    room_needed short = without_room AboutPlan (plan_bytes h rows) before v after (w.complete f p x) short

  -- a refusal has one of the numbers listed, and number 0 is a result of the length that is told
  pub writing_listed : (x : Refusal) → v ≡ AboutPlan x → OneOf (plan_numbers ++ (18 ∷ [])) x.number
  writing_listed x e = subst (Given writing_plan) e w.numbers

  pub zero_written : (code_of v).number ≡ 0 → v ≡ Written (code_of v).first
  zero_written z = zero_writes writing_plan refl refl v w.numbers z

  -- what was written is read as the same numbers
  pub write_then_read : (k : ℕ) → v ≡ Written k → (r : Result PlanRead Refused) → PlanReads floor (take k after) r
      → (f : Floor) × (n : PlanNumbers) × (r ≡ accepted_read f n) × (n.head ≡ h) × (flatten n.rows ≡ rows)
  unfolding read_both
  write_then_read k e r x =
      let b = w.reads_back k e in
      let is : r ≡ accepted_read b.0 b.1 =
      x.answer ∙ ap (λ (a : Result Floor Refusal). on_floor a (take k after)) b.2 ∙ ap (plan_read b.0) b.3 in
      (b.0, b.1, is, b.4, b.5)
