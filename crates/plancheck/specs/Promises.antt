-- What the check of a plan promises: the whole claim.
use Rattle.std.specs.Prelude.{ℕ, ◌≤◌, ◌≡◌, ◌↔◌, List, Err}
use Rattle.endian.specs.Little.{bytes}
use Rattle.refusal.specs.Codes.{refused}
use Rattle.refusal.specs.Given.{OneOf, Given, clause_numbers, checking_plan}
use Rattle.refusal.specs.declared.Refusal.{Refusal}
use Rattle.refusal.specs.declared.Verdict.{Verdict}
use Rattle.refusal.specs.declared.Verdict.TheVariants.{Accepted, Floor as AboutFloor, Plan as AboutPlan, Rules as AboutRules}
use Rattle.record.specs.All.{All}
use Rattle.record.specs.Buffer.{stored}
use Rattle.floor.specs.Floor.{read_floor}
use Rattle.floor.specs.declared.Floor.{Floor}
use Rattle.plan.specs.Plan.{PlanNumbers}
use Rattle.plan.specs.After.{ReadAs}
use Rattle.moves.specs.Promises.{Moving}
use Rattle.conflict.specs.Meaning.{Conflict}
use Rattle.conflict.specs.OfPlan.{plan_routes, ConflictFree}
use Rattle.grammar.specs.Grammar.{Clause}
use Rattle.cltl.specs.Meaning.{Run, TrueOf, TrueInStep}
use Rattle.plancheck.specs.Check.{plan_rows, checked}
use Rattle.plancheck.specs.Meaning.{drifted, HasGroups, Plain, Kept, ReadAndOpen, NoneAhead, Conflict20, Lacks21, Next16, Fails17, PlanRefused, SheetRefused, NamesClause}

module _ (floor plan sheet : List ℕ) where
  -- what accepted means; `yes` says that the plan is accepted, by a verdict or by its number
  pub record Means (yes : Type 0) : Type 0 where
    -- at drift 0: accepted exactly when all can be read, each cart begins at its start, its moves are open without end, no run of drift 0 has a
    -- conflict in a narrow place, no clause names a group that the floor lacks, and every clause is true in step
    pub in_step : (f : Floor) (p : PlanNumbers) → ReadAs floor plan f p → p.head.drift ≡ 0
        → yes ↔ ((cs : List Clause) × ReadAndOpen floor plan sheet f p cs × ConflictFree floor f p × All (HasGroups f.groups) cs
        × All (TrueInStep (plan_rows floor f p)) cs)
    -- nothing refused ahead of the clauses: accepted exactly when the drift rules keep every clause
    pub kept : (f : Floor) (p : PlanNumbers) (cs : List Clause) → NoneAhead floor plan sheet f p cs
        → yes ↔ All (Kept (plan_rows floor f p) p.head.drift) cs
    -- accepted, under clauses that use "next" only inside counts: every clause is true of every run within the drift
    pub runs : yes → (f : Floor) (p : PlanNumbers) (cs : List Clause) → ReadAndOpen floor plan sheet f p cs → All Plain cs
        → (r : Run f.carts p.head.drift) → All (TrueOf (plan_rows floor f p) r) cs
    -- accepted: no run within the drift has two carts in one narrow place at a moment, or exchanges two between narrow places in one tick
    pub conflict_free : yes → (f : Floor) (p : PlanNumbers) → ReadAs floor plan f p → ConflictFree floor f p
    -- accepted too with every smaller drift: the same floor, sheet and plan but for the two bytes of d, which read as the same plan with drift d
    pub smaller : yes → (f : Floor) (p : PlanNumbers) → ReadAs floor plan f p → (d : ℕ) → d ≤ p.head.drift
        → ReadAs floor (stored plan 8 (bytes 2 d)) f (drifted p d) × (checked floor (stored plan 8 (bytes 2 d)) sheet ≡ Accepted)
    -- what is accepted could be read, with nothing refused ahead of the clauses
    pub readable : yes → (f : Floor) × (p : PlanNumbers) × (cs : List Clause) × NoneAhead floor plan sheet f p cs

  pub record PlanChecked (v : Verdict) : Type 0 where
    -- the answer, for every floor, plan and sheet
    pub verdict : v ≡ checked floor plan sheet
    -- "Checking a plan: floor, plan, moves, sheet as above; then 16 .., then 17", and 20 and 21: accepted, or one of these numbers
    pub numbers : Given checking_plan v
    -- accepted, and what that means
    pub means : Means (v ≡ Accepted)
    -- 20, by its numbers: exactly if the moves are open without end and c is the lowest cart in any conflict of a run within the drift, s the step of its
    -- earliest counter in one
    pub conflict_20 : (c s : ℕ) → (v ≡ AboutPlan (refused 20 c s)) ↔ Conflict20 floor plan c s
    -- and at all: "Where no earlier refusal comes .., a plan is refused on this ground exactly if such a run exists."
    pub exists_20 : (m : Moving floor plan) → let P = plan_routes floor m.floor_is m.numbers in let d = m.numbers.head.drift in
        ((c : ℕ) × (s : ℕ) × (v ≡ AboutPlan (refused 20 c s))) ↔ ((c : ℕ) × (k : ℕ) × Conflict P d c k)
    -- 21: exactly if all can be read, nothing is refused before, and "(lowest clause, its first such group) for a group the floor lacks" are these
    pub lacks_21 : (k g : ℕ) → (v ≡ AboutRules (refused 21 k g)) ↔ Lacks21 floor plan sheet k g
    -- 16 and 17, and what they mean
    pub next_16 : (k s : ℕ) → v ≡ AboutRules (refused 16 k s) → (s ≡ 0) × Next16 floor plan sheet k
    pub fails_17 : (k s : ℕ) → v ≡ AboutRules (refused 17 k s) → Fails17 floor plan sheet k s
    -- a number that comes with a clause comes with one that the sheet has
    pub names_clause_lem : (x : Refusal) → v ≡ AboutRules x → OneOf clause_numbers x.number → NamesClause sheet x.first x.second
    -- every other refusal is that of the floor, the plan, its moves or the sheet, in this order
    pub floor_refused : (x : Refusal) → v ≡ AboutFloor x → read_floor floor ≡ Err x
    pub plan_refused : (x : Refusal) → v ≡ AboutPlan x → (x.number ≡ 20 → ⊥) → PlanRefused floor plan x
    pub sheet_refused : (x : Refusal) → v ≡ AboutRules x → (OneOf clause_numbers x.number → ⊥) → SheetRefused floor plan sheet x
