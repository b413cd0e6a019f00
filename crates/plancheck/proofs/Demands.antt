-- What the promise gives, clause by clause and byte by byte: a reader of it alone can conclude this.
use Rattle.std.specs.Prelude.{ℕ, ◌≤◌, ◌<◌, ◌≡◌, refl, ◌⊎◌, List, T, length, get_or, Ok}
use Rattle.std.proofs.Common.{arith, subst, subst₂, inl, inr, ⊎_elim}
use Rattle.std.proofs.Math.Path.{subst₃}
use Rattle.endian.specs.Little.{bytes}
use Rattle.refusal.specs.Codes.{refused}
use Rattle.refusal.specs.declared.Verdict.{Verdict}
use Rattle.refusal.specs.declared.Verdict.TheVariants.{Accepted, Plan as AboutPlan, Rules as AboutRules}
use Rattle.record.specs.All.{All, each}
use Rattle.record.specs.Buffer.{stored}
use Rattle.floor.specs.Floor.{read_floor}
use Rattle.floor.specs.declared.Floor.{Floor}
use Rattle.plan.specs.Plan.{PlanNumbers, rejected, read_plan}
use Rattle.plan.specs.After.{ReadAs}
use Rattle.moves.specs.Promises.{Moving, LowestLeft, FirstRefused}
use Rattle.moves.specs.Demands.{read_once, first_11}
use Rattle.conflict.specs.Meaning.{Routes, Vertex, Swap, Conflict, Earliest}
use Rattle.conflict.specs.OfPlan.{plan_routes, ConflictFree}
use Rattle.grammar.specs.Grammar.{top, Clause}
use Rattle.grammar.specs.Groups.{groups}
use Rattle.cltl.specs.Meaning.{Run, TrueOf, TrueInStep}
use Rattle.cltl.specs.Rules.{has_next}
use Rattle.plancheck.specs.Check.{plan_rows, checked}
use Rattle.plancheck.specs.Meaning.{drifted, HasGroups, FirstLacking, Plain, Kept, FailingStep, ReadAndOpen, NoneAhead}
use Rattle.plancheck.specs.Promises.{Means, PlanChecked}
use Rattle.plancheck.proofs.FirstClause.{first_lacked, first_21}
use Rattle.plancheck.proofs.Stages.{same_clauses}

---- Accepted, by the verdict or by C's number.
module _ (floor plan sheet : List ℕ) (yes : Type 0) (w : Means floor plan sheet yes) where
  module _ (f : Floor) (p : PlanNumbers) (cs : List Clause) where
    -- "next" only inside counts: clause k is true of every run within the drift
    pub clause_in_run : yes → ReadAndOpen floor plan sheet f p cs → All Plain cs → (run : Run f.carts p.head.drift) (k : ℕ) → k < length cs
        → TrueOf (plan_rows floor f p) run (get_or cs k top)
    clause_in_run a r plain run k q = each (TrueOf (plan_rows floor f p) run) top cs k (w.runs a f p cs r plain run) q

    -- in step: what is true of every clause is accepted, and nothing else is
    pub accepted_in_step : ReadAndOpen floor plan sheet f p cs → ConflictFree floor f p → All (HasGroups f.groups) cs → p.head.drift ≡ 0
        → All (TrueInStep (plan_rows floor f p)) cs → yes
    accepted_in_step r free has none all = (w.in_step f p r.files none).1 (cs, r, free, has, all)

    pub true_in_step : ReadAndOpen floor plan sheet f p cs → p.head.drift ≡ 0 → yes → All (TrueInStep (plan_rows floor f p)) cs
    true_in_step r none a =
        let x = (w.in_step f p r.files none).0 a in
        subst (All (TrueInStep (plan_rows floor f p))) (same_clauses sheet x.0 cs x.1.clauses r.clauses) x.4

    -- with drift: what the rules keep is accepted, and nothing else is
    pub accepted_kept : NoneAhead floor plan sheet f p cs → All (Kept (plan_rows floor f p) p.head.drift) cs → yes
    accepted_kept a all = (w.kept f p cs a).1 all

    pub kept_accepted : NoneAhead floor plan sheet f p cs → yes → All (Kept (plan_rows floor f p) p.head.drift) cs
    kept_accepted a y = (w.kept f p cs a).0 y

  -- no run within the drift has two carts in one narrow place at a moment, nor exchanges two between narrow places in one tick
  module _ (y : yes) (f : Floor) (p : PlanNumbers) (files : ReadAs floor plan f p) (run : Run f.carts p.head.drift) (t a b : ℕ)
      (here : a < f.carts) (there : b < f.carts) (two : a ≡ b → ⊥) where
    pub never_meet : Vertex (plan_routes floor f p) run.at t a b → ⊥
    never_meet c = w.conflict_free y f p files run t a b here there two (inl c)

    pub never_exchanged : Swap (plan_routes floor f p) run.at t a b → ⊥
    never_exchanged c = w.conflict_free y f p files run t a b here there two (inr c)

  -- every smaller drift: the check's own answer on the plan with other bytes for d, and what that plan is
  module _ (f : Floor) (p : PlanNumbers) (files : ReadAs floor plan f p) (d : ℕ) (less : d ≤ p.head.drift) where
    pub accepted_with : yes → checked floor (stored plan 8 (bytes 2 d)) sheet ≡ Accepted
    accepted_with a = (w.smaller a f p files d less).1

    pub reads_with : yes → ReadAs floor (stored plan 8 (bytes 2 d)) f (drifted p d)
    reads_with a = (w.smaller a f p files d less).0

  -- what could not be read, has a conflict, names a group that the floor lacks, or has "next" outside a count under drift, is not accepted
  pub no_next : yes → (f : Floor) × (p : PlanNumbers) × (cs : List Clause) × ReadAndOpen floor plan sheet f p cs × ConflictFree floor f p
      × All (HasGroups f.groups) cs × ((p.head.drift ≡ 0) ⊎ All Plain cs)
  no_next e = let a = w.readable e in (a.0, a.1, a.2, a.3.readable, a.3.no_20, a.3.no_21, a.3.no_16)

---- Refused by 11, 20, 21, 16 or 17, in the caller's own reading of floor, plan and sheet.
-- 11: step k is the lowest that cart c leaves by a move that is not open, and the cart is on another place after it
pub check_11 : (floor plan sheet : List ℕ) (v : Verdict) → PlanChecked floor plan sheet v → (f : Floor) (p : PlanNumbers) → ReadAs floor plan f p
    → (c k : ℕ) → v ≡ AboutPlan (refused 11 c k) → LowestLeft floor p c k
check_11 floor plan sheet v w f p files c k e = let x = w.plan_refused (refused 11 c k) e (λ z. omega arith) in go x.0 x.1 x.2
  where
    go : (g : Floor) → read_floor floor ≡ Ok g
        → (read_plan g plan ≡ rejected (refused 11 c k)) ⊎ ((q : PlanNumbers) × ReadAs floor plan g q × FirstRefused floor g q (AboutPlan (refused 11 c k)))
        → LowestLeft floor p c k
    go g a (inl u) = let x = files.floor_read in let y = files.plan_read_lem in let z : ◌≡◌ {A = ℕ} 0 1 = cc in absurd (omega arith)
    go g a (inr r) =
        let same = read_once floor plan g f r.0 p r.1 files in
        subst (λ (q : PlanNumbers). LowestLeft floor q c k) same.1 (first_11 floor g r.0 c k r.2)

-- 20: cart c is the lowest in any conflict, and s the step of its earliest counter in one
pub check_20 : (floor plan sheet : List ℕ) (v : Verdict) → PlanChecked floor plan sheet v → (f : Floor) (p : PlanNumbers) → ReadAs floor plan f p
    → (c s : ℕ) → v ≡ AboutPlan (refused 20 c s) → Earliest (plan_routes floor f p) p.head.drift c s
check_20 floor plan sheet v w f p files c s e =
    let x = (w.conflict_20 c s).0 e in
    let m = x.moving in
    let same = read_once floor plan m.floor_is f m.numbers p m.read files in
    subst₂ (λ (g : Floor) (q : PlanNumbers). Earliest (plan_routes floor g q) q.head.drift c s) same.0 same.1 x.earliest

-- moves that go on without end: 20 has those numbers and no others, is given where some run within the drift has a conflict, and where it is not
-- given no such run has one
module _ (floor plan sheet : List ℕ) (v : Verdict) (w : PlanChecked floor plan sheet v) (m : Moving floor plan) where
  abbrev P : Routes
  P = plan_routes floor m.floor_is m.numbers

  abbrev d : ℕ
  d = m.numbers.head.drift

  pub earliest_told : (c s : ℕ) → Earliest P d c s → v ≡ AboutPlan (refused 20 c s)
  earliest_told c s e = (w.conflict_20 c s).1 (record { moving = m; earliest = e })

  pub conflict_refused : (a k : ℕ) → Conflict P d a k → (c : ℕ) × (s : ℕ) × (v ≡ AboutPlan (refused 20 c s))
  conflict_refused a k x = (w.exists_20 m).1 (a, k, x)

  pub refused_conflict : (c s : ℕ) → v ≡ AboutPlan (refused 20 c s) → (a : ℕ) × (k : ℕ) × Conflict P d a k
  refused_conflict c s e = (w.exists_20 m).0 (c, s, e)

  pub not_20_free : ((c s : ℕ) → v ≡ AboutPlan (refused 20 c s) → ⊥) → ConflictFree floor m.floor_is m.numbers
  not_20_free n r t a b here there two x =
      let found = conflict_refused a (r.at t a)
      (record { run = r; moment = t; other = b; cart_there = here; other_there = there; two = two; counter = refl; conflicting = x }) in
      n found.0 found.1 found.2

-- all read without a conflict: 21 has those numbers and no others, and where it is not given the floor has every group that a clause names
module _ (floor plan sheet : List ℕ) (v : Verdict) (w : PlanChecked floor plan sheet v) (f : Floor) (p : PlanNumbers) (cs : List Clause)
    (r : ReadAndOpen floor plan sheet f p cs) (free : ConflictFree floor f p) where
  pub lacking_told : (k g : ℕ) → k < length cs → FirstLacking f.groups (groups (get_or cs k top)) g
      → ((j : ℕ) → j < k → HasGroups f.groups (get_or cs j top)) → v ≡ AboutRules (refused 21 k g)
  lacking_told k g l x before = (w.lacks_21 k g).1
      (record { floor_is = f; numbers = p; clauses = cs; readable = r; no_20 = free; there = l; first = x; before = before })

  pub not_21_named : ((k g : ℕ) → v ≡ AboutRules (refused 21 k g) → ⊥) → All (HasGroups f.groups) cs
  not_21_named n = ⊎_elim (λ a. a.0)
      (λ x. absurd (n x.index (first_lacked f.groups (get_or cs x.index top)) (lacking_told x.index _ x.there x.bad x.before)))
      (first_21 f.groups cs)

module _ (floor plan sheet : List ℕ) (v : Verdict) (w : PlanChecked floor plan sheet v) (f : Floor) (p : PlanNumbers) (cs : List Clause)
    (r : ReadAndOpen floor plan sheet f p cs) (k s : ℕ) where
  -- 21: clause k is there, s is the first group in its text that the floor lacks, and no clause before it names such a group
  pub clause_21 : v ≡ AboutRules (refused 21 k s)
      → (k < length cs) × FirstLacking f.groups (groups (get_or cs k top)) s × ((j : ℕ) → j < k → HasGroups f.groups (get_or cs j top))
  clause_21 e =
      let x = (w.lacks_21 k s).0 e in
      let a = x.readable in
      let same = read_once floor plan x.floor_is f x.numbers p a.files r.files in
      subst₂
      (λ (g : Floor) (ds : List Clause). (k < length ds)
      × FirstLacking g.groups (groups (get_or ds k top)) s × ((j : ℕ) → j < k → HasGroups g.groups (get_or ds j top)))
      same.0 (same_clauses sheet x.clauses cs a.clauses r.clauses) (x.there, x.first, x.before)

  -- 16: clause k is there and has "next" outside its counts
  pub clause_16 : v ≡ AboutRules (refused 16 k s) → (k < length cs) × T (has_next (get_or cs k top))
  clause_16 e =
      let x = (w.next_16 k s e).1 in
      subst (λ (ds : List Clause). (k < length ds) × T (has_next (get_or ds k top)))
      (same_clauses sheet x.clauses cs x.readable.clauses r.clauses) (x.there, x.next)

  -- 17: clause k is there and not kept, and s is its step
  pub clause_17 : v ≡ AboutRules (refused 17 k s)
      → (k < length cs) × (Kept (plan_rows floor f p) p.head.drift (get_or cs k top) → ⊥)
      × FailingStep (plan_rows floor f p) p.head.drift (get_or cs k top) s
  clause_17 e =
      let x = w.fails_17 k s e in
      let a = x.ahead.readable in
      let same = read_once floor plan x.floor_is f x.numbers p a.files r.files in
      subst₃
      (λ (g : Floor) (q : PlanNumbers) (ds : List Clause). (k < length ds)
      × (Kept (plan_rows floor g q) q.head.drift (get_or ds k top) → ⊥) × FailingStep (plan_rows floor g q) q.head.drift (get_or ds k top) s)
      same.0 same.1 (same_clauses sheet x.clauses cs a.clauses r.clauses)
      (x.there, x.not_kept, x.step)
