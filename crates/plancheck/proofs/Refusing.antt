-- What a refusal means, stage by stage.
use Rattle.std.specs.Prelude.{ℕ, ◌+◌, ◌<◌, ◌≡◌, Bool, true, false, not, cond, ◌⊎◌, List, [], ◌∷◌, T, eqb, get_or, Result, Ok, Err}
use Rattle.std.proofs.Common.{arith, sym, ap, subst, ◌∙◌, inr, eqb-true}
use Rattle.std.proofs.Math.Path.{refl}
use Rattle.std.proofs.Math.Logic.{inl}
use Rattle.std.proofs.lemmas.Bool.{eqb-false}
use Rattle.endian.specs.Little.{Bytes}
use Rattle.refusal.specs.Results.{told}
use Rattle.refusal.specs.Codes.{refused}
use Rattle.refusal.specs.Stages.{is_accepted, and_then}
use Rattle.refusal.specs.Given.{OneOf, Given, plan_numbers, moves_numbers, sheet_numbers, clause_numbers, checking_moves, checking_plan}
use Rattle.refusal.specs.Numbered.{one_left, one_right, one_among, not_among, not_both, one_of_more}
use Rattle.refusal.specs.Accepting.{accepted_is}
use Rattle.refusal.specs.declared.Refusal.{Refusal}
use Rattle.refusal.specs.declared.Verdict.{Verdict}
use Rattle.refusal.specs.declared.Verdict.TheVariants.{Accepted, Written, Floor as AboutFloor, Plan as AboutPlan, Rules as AboutRules}
use Rattle.record.specs.All.{All}
use Rattle.floor.specs.Floor.{read_floor}
use Rattle.floor.specs.Refusing.{refused_number as floor-number}
use Rattle.floor.specs.declared.Floor.{Floor}
use Rattle.plan.specs.Plan.{PlanNumbers, PlanAnswer, accepted, rejected, read_plan, after_plan, after_floor}
use Rattle.plan.specs.After.{after_reading, ReadAs}
use Rattle.plan.specs.RoundTrip.{valid}
use Rattle.plan.specs.Refusing.{refused_number as plan-number}
use Rattle.row.specs.declared.MoveFault.{MoveFault}
use Rattle.row.specs.declared.MoveFault.TheVariants.{Elsewhere, Shut}
use Rattle.moves.specs.Carts.{verdict_of, cart_answer, moves_verdict}
use Rattle.moves.specs.Refusing.{row_given}
use Rattle.moves.specs.Promises.{AllUnending, Moving, FirstRefused}
use Rattle.moves.specs.Unending.{all_unending, moves_read, promise}
use Rattle.conflict.specs.OfPlan.{conflict_verdict, ConflictFree}
use Rattle.grammar.specs.Grammar.{top, leaf, neg, and, or, next, until, release, ev, gl, Clause}
use Rattle.grammar.specs.Reader.{Read, read_sheet}
use Rattle.grammar.specs.Reader as reader
use Rattle.grammar.proofs.Promised.{promises}
use Rattle.sheet.specs.Rules.{read_verdict, rules_verdict}
use Rattle.sheet.specs.Reading.{rules_read_lem}
use Rattle.cltl.specs.Meaning.{Rows, Proper}
use Rattle.cltl.specs.Rules.{rules, has_next}
use Rattle.cltl.specs.Step.{failing}
use Rattle.cltl.proofs.Lowest.{globally_fails}
use Rattle.plancheck.specs.Check.{plan_rows, clauses_of, group_verdict, next_verdict, kept_verdict, clauses_verdict, stages, checked}
use Rattle.plancheck.specs.Meaning.{HasGroups, Plain, Kept, LowestFailing, FailingStep, ReadAndOpen, NoneAhead, Conflict20, Lacks21, Next16, Fails17, PlanRefused, SheetRefused, NamesClause}
use Rattle.plancheck.proofs.Lacking.{first_low}
use Rattle.plancheck.proofs.FirstClause.{FirstClause, first_lacked, Lacks, first_21, first_16, first_17}
use Rattle.plancheck.proofs.Stages.{proper, on_routes}

---- The step that 17 gives.
abbrev is_globally : Clause → Bool
is_globally top = false
is_globally (leaf x) = false
is_globally (neg a) = false
is_globally (and a b) = false
is_globally (or a b) = false
is_globally (next a) = false
is_globally (until a b) = false
is_globally (release a b) = false
is_globally (ev a) = false
is_globally (gl a) = true

-- a clause by its outermost operator: G, or another, whose step is 0
pub data Outermost : Clause → Type 0 where
  globally : (a : Clause) → Outermost (gl a)
  another : {c : Clause} → ((a : Clause) → c ≡ gl a → ⊥) → ((P : Rows) (d : ℕ) → failing P d c ≡ 0) → Outermost c

pub outermost : (c : Clause) → Outermost c
unfolding failing
outermost c = go c
  where
    apart : (c : Clause) → is_globally c ≡ false → (a : Clause) → c ≡ gl a → ⊥
    apart c e a q = let x : false ≡ true = sym e ∙ ap is_globally q in let y : ◌≡◌ {A = ℕ} 0 1 = cc in omega arith

    go : (c : Clause) → Outermost c
    go top = another (apart top refl) (λ P d. refl)
    go (leaf x) = another (apart (leaf x) refl) (λ P d. refl)
    go (neg a) = another (apart (neg a) refl) (λ P d. refl)
    go (and a b) = another (apart (and a b) refl) (λ P d. refl)
    go (or a b) = another (apart (or a b) refl) (λ P d. refl)
    go (next a) = another (apart (next a) refl) (λ P d. refl)
    go (until a b) = another (apart (until a b) refl) (λ P d. refl)
    go (release a b) = another (apart (release a b) refl) (λ P d. refl)
    go (ev a) = another (apart (ev a) refl) (λ P d. refl)
    go (gl a) = globally a

module _ (P : Rows) (d : ℕ) (proper : Proper P) where
  not-true : (b : Bool) → T (not b) → T b → ⊥
  not-true true h t = h
  not-true false h t = t

  lowest_failing : (a : Clause) → (Kept P d (gl a) → ⊥) → LowestFailing P d a (failing P d (gl a))
  lowest_failing a n =
      let w = globally_fails P d a proper n in
      record { inside = w.below; fails = not-true (rules P d a (failing P d (gl a))) w.fails; before = λ j q. w.before j (omega arith) q }

  failing_step : (c : Clause) → (Kept P d c → ⊥) → FailingStep P d c (failing P d c)
  failing_step c n = go (outermost c) n
    where
      go : {c : Clause} → Outermost c → (Kept P d c → ⊥) → FailingStep P d c (failing P d c)
      go (globally a) n = record {
        globally = λ a' q. let same : a ≡ a' = cc in subst (λ (x : Clause). LowestFailing P d x (failing P d (gl a))) same (lowest_failing a n);
        otherwise = λ o. absurd (o a refl);
      }
      go (another apart nought) n = record { globally = λ a q. absurd (apart a q); otherwise = λ o. nought P d }

-- it is a step of the plan
pub step_inside : (P : Rows) (d : ℕ) (c : Clause) (s : ℕ) → 0 < P.h → FailingStep P d c s → s < P.h
step_inside P d c s some w = go (outermost c) w
  where
    go : {c : Clause} → Outermost c → FailingStep P d c s → s < P.h
    go (globally a) w = (w.globally a refl).inside
    go (another apart nought) w = let z = w.otherwise apart in omega arith

---- Stage by stage.
module _ (floor plan sheet : List ℕ) where
  -- what a number that comes with a clause means
  abbrev pub ClauseRefused : Refusal → Type 0
  ClauseRefused x =
      ((x.number ≡ 21) × Lacks21 floor plan sheet x.first x.second)
      ⊎ (((x.number ≡ 16) × (x.second ≡ 0) × Next16 floor plan sheet x.first) ⊎ ((x.number ≡ 17) × Fails17 floor plan sheet x.first x.second))

  -- what a verdict of the check means
  abbrev pub Meant : Verdict → Type 0
  Meant Accepted = Unit {0}
  Meant (Written n) = ⊥
  Meant (AboutFloor x) = read_floor floor ≡ Err x
  Meant (AboutPlan x) = PlanRefused floor plan x ⊎ ((x.number ≡ 20) × Conflict20 floor plan x.first x.second)
  Meant (AboutRules x) = SheetRefused floor plan sheet x ⊎ ClauseRefused x

  clause_listed : (x : Refusal) → ClauseRefused x → OneOf clause_numbers x.number
  clause_listed x (inl w) = subst (OneOf clause_numbers) (sym w.0) (one_among clause_numbers 21 refl)
  clause_listed x (inr (inl w)) = subst (OneOf clause_numbers) (sym w.0) (one_among clause_numbers 16 refl)
  clause_listed x (inr (inr w)) = subst (OneOf clause_numbers) (sym w.0) (one_among clause_numbers 17 refl)

  pub is_21 : (k g : ℕ) → Meant (AboutRules (refused 21 k g)) → Lacks21 floor plan sheet k g
  is_21 k g (inl w) = absurd (not_among sheet_numbers 21 21 refl w.2.numbers refl)
  is_21 k g (inr (inl w)) = w.1
  is_21 k g (inr (inr (inl w))) = let z = w.0 in absurd (omega arith)
  is_21 k g (inr (inr (inr w))) = let z = w.0 in absurd (omega arith)

  pub is_16 : (k s : ℕ) → Meant (AboutRules (refused 16 k s)) → (s ≡ 0) × Next16 floor plan sheet k
  is_16 k s (inl w) = absurd (not_among sheet_numbers 16 16 refl w.2.numbers refl)
  is_16 k s (inr (inl w)) = let z = w.0 in absurd (omega arith)
  is_16 k s (inr (inr (inl w))) = (w.1, w.2)
  is_16 k s (inr (inr (inr w))) = let z = w.0 in absurd (omega arith)

  pub is_17 : (k s : ℕ) → Meant (AboutRules (refused 17 k s)) → Fails17 floor plan sheet k s
  is_17 k s (inl w) = absurd (not_among sheet_numbers 17 17 refl w.2.numbers refl)
  is_17 k s (inr (inl w)) = let z = w.0 in absurd (omega arith)
  is_17 k s (inr (inr (inl w))) = let z = w.0 in absurd (omega arith)
  is_17 k s (inr (inr (inr w))) = w.1

  pub is_sheet : (x : Refusal) → (OneOf clause_numbers x.number → ⊥) → Meant (AboutRules x) → SheetRefused floor plan sheet x
  is_sheet x n (inl w) = w
  is_sheet x n (inr w) = absurd (n (clause_listed x w))

  -- a number that comes with a clause is none of the reader's
  pub is_clause : (x : Refusal) → OneOf clause_numbers x.number → Meant (AboutRules x) → NamesClause sheet x.first x.second
  is_clause x o (inl w) = absurd (not_both sheet_numbers clause_numbers x.number refl w.2.numbers o)
  is_clause x o (inr (inl w)) =
      let y = w.1 in
      let low = first_low y.floor_is.groups y.readable.clauses.sheet x.first x.second y.there y.first in
      record { clauses = y.clauses; read = y.readable.clauses; there = y.there; small = omega arith }
  is_clause x o (inr (inr (inl w))) =
      let y = w.2 in
      let z = w.1 in
      record { clauses = y.clauses; read = y.readable.clauses; there = y.there; small = omega arith }
  is_clause x o (inr (inr (inr w))) =
      let y = w.1 in
      let h = (valid y.floor_is plan y.numbers y.ahead.readable.files.plan_read_lem).head in
      let low = step_inside (plan_rows floor y.floor_is y.numbers) y.numbers.head.drift (get_or y.clauses x.first top) x.second h.some
      y.step in
      record { clauses = y.clauses; read = y.ahead.readable.clauses; there = y.there; small = omega (arith, h.steps) }

  -- reading and moves have their own numbers, and 20 is none of them
  plan_listed : (x : Refusal) → PlanRefused floor plan x → OneOf moves_numbers x.number
  plan_listed x m = go m.2
    where
      go : (read_plan m.0 plan ≡ rejected x) ⊎ ((p : PlanNumbers) × ReadAs floor plan m.0 p × FirstRefused floor m.0 p (AboutPlan x))
          → OneOf moves_numbers x.number
      go (inl q) = one_of_more plan_numbers moves_numbers x.number refl (plan-number m.0 plan x q)
      go (inr w) =
          let p = w.0 in
          subst (Given checking_moves) w.2.refused
          (row_given checking_moves refl refl floor w.2.cart (get_or p.rows w.2.cart []) p.head.steps p.head.stem)

  not_20 : (x : Refusal) → PlanRefused floor plan x → x.number ≡ 20 → ⊥
  not_20 x m e = not_among moves_numbers 20 x.number refl (plan_listed x m) e

  pub is_plan : (x : Refusal) → (x.number ≡ 20 → ⊥) → Meant (AboutPlan x) → PlanRefused floor plan x
  is_plan x n20 (inl w) = w
  is_plan x n20 (inr w) = absurd (n20 w.0)

  pub is_20 : (c s : ℕ) → Meant (AboutPlan (refused 20 c s)) → Conflict20 floor plan c s
  is_20 c s (inl w) = absurd (not_20 (refused 20 c s) w refl)
  is_20 c s (inr w) = w.1

  pub given : (v : Verdict) → Meant v → Given checking_plan v
  given Accepted m = refl
  given (Written n) m = absurd m
  given (AboutFloor x) m = floor-number floor x m
  given (AboutPlan x) (inl m) = one_left moves_numbers (20 ∷ []) x.number (plan_listed x m)
  given (AboutPlan x) (inr m) = one_right moves_numbers (20 ∷ []) x.number (inl m.0)
  given (AboutRules x) (inl w) = one_of_more sheet_numbers checking_plan.rules x.number refl w.2.numbers
  given (AboutRules x) (inr w) = one_right sheet_numbers clause_numbers x.number (clause_listed x w)

  module _ (fb : Bytes floor) (f : Floor) (p : PlanNumbers) (files : ReadAs floor plan f p) where
    abbrev P : Rows
    P = plan_rows floor f p

    on_17 : (cs : List Clause) → NoneAhead floor plan sheet f p cs → Meant (kept_verdict P p.head.drift 0 cs)
    on_17 cs ahead = go (first_17 P p.head.drift cs)
      where
        go : (All (Kept P p.head.drift) cs × (kept_verdict P p.head.drift 0 cs ≡ Accepted))
            ⊎ FirstClause (Kept P p.head.drift) (λ c. Kept P p.head.drift c → ⊥) (λ k c. refused 17 k (failing P p.head.drift c)) 0 cs
            (kept_verdict P p.head.drift 0 cs)
            → Meant (kept_verdict P p.head.drift 0 cs)
        go (inl a) = subst Meant (sym a.1) tt
        go (inr w) =
            let z : 0 + w.index ≡ w.index = omega arith in
            subst Meant (sym (w.is ∙ ap (λ (k : ℕ). AboutRules (refused 17 k (failing P p.head.drift (get_or cs w.index top)))) z))
            (inr
            (inr
            (inr (
              refl,
              record {
                floor_is = f;
                numbers = p;
                clauses = cs;
                ahead = ahead;
                there = w.there;
                not_kept = w.bad;
                before = w.before;
                step = failing_step P p.head.drift (proper floor plan fb f p files) (get_or cs w.index top) w.bad;
              },
            ))))

    on_16 : (cs : List Clause) → ReadAndOpen floor plan sheet f p cs → ConflictFree floor f p → All (HasGroups f.groups) cs
        → Meant (and_then (cond (eqb p.head.drift 0) Accepted (next_verdict 0 cs)) (kept_verdict P p.head.drift 0 cs))
    on_16 cs r free has = by (eqb p.head.drift 0) refl (first_16 cs)
      where
        by : (b : Bool) → eqb p.head.drift 0 ≡ b
            → (All Plain cs × (next_verdict 0 cs ≡ Accepted)) ⊎ FirstClause Plain (λ c. T (has_next c)) (λ k c. refused 16 k 0) 0 cs (next_verdict 0 cs)
            → Meant (and_then (cond b Accepted (next_verdict 0 cs)) (kept_verdict P p.head.drift 0 cs))
        by true e w = on_17 cs (record { readable = r; no_20 = free; no_21 = has; no_16 = inl (eqb-true _ 0 e) })
        by false e (inl a) =
            subst (λ (v : Verdict). Meant (and_then v (kept_verdict P p.head.drift 0 cs))) (sym a.1)
            (on_17 cs (record { readable = r; no_20 = free; no_21 = has; no_16 = inr a.0 }))
        by false e (inr w) =
            let z : 0 + w.index ≡ w.index = omega arith in
            subst (λ (v : Verdict). Meant (and_then v (kept_verdict P p.head.drift 0 cs)))
            (sym (w.is ∙ ap (λ (k : ℕ). AboutRules (refused 16 k 0)) z))
            (inr
            (inr
            (inl (
              refl,
              refl,
              record {
                floor_is = f;
                numbers = p;
                clauses = cs;
                readable = r;
                no_20 = free;
                no_21 = has;
                drift = let n : (p.head.drift ≡ 0 → ⊥) = eqb-false _ 0 e in omega arith;
                there = w.there;
                next = w.bad;
                before = w.before;
              },
            ))))

    on_21 : (cs : List Clause) → ReadAndOpen floor plan sheet f p cs → ConflictFree floor f p → Meant (clauses_verdict P p.head.drift f.groups cs)
    on_21 cs r free = go (first_21 f.groups cs)
      where
        rest : Verdict
        rest = and_then (cond (eqb p.head.drift 0) Accepted (next_verdict 0 cs)) (kept_verdict P p.head.drift 0 cs)

        go : (All (HasGroups f.groups) cs × (group_verdict f.groups 0 cs ≡ Accepted))
            ⊎ FirstClause (HasGroups f.groups) (Lacks f.groups) (λ k c. refused 21 k (first_lacked f.groups c)) 0 cs (group_verdict f.groups 0 cs)
            → Meant (and_then (group_verdict f.groups 0 cs) rest)
        go (inl a) = subst (λ (v : Verdict). Meant (and_then v rest)) (sym a.1) (on_16 cs r free a.0)
        go (inr w) =
            let z : 0 + w.index ≡ w.index = omega arith in
            subst (λ (v : Verdict). Meant (and_then v rest))
            (sym (w.is ∙ ap (λ (k : ℕ). AboutRules (refused 21 k (first_lacked f.groups (get_or cs w.index top)))) z))
            (inr
            (inl (
              refl,
              record { floor_is = f; numbers = p; clauses = cs; readable = r; no_20 = free; there = w.there; first = w.bad; before = w.before },
            )))

    on_sheet : AllUnending floor f p → ConflictFree floor f p
        → Meant (and_then (rules_verdict sheet) (clauses_verdict P p.head.drift f.groups (clauses_of (read_sheet sheet))))
    unfolding rules_verdict
    on_sheet u free = go (read_sheet sheet) refl
      where
        go : (r : Read) → read_sheet sheet ≡ r → Meant (and_then (read_verdict r) (clauses_verdict P p.head.drift f.groups (clauses_of r)))
        go (reader.accepted cs) e = on_21 cs (record { files = files; moves = u; clauses = (promises sheet).sound cs e }) free
        go (reader.refused w k) e =
            let moving : Moving floor plan = record { floor_is = f; numbers = p; read = files; unending = u } in
            inl (moving, free, rules_read_lem sheet _ (sym (ap read_verdict e)))

    -- a row's refusal is about the plan
    row_refused : (c : ℕ) (a : Result (Unit {0}) MoveFault) → FirstRefused floor f p (verdict_of c a) → is_accepted (verdict_of c a) ≡ false
        → Meant (verdict_of c a)
    row_refused c (Ok u) w e = let z : ◌≡◌ {A = ℕ} 0 1 = cc in absurd (omega arith)
    row_refused c (Err Elsewhere) w e = inl (f, files.floor_read, inr (p, files, w))
    row_refused c (Err (Shut s)) w e = inl (f, files.floor_read, inr (p, files, w))

    -- narrow places, by the verdict on them
    on_conflict : AllUnending floor f p
        → Meant (and_then (conflict_verdict floor f p)
        (and_then (rules_verdict sheet) (clauses_verdict P p.head.drift f.groups (clauses_of (read_sheet sheet)))))
    on_conflict u = go (on_routes floor plan sheet f p files).forms
      where
        moving : Moving floor plan
        moving = record { floor_is = f; numbers = p; read = files; unending = u }

        rest : Verdict
        rest = and_then (rules_verdict sheet) (clauses_verdict P p.head.drift f.groups (clauses_of (read_sheet sheet)))

        go : (conflict_verdict floor f p ≡ Accepted)
            ⊎ ((c : ℕ) × (s : ℕ) × (c < f.carts) × (s < p.head.steps) × (conflict_verdict floor f p ≡ AboutPlan (refused 20 c s)))
            → Meant (and_then (conflict_verdict floor f p) rest)
        go (inl e) = subst (λ (v : Verdict). Meant (and_then v rest)) (sym e) (on_sheet u ((on_routes floor plan sheet f p files).free.0 e))
        go (inr w) =
            subst (λ (v : Verdict). Meant (and_then v rest)) (sym w.4)
            (inr (refl, record { moving = moving; earliest = ((on_routes floor plan sheet f p files).told w.0 w.1).0 w.4 }))

    on_moves : Meant (stages floor sheet f p)
    on_moves = go (is_accepted (moves_verdict floor f p)) refl
      where
        go : (b : Bool) → is_accepted (moves_verdict floor f p) ≡ b
            → Meant (cond b
            (and_then (conflict_verdict floor f p) (and_then (rules_verdict sheet) (clauses_verdict P p.head.drift f.groups (clauses_of (read_sheet sheet)))))
            (moves_verdict floor f p))
        go true e = on_conflict (all_unending floor p (valid f plan p files.plan_read_lem).head.stem f (accepted_is _ e))
        go false e =
            let q = moves_read floor plan f p files in
            let w = (promise floor plan (moves_verdict floor f p) (sym q)).first f p files e in
            let c = w.cart in
            let a = cart_answer floor c (get_or p.rows c []) p.head.steps p.head.stem in
            subst Meant w.refused
            (row_refused c a (subst (FirstRefused floor f p) (sym w.refused) w) (ap is_accepted w.refused ∙ e))

  pub meant : Bytes floor → Meant (checked floor plan sheet)
  unfolding checked after_reading
  meant fb = on_floor_lem (read_floor floor) refl
    where
      on_plan : (f : Floor) → read_floor floor ≡ Ok f → (a : PlanAnswer) → read_plan f plan ≡ a
          → Meant (after_plan told (stages floor sheet) f a)
      on_plan f e (accepted p) q = on_moves fb f p (record { floor_read = e; plan_read_lem = q })
      on_plan f e (rejected x) q = inl (f, e, inl q)

      on_floor_lem : (a : Result Floor Refusal) → read_floor floor ≡ a → Meant (after_floor told (stages floor sheet) a plan)
      on_floor_lem (Ok f) e = on_plan f e (read_plan f plan) refl
      on_floor_lem (Err x) e = e
