-- A refusal of a plan has one of the numbers that document 01 lists.
use Rattle.std.specs.Prelude.{ℕ, ◌+◌, ◌≡◌, Bool, true, false, cond, not, List, [], ◌∷◌, ◌++◌, eqb, leb, ltb, length, Result, Ok, Err}
use Rattle.std.proofs.Common.{sym, subst}
use Rattle.std.proofs.Math.Path.{refl}
use Rattle.refusal.specs.Codes.{at_offset}
use Rattle.refusal.specs.Given.{OneOf, Refusals, Given, floor_numbers, plan_numbers, reading_plan, writing_plan}
use Rattle.refusal.specs.Numbered.{all_among, one_among, one_of_more, by_number}
use Rattle.refusal.specs.Held.{given_written}
use Rattle.refusal.specs.declared.Refusal.{Refusal}
use Rattle.refusal.specs.Results.{told, checked}
use Rattle.refusal.specs.declared.Refused.{Refused}
use Rattle.refusal.specs.declared.Refused.TheVariants.{Floor as RefusedFloor, Plan as RefusedPlan}
use Rattle.refusal.specs.declared.Verdict.{Verdict}
use Rattle.refusal.specs.declared.Verdict.TheVariants.{Plan as AboutPlan}
use Rattle.record.specs.Record.{Record, records_in}
use Rattle.floor.specs.Floor.{read_floor}
use Rattle.floor.specs.Refusing.{refused_number as floor-number}
use Rattle.floor.specs.declared.Floor.{Floor}
use Rattle.plan.specs.Plan.{PlanNumbers, PlanAnswer, accepted, rejected, head_from, out_of_range, judged_head, first_head, judged_row, row_number, read_rows, behind_head, after_first, read_records, read_plan, after_plan, after_floor, accepted_read, read_both}
use Rattle.plan.specs.After.{after_reading, ReadAs}
use Rattle.plan.specs.Numbers.{plan_bytes, by_reading, by_floor, write_plan}
use Rattle.plan.specs.declared.Head.{Head}

abbrev HeadListed : Result Head Refusal → Type 0
HeadListed (Ok h) = Unit {0}
HeadListed (Err r) = OneOf plan_numbers r.number

abbrev Listed : PlanAnswer → Type 0
Listed (accepted n) = Unit {0}
Listed (rejected r) = OneOf plan_numbers r.number

-- the first record: 3, 4 or 8
judged_listed : (kind : ℕ) (body : List ℕ) → HeadListed (judged_head kind body)
unfolding judged_head
judged_listed kind body =
    let tests : List (Bool × ℕ) = (not (eqb kind 4), 3) ∷ (not (eqb (length body) 6), 4) ∷ (out_of_range (head_from body), 8) ∷ [] in
    by_number HeadListed tests (Ok (head_from body)) (λ n. Err (at_offset n 0)) tt (λ n h. one_of_more (3 ∷ 4 ∷ 8 ∷ []) plan_numbers n refl h)

head_listed : (rs : List Record) (cut : Bool) → HeadListed (first_head rs cut)
head_listed [] true = one_among plan_numbers 2 refl
head_listed [] false = one_among plan_numbers 7 refl
head_listed (r ∷ rs) cut = judged_listed r.kind r.body

-- a row: 3, 4, 5 or 9; and the end: 2 or 7
rows_listed : (f : Floor) (h : Head) (rs : List Record) (done : List (List ℕ)) (at : ℕ) (cut : Bool) → Listed (read_rows f h done at rs cut)
unfolding read_rows
rows_listed f h [] done at true = one_among plan_numbers 2 refl
rows_listed f h [] done at false = go (ltb (length done) f.carts)
  where
    go : (b : Bool) → Listed (cond b (rejected (at_offset 7 at)) (accepted (record { head = h; rows = done })))
    go true = one_among plan_numbers 7 refl
    go false = tt
rows_listed f h (r ∷ rs) done at cut =
    let a = row_number (judged_row r.body h.steps f.places) in
    let tests : List (Bool × ℕ) = (not (eqb r.kind 5), 3) ∷ (eqb a 4, 4) ∷ (leb f.carts (length done), 5) ∷ (eqb a 9, 9) ∷ [] in
    by_number Listed tests (read_rows f h (done ++ (r.body ∷ [])) (at + 4 + length r.body) rs cut) (λ n. rejected (at_offset n at))
    (rows_listed f h rs (done ++ (r.body ∷ [])) (at + 4 + length r.body) cut) (λ n h. one_of_more (3 ∷ 4 ∷ 5 ∷ 9 ∷ []) plan_numbers n refl h)

-- before all else 1
listed : (f : Floor) (s : List ℕ) → Listed (read_plan f s)
unfolding read_plan
listed f s =
    long (ltb 65536 (length s)) (behind (first_head (records_in s).records (records_in s).cut) (head_listed (records_in s).records (records_in s).cut)
    (λ h. rows_listed f h (after_first (records_in s).records) [] 10 (records_in s).cut))
  where
    behind : (a : Result Head Refusal) → HeadListed a → ((h : Head) → Listed (read_rows f h [] 10 (after_first (records_in s).records) (records_in s).cut))
        → Listed (behind_head f a (after_first (records_in s).records) (records_in s).cut)
    behind (Ok h) l next = next h
    behind (Err r) l next = l

    long : (b : Bool) → Listed (read_records f (records_in s).records (records_in s).cut)
        → Listed (cond b (rejected (at_offset 1 0)) (read_records f (records_in s).records (records_in s).cut))
    long true l = one_among plan_numbers 1 refl
    long false l = l

pub refused_number : (f : Floor) (s : List ℕ) (r : Refusal) → read_plan f s ≡ rejected r → OneOf plan_numbers r.number
refused_number f s r e = subst Listed e (listed f s)

-- whatever follows reading gives the floor's and the plan's refusals as its own, and what it gives once both are read
module _ (t : Refusals) (floors : all_among t.floor floor_numbers ≡ true) (plans : all_among t.plan plan_numbers ≡ true)
    {A : Type 0} (answer : A → Verdict) (refuse : Refused → A) (says : (e : Refused) → answer (refuse e) ≡ told e)
    (go : Floor → PlanNumbers → A) (floor s : List ℕ) where
  from_floor : (r : Refusal) → read_floor floor ≡ Err r → Given t (answer (refuse (RefusedFloor r)))
  from_floor r p = subst (Given t) (sym (says (RefusedFloor r))) (one_of_more floor_numbers t.floor r.number floors (floor-number floor r p))

  from_plan : (f : Floor) (r : Refusal) → read_plan f s ≡ rejected r → Given t (answer (refuse (RefusedPlan r)))
  from_plan f r q = subst (Given t) (sym (says (RefusedPlan r))) (one_of_more plan_numbers t.plan r.number plans (refused_number f s r q))

  pub given_after : ((f : Floor) (n : PlanNumbers) → ReadAs floor s f n → Given t (answer (go f n))) → Given t (answer (after_reading refuse go floor s))
  unfolding after_reading
  given_after g = on_floor_lem (read_floor floor) refl
    where
      on_plan : (f : Floor) → read_floor floor ≡ Ok f → (a : PlanAnswer) → read_plan f s ≡ a → Given t (answer (after_plan refuse go f a))
      on_plan f p (accepted n) q = g f n (record { floor_read = p; plan_read_lem = q })
      on_plan f p (rejected r) q = from_plan f r q

      on_floor_lem : (a : Result Floor Refusal) → read_floor floor ≡ a → Given t (answer (after_floor refuse go a s))
      on_floor_lem (Ok f) p = on_plan f p (read_plan f s) refl
      on_floor_lem (Err r) p = from_floor r p

-- reading
pub reading_given : (floor s : List ℕ) → Given reading_plan (checked (read_both floor s))
unfolding after_reading read_both
reading_given floor s = given_after reading_plan refl refl checked Err (λ e. refl) accepted_read floor s (λ f n w. refl)

-- writing: reading's refusals, or 18
pub writing_given : (floor : List ℕ) (h : Head) (rows before : List ℕ) → Given writing_plan (write_plan floor h rows before).answer
unfolding write_plan
writing_given floor h rows before = on_floor_lem (read_floor floor) refl
  where
    on_plan : (f : Floor) (a : PlanAnswer) → read_plan f (plan_bytes h rows) ≡ a → Given writing_plan (by_reading a (plan_bytes h rows) before).answer
    on_plan f (accepted n) q = given_written writing_plan AboutPlan (plan_bytes h rows) before refl (one_among writing_plan.plan 18 refl)
    on_plan f (rejected r) q = one_of_more plan_numbers writing_plan.plan r.number refl (refused_number f (plan_bytes h rows) r q)

    on_floor_lem : (a : Result Floor Refusal) → read_floor floor ≡ a → Given writing_plan (by_floor a h rows before).answer
    on_floor_lem (Ok f) p = on_plan f (read_plan f (plan_bytes h rows)) refl
    on_floor_lem (Err r) p = one_of_more floor_numbers writing_plan.floor r.number refl (floor-number floor r p)
