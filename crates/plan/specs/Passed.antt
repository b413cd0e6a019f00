-- A head and a row that are not refused passed every test.
use Rattle.std.specs.Prelude.{ℕ, zero, suc, ◌+◌, ◌<◌, ◌≡◌, refl, Bool, true, false, cond, not, List, [], ◌∷◌, eqb, leb, ltb, length, get_or, Result, Ok, Err}
use Rattle.std.proofs.Common.{arith, sym, subst, eqb-true, leb-false, ltb-false}
use Rattle.std.proofs.lemmas.Bool.{eqb-false}
use Rattle.refusal.specs.Codes.{at_offset}
use Rattle.refusal.specs.Faults.{none_holds, no_fault, not-not, either_false}
use Rattle.record.specs.All.{AllOf, all_of}
use Rattle.floor.specs.declared.Floor.{Floor}
use Rattle.plan.specs.Plan.{PlanNumbers, head_from, out_of_range, head_fault, judged_head, judged_places, judged_row, row_number, row_fault}
use Rattle.plan.specs.Valid.{HeadInRange, ValidPlan}
pub use Rattle.plan.specs.Valid.{RowFits}
use Rattle.plan.specs.declared.Head.{Head}
use Rattle.plan.specs.declared.RowFault.TheVariants.{Absent, WrongLength}
use Rattle.plan.specs.declared.RowFault.{RowFault}

pub in_range : (h : Head) → out_of_range h ≡ false → HeadInRange h
in_range h e =
    let a = either_false (eqb h.steps 0) _ e in
    let b = either_false (ltb 64 h.steps) _ a.1 in
    let c = either_false (leb h.steps h.stem) _ b.1 in
    let n : (h.steps ≡ 0 → ⊥) = eqb-false _ _ a.0 in
    record { some = omega arith; steps = ltb-false _ _ b.0; stem = leb-false _ _ c.0; drift = ltb-false _ _ c.1 }

pub record HeadPassed (kind : ℕ) (body : List ℕ) (h : Head) : Type 0 where
  pub kind_is : kind ≡ 4
  pub size : length body ≡ 6
  pub range : HeadInRange h
  pub is : h ≡ head_from body

refused_apart : (h : Head) (n : ℕ) → Err (at_offset n 0) ≡ Ok h → ⊥
refused_apart h n e = let z : ◌≡◌ {A = ℕ} 0 1 = cc in omega arith

pub head_passed : (kind : ℕ) (body : List ℕ) (h : Head) → judged_head kind body ≡ Ok h → HeadPassed kind body h
unfolding judged_head
head_passed kind body h e =
    let j = no_fault (head_fault kind body) (Ok (head_from body)) (λ n. Err (at_offset n 0)) (Ok h) (refused_apart h) e in
    let good : Ok (head_from body) ≡ Ok h = j.1 in
    let is : h ≡ head_from body = cc in
    let a = none_holds (not (eqb kind 4)) 2 _ j.0 in
    let b = none_holds (not (eqb (length body) 6)) 3 _ a.1 in
    let c = none_holds (out_of_range (head_from body)) 7 _ b.1 in
    record {
      kind_is = eqb-true _ _ (not-not _ a.0);
      size = eqb-true _ _ (not-not _ b.0);
      range = subst HeadInRange (sym is) (in_range (head_from body) c.0);
      is = is;
    }

pub record RowPassed (f : Floor) (h : Head) (n kind : ℕ) (body : List ℕ) : Type 0 where
  pub kind_is : kind ≡ 5
  pub size : length body ≡ h.steps
  pub room : n < f.carts
  pub there : judged_places f.places 0 body ≡ Ok tt

-- places alone never tell a wrong length
never_length : (places i : ℕ) (row : List ℕ) → judged_places places i row ≡ Err WrongLength → ⊥
unfolding judged_places
never_length places i [] e = let z : ◌≡◌ {A = ℕ} 0 1 = cc in omega arith
never_length places i (p ∷ row) e = go (leb places p) (never_length places (suc i) row) e
  where
    go : (b : Bool) → (judged_places places (suc i) row ≡ Err WrongLength → ⊥) → cond b (Err (Absent i)) (judged_places places (suc i) row) ≡ Err WrongLength → ⊥
    go true f e = let z : ◌≡◌ {A = ℕ} 0 1 = cc in omega arith
    go false f e = f e

-- an answer that is neither 4 nor 9
fits : (body : List ℕ) (steps places : ℕ) → eqb (row_number (judged_row body steps places)) 4 ≡ false
    → eqb (row_number (judged_row body steps places)) 9 ≡ false
    → (length body ≡ steps) × (judged_places places 0 body ≡ Ok tt)
unfolding judged_row
fits body steps places p q = go (eqb (length body) steps) refl (judged_places places 0 body) refl p q
  where
    go : (b : Bool) → eqb (length body) steps ≡ b → (a : Result (Unit {0}) RowFault) → judged_places places 0 body ≡ a
        → eqb (row_number (cond b a (Err WrongLength))) 4 ≡ false → eqb (row_number (cond b a (Err WrongLength))) 9 ≡ false → (length body ≡ steps) × (a ≡ Ok tt)
    go false e a r p q = let z : ◌≡◌ {A = ℕ} 0 1 = cc in absurd (omega arith)
    go true e (Ok tt) r p q = (eqb-true _ _ e, refl)
    go true e (Err WrongLength) r p q = absurd (never_length places 0 body r)
    go true e (Err (Absent i)) r p q = let z : ◌≡◌ {A = ℕ} 0 1 = cc in absurd (omega arith)

pub row_passed : (f : Floor) (h : Head) (n kind : ℕ) (body : List ℕ) → row_fault f h n kind body ≡ 0 → RowPassed f h n kind body
row_passed f h n kind body e =
    let j = judged_row body h.steps f.places in
    let a = none_holds (not (eqb kind 5)) 2 _ e in
    let b = none_holds (eqb (row_number j) 4) 3 _ a.1 in
    let c = none_holds (leb f.carts n) 4 _ b.1 in
    let d = none_holds (eqb (row_number j) 9) 8 _ c.1 in
    let g = fits body h.steps f.places b.0 d.0 in
    record { kind_is = eqb-true _ _ (not-not _ a.0); size = g.0; room = leb-false _ _ c.0; there = g.1 }

-- a row whose places are all on the floor
pub all_on_floor : (places i : ℕ) (row : List ℕ) → judged_places places i row ≡ Ok tt → (s : ℕ) → s < length row → get_or row s 0 < places
unfolding judged_places
all_on_floor places i [] e s l = absurd (omega arith)
all_on_floor places i (p ∷ row) e s l = go (leb places p) refl (all_on_floor places (suc i) row) e s l
  where
    go : (b : Bool) → leb places p ≡ b → (judged_places places (suc i) row ≡ Ok tt → (s : ℕ) → s < length row → get_or row s 0 < places)
        → cond b (Err (Absent i)) (judged_places places (suc i) row) ≡ Ok tt → (s : ℕ) → s < suc (length row) → get_or (p ∷ row) s 0 < places
    go true q f e s l = let z : ◌≡◌ {A = ℕ} 0 1 = cc in absurd (omega arith)
    go false q f e zero l = leb-false _ _ q
    go false q f e (suc s) l = f e s (omega arith)

-- the rows of a valid plan have its steps
pub row_sizes : (n : PlanNumbers) (f : Floor) → ValidPlan n f → AllOf n.head.steps n.rows
row_sizes n f v = all_of (λ (x : List ℕ). length x ≡ n.head.steps) [] n.rows (λ i l. v.steps i (omega (arith, v.carts)))

pub row_fits : (steps places : ℕ) (row : List ℕ) → judged_row row steps places ≡ Ok tt → RowFits steps places row
unfolding judged_row
row_fits steps places row e = go (eqb (length row) steps) refl e
  where
    go : (b : Bool) → eqb (length row) steps ≡ b → cond b (judged_places places 0 row) (Err WrongLength) ≡ Ok tt → RowFits steps places row
    go true q e = record { size = eqb-true _ _ q; there = all_on_floor places 0 row e }
    go false q e = let z : ◌≡◌ {A = ℕ} 0 1 = cc in absurd (omega arith)

-- a step whose place is absent is a step of the row
absent_in : (places i : ℕ) (row : List ℕ) (s : ℕ) → judged_places places i row ≡ Err (Absent s) → s < i + length row
unfolding judged_places
absent_in places i [] s e = let z : ◌≡◌ {A = ℕ} 0 1 = cc in absurd (omega arith)
absent_in places i (p ∷ row) s e = go (leb places p) (absent_in places (suc i) row s) e
  where
    go : (b : Bool) → (judged_places places (suc i) row ≡ Err (Absent s) → s < suc i + length row)
        → cond b (Err (Absent i)) (judged_places places (suc i) row) ≡ Err (Absent s) → s < i + suc (length row)
    go true f e = let z : i ≡ s = cc in omega arith
    go false f e = omega (arith, f e)

pub absent_below : (steps places : ℕ) (row : List ℕ) (s : ℕ) → judged_row row steps places ≡ Err (Absent s) → s < steps
unfolding judged_row
absent_below steps places row s e = go (eqb (length row) steps) refl e
  where
    go : (b : Bool) → eqb (length row) steps ≡ b → cond b (judged_places places 0 row) (Err WrongLength) ≡ Err (Absent s) → s < steps
    go true q e = let n : length row ≡ steps = eqb-true _ _ q in omega (arith, absent_in places 0 row s e)
    go false q e = let z : ◌≡◌ {A = ℕ} 0 1 = cc in absurd (omega arith)
