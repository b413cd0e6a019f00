-- A plan's numbers judged as reading their records would.
use Rattle.std.specs.Prelude.{ℕ, zero, suc, ◌+◌, ◌-◌, ◌*◌, ◌≤◌, ◌<◌, ◌≡◌, refl, Bool, true, false, not, eqb, length, take, drop, Result, Ok, Err}
use Rattle.std.proofs.Common.{arith, subst, ◌∙◌, drop_of_length-le, le-ltb, eq-eqb, eqb-true}
use Rattle.std.proofs.Math.Path.{ap, ap₂}
use Rattle.std.proofs.Math.Bool.{cond}
use mathlib.Core.List.{List, [], ◌∷◌, ◌++◌, map}
use Rattle.std.proofs.lemmas.Bool.{eqb-false}
use Rattle.refusal.specs.Codes.{at_offset}
use Rattle.refusal.specs.declared.Refusal.{Refusal}
use Rattle.record.specs.Record.{Split, records_in}
use Rattle.record.specs.Parts.{parts, of_kind, laid}
use Rattle.record.specs.Fuel.{parts_none}
use Rattle.record.specs.Laid.{PartAt, length-laid, length_whole, laid_none}
use Rattle.record.specs.Parts.{part_count}
use Rattle.record.specs.RoundTrip.{records-layout}
use Rattle.floor.specs.declared.Floor.{Floor}
use Rattle.plan.specs.Plan.{PlanNumbers, PlanAnswer, accepted, rejected, out_of_range, head_by, judged_head, row_fault, rows_end, onward, read_rows, behind_head, read_records, read_plan}
use Rattle.plan.specs.Numbers.{Narrow, judged_numbers, head_bytes, row_records, plan_records, plan_bytes}
use Rattle.plan.specs.RoundTrip.{whole, numbers_back, head_read, length_head, length_plan, plan_encodable}
use Rattle.plan.specs.declared.Head.{Head}

-- the length of a plan laid out: with no rows, with h = 0, and else
module _ (h : Head) (rows : List ℕ) where
  pub length_empty : length rows ≡ 0 → length (plan_bytes h rows) ≡ 10
  length_empty e =
      let a = ap length (ap (laid 5 h.steps) (length_zero rows e) ∙ laid_none 5 h.steps) in
      length_plan h rows ∙ omega arith
    where
      length_zero : (l : List ℕ) → length l ≡ 0 → l ≡ []
      length_zero [] e = refl
      length_zero (b ∷ l) e = absurd (omega arith)

  pub length_zero : h.steps ≡ 0 → 0 < length rows → length (plan_bytes h rows) ≡ 14 + length rows
  length_zero e p =
      let a = ap (λ (k : ℕ). length (laid 5 k rows)) e ∙ length_whole 5 rows p in
      length_plan h rows ∙ omega arith

  pub length_some : 0 < h.steps → length (plan_bytes h rows) ≡ 10 + (length rows + 4 * part_count h.steps (length rows))
  length_some p = length_plan h rows ∙ ap (λ (k : ℕ). 10 + k) (length-laid 5 h.steps rows p)

  -- it is never shorter than the rows
  pub length_over : length rows ≤ length (plan_bytes h rows)
  length_over = go (eqb h.steps 0) refl (eqb (length rows) 0) refl
    where
      go : (a : Bool) → eqb h.steps 0 ≡ a → (b : Bool) → eqb (length rows) 0 ≡ b → length rows ≤ length (plan_bytes h rows)
      go a p true q = let e : length rows ≡ 0 = eqb-true _ _ q in omega arith
      go true p false q =
          let n : (length rows ≡ 0 → ⊥) = eqb-false _ _ q in
          omega (arith, length_zero (eqb-true _ _ p) (omega arith))
      go false p false q =
          let n : (h.steps ≡ 0 → ⊥) = eqb-false _ _ p in
          omega (arith, length_some (omega arith))

-- reading it judges the head and then the rows
module _ (f : Floor) (h : Head) (rows : List ℕ) (w : Narrow h) (short : length (plan_bytes h rows) ≤ 65536) where
  laid_out : read_plan f (plan_bytes h rows) ≡ behind_head f (judged_head 4 (head_bytes h)) (row_records h rows) false
  unfolding read_plan
  laid_out =
      ap (λ (b : Bool). cond b (rejected (at_offset 1 0)) (read_records f (records_in (plan_bytes h rows)).records (records_in (plan_bytes h rows)).cut))
      (le-ltb 65536 _ short)
      ∙ ap (λ (x : Split). read_records f x.records x.cut) (records-layout (plan_records h rows) (plan_encodable h rows short))

  head_by_lem : (b : Bool) → out_of_range h ≡ b → judged_head 4 (head_bytes h) ≡ head_by (cond b 8 0) h
  unfolding judged_head
  head_by_lem b e =
      ap₂ (λ (t : Bool) (g : Head). head_by (cond (not t) 4 (cond (out_of_range g) 8 0)) g) (eq-eqb _ _ (length_head h)) (head_read h w)
      ∙ ap (λ (t : Bool). head_by (cond t 8 0) h) e

  pub wide_head : out_of_range h ≡ true → read_plan f (plan_bytes h rows) ≡ rejected (at_offset 8 0)
  wide_head e = laid_out ∙ ap (λ (a : Result Head Refusal). behind_head f a (row_records h rows) false) (head_by_lem true e)

  pub good_head : out_of_range h ≡ false → read_plan f (plan_bytes h rows) ≡ read_rows f h [] 10 (row_records h rows) false
  good_head e = laid_out ∙ ap (λ (a : Result Head Refusal). behind_head f a (row_records h rows) false) (head_by_lem false e)

-- rows laid out from byte i on, behind those done
module _ (f : Floor) (h : Head) (rows : List ℕ) where
  abbrev pub rows_on : List (List ℕ) → ℕ → ℕ → PlanAnswer
  rows_on done at i = read_rows f h done at (map (of_kind 5) (parts h.steps (drop i rows))) false

  pub rows_out : (done : List (List ℕ)) (at i : ℕ) → length rows ≤ i → rows_on done at i ≡ rows_end f h done at false
  unfolding read_rows
  rows_out done at i l =
      ap (λ (x : List (List ℕ)). read_rows f h done at (map (of_kind 5) x) false) (ap (parts h.steps) (drop_of_length-le rows l) ∙ parts_none h.steps)

  module _ (done : List (List ℕ)) (at i end : ℕ) (p : PartAt h.steps rows i end) where
    abbrev part : List ℕ
    part = take (end - i) (drop i rows)

    by : (n : ℕ) → row_fault f h (length done) 5 part ≡ n → rows_on done at i ≡ onward n at (rows_on (done ++ (part ∷ [])) (at + 4 + (end - i)) end)
    unfolding read_rows
    by n q =
        ap (λ (x : List (List ℕ)). read_rows f h done at (map (of_kind 5) x) false) p.step
        ∙ ap₂ (λ (m k : ℕ). onward m at (rows_on (done ++ (part ∷ [])) (at + 4 + k) end)) q p.size_is

    pub row_fault_lem : (n : ℕ) → row_fault f h (length done) 5 part ≡ n → (n ≡ 0 → ⊥) → rows_on done at i ≡ rejected (at_offset n at)
    row_fault_lem zero q z = absurd (z refl)
    row_fault_lem (suc n) q z = by (suc n) q

    pub row_good : row_fault f h (length done) 5 part ≡ 0 → rows_on done at i ≡ rows_on (done ++ (part ∷ [])) (at + 4 + (end - i)) end
    row_good q = by 0 q

-- numbers judged good are accepted, and such as a file can hold
pub record Writable (f : Floor) (h : Head) (rows : List ℕ) : Type 0 where
  pub numbers : PlanNumbers
  pub reads : read_plan f (plan_bytes h rows) ≡ accepted numbers
  pub short : length (plan_bytes h rows) ≤ 65536
  pub some : 0 < h.steps

pub good : (f : Floor) (h : Head) (rows : List ℕ) → Narrow h → judged_numbers (read_plan f (plan_bytes h rows)) ≡ Ok tt → Writable f h rows
good f h rows w e = go (read_plan f (plan_bytes h rows)) refl e
  where
    go : (a : PlanAnswer) → read_plan f (plan_bytes h rows) ≡ a → judged_numbers a ≡ Ok tt → Writable f h rows
    go (rejected r) q e = let z : ◌≡◌ {A = ℕ} 0 1 = cc in absurd (omega arith)
    go (accepted n) q e =
        let g = whole f (plan_bytes h rows) n q in
        let b = numbers_back f h rows n w q in
        record { numbers = n; reads = q; short = g.short; some = subst (λ (x : Head). 0 < x.steps) b.0 g.range.some }

pub refusal_of : (a : PlanAnswer) (r : Refusal) → judged_numbers a ≡ Err r → a ≡ rejected r
refusal_of (accepted n) r e = let z : ◌≡◌ {A = ℕ} 0 1 = cc in absurd (omega arith)
refusal_of (rejected x) r e = let q : x ≡ r = cc in ap rejected q
