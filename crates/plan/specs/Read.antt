-- Behind reading: the refusal that it gave, or the numbers that the accepted plan holds.
use Rattle.std.specs.Prelude.{ℕ, zero, suc, ◌+◌, ◌-◌, ◌*◌, ◌≤◌, ◌<◌, List, [], ◌∷◌, ◌++◌, length, take, drop, get_or, Result, Ok, Err}
use Rattle.std.proofs.Common.{arith, sym, ap₂, subst, ◌∙◌, length-drop, drop-drop, length-take-le, ext_get_or}
use Rattle.std.proofs.Math.Path.{◌≡◌, refl, ap}
use Rattle.refusal.specs.declared.Refusal.{Refusal}
use Rattle.refusal.specs.declared.Refused.{Refused}
use Rattle.refusal.specs.declared.Refused.TheVariants.{Floor as RefusedFloor, Plan as RefusedPlan}
use Rattle.floor.specs.Floor.{read_floor}
use Rattle.floor.specs.declared.Floor.{Floor}
use Rattle.plan.specs.Plan.{PlanNumbers, PlanAnswer, accepted, rejected, read_plan, block_rows, held_numbers, after_plan, after_floor, plan_read, on_floor, read_both}
use Rattle.plan.specs.After.{after_reading, ReadAs}
use Rattle.plan.specs.Promises.{AcceptedPlan, PlanReads}
use Rattle.plan.specs.Valid.{HeadInRange}
use Rattle.plan.specs.Passed.{row_sizes}
use Rattle.plan.specs.Block.{length_block, short_all}
use Rattle.plan.specs.declared.Head.{Head}
use Rattle.plan.specs.declared.Plan.{Plan}
use Rattle.plan.specs.declared.PlanRead.{PlanRead}

-- row c of the block
pub row_in : (n steps : ℕ) (block : List ℕ) (c : ℕ) → c < n → get_or (block_rows n steps block) c [] ≡ take steps (drop (64 * c) block)
unfolding block_rows
row_in zero steps block c l = absurd (omega arith)
row_in (suc n) steps block zero l = refl
row_in (suc n) steps block (suc c) l =
    let e : 64 + 64 * c ≡ 64 * suc c = omega arith in
    row_in n steps (drop 64 block) c (omega arith) ∙ ap (take steps) (drop-drop (64 * c) 64 block ∙ ap (λ (k : ℕ). drop k block) e)

pub length_rows_in : (n steps : ℕ) (block : List ℕ) → length (block_rows n steps block) ≡ n
unfolding block_rows
length_rows_in zero steps block = refl
length_rows_in (suc n) steps block = ap suc (length_rows_in n steps (drop 64 block))

-- one row more
pub rows_in_more : (n steps : ℕ) (block : List ℕ) → block_rows (suc n) steps block ≡ block_rows n steps block ++ (take steps (drop (64 * n) block) ∷ [])
unfolding block_rows
rows_in_more zero steps block = refl
rows_in_more (suc n) steps block =
    let e : 64 + 64 * n ≡ 64 * suc n = omega arith in
    ap (λ (x : List (List ℕ)). take steps block ∷ x)
    (rows_in_more n steps (drop 64 block)
    ∙ ap (λ (x : List ℕ). block_rows n steps (drop 64 block) ++ (take steps x ∷ [])) (drop-drop (64 * n) 64 block ∙ ap (λ (k : ℕ). drop k block) e))

-- the part of the block that is handed on as cart c's row
abbrev pub block_part : ℕ → List ℕ → ℕ → List ℕ
block_part steps block c = take (c * 64 + steps - c * 64) (drop (c * 64) block)

module _ (steps : ℕ) (block : List ℕ) (c : ℕ) where
  pub part_is : block_part steps block c ≡ take steps (drop (64 * c) block)
  part_is =
      let a : c * 64 + steps - c * 64 ≡ steps = omega arith in
      let b : c * 64 ≡ 64 * c = omega arith in
      ap₂ (λ (n m : ℕ). take n (drop m block)) a b

  pub part_length : c < 32 → steps ≤ 64 → length block ≡ 2048 → length (block_part steps block c) ≡ steps
  part_length l fits size = ap length part_is ∙ length-take-le steps (drop (64 * c) block) (omega (arith, length-drop (64 * c) block))

-- an accepted plan holds the numbers of its file
module _ (floor s : List ℕ) (r : PlanRead) (w : AcceptedPlan floor s r) where
  pub held_head : r.plan.head ≡ w.numbers.head
  held_head = ap (λ (p : Plan). p.head) w.held

  pub held_numbers_lem : held_numbers r.floor.carts r.plan.head r.plan.block ≡ w.numbers
  held_numbers_lem =
      let n = w.numbers in
      let c = r.floor.carts in
      let rows : block_rows c n.head.steps r.plan.block ≡ n.rows =
      ext_get_or [] _ n.rows (length_rows_in c n.head.steps r.plan.block ∙ sym w.valid.carts)
      (λ i l. let m : i < c = omega (arith, length_rows_in c n.head.steps r.plan.block) in row_in c n.head.steps r.plan.block i m ∙ w.row i m) in
      ap (λ (h : Head). held_numbers c h r.plan.block) held_head ∙ ap (λ (x : List (List ℕ)). record { head = n.head; rows = x }) rows

  pub held_range : HeadInRange r.plan.head
  held_range = subst HeadInRange (sym held_head) w.valid.head

  pub held_length : r.floor.carts ≤ 32 → length r.plan.block ≡ 2048
  held_length few =
      let n = w.numbers in
      let v = w.valid in
      ap (λ (p : Plan). length p.block) w.held
      ∙ length_block n.rows (short_all n.head.steps n.rows v.head.steps (row_sizes n r.floor v)) (omega (arith, v.carts))

pub accepts_if : (floor s : List ℕ) (r : Result PlanRead Refused) → PlanReads floor s r → (x : PlanRead) → r ≡ Ok x → AcceptedPlan floor s x
accepts_if floor s r w x e = w.accepted x e

module _ {A : Type 0} (refuse : Refused → A) (go : Floor → PlanNumbers → A) (floor s : List ℕ) where
  pub read_on_lem : (f : Floor) (n : PlanNumbers) → ReadAs floor s f n → after_reading refuse go floor s ≡ go f n
  unfolding after_reading
  read_on_lem f n w = ap (λ (a : Result Floor Refusal). after_floor refuse go a s) w.floor_read ∙ ap (after_plan refuse go f) w.plan_read_lem

  -- how it goes: refused, or on with what was read
  pub data ReadingCases : Type 0 where
    floor_refused : (x : Refusal) → after_reading refuse go floor s ≡ refuse (RefusedFloor x) → ReadingCases
    plan_refused : (x : Refusal) → after_reading refuse go floor s ≡ refuse (RefusedPlan x) → ReadingCases
    both_read : (f : Floor) (n : PlanNumbers) → ReadAs floor s f n → after_reading refuse go floor s ≡ go f n → ReadingCases

  pub reading_cases : ReadingCases
  unfolding after_reading
  reading_cases = on_floor_lem (read_floor floor) refl
    where
      on_plan : (f : Floor) → read_floor floor ≡ Ok f → (a : PlanAnswer) → read_plan f s ≡ a → ReadingCases
      on_plan f p (accepted n) q = let w : ReadAs floor s f n = record { floor_read = p; plan_read_lem = q } in both_read f n w (read_on_lem f n w)
      on_plan f p (rejected x) q = plan_refused x (ap (λ (a : Result Floor Refusal). after_floor refuse go a s) p ∙ ap (after_plan refuse go f) q)

      on_floor_lem : (a : Result Floor Refusal) → read_floor floor ≡ a → ReadingCases
      on_floor_lem (Ok f) p = on_plan f p (read_plan f s) refl
      on_floor_lem (Err x) p = floor_refused x (ap (λ (a : Result Floor Refusal). after_floor refuse go a s) p)

  -- accepted: on with its numbers
  module _ (r : PlanRead) where
    pub after_accepted : (w : AcceptedPlan floor s r) → after_reading refuse go floor s ≡ go r.floor w.numbers
    after_accepted w = read_on_lem r.floor w.numbers (record { floor_read = w.floor_read; plan_read_lem = w.plan_read_lem })

  -- refused: as reading is
  pub after_refused : (r : Refused) → Err r ≡ read_both floor s → after_reading refuse go floor s ≡ refuse r
  unfolding after_reading read_both
  after_refused r e = on_floor_lem (read_floor floor) e
    where
      on_plan : (f : Floor) (a : PlanAnswer) → Err r ≡ plan_read f a → after_plan refuse go f a ≡ refuse r
      on_plan f (accepted n) e = let z : ◌≡◌ {A = ℕ} 0 1 = cc in absurd (omega arith)
      on_plan f (rejected x) e = let q : RefusedPlan x ≡ r = cc in ap refuse q

      on_floor_lem : (a : Result Floor Refusal) → Err r ≡ on_floor a s → after_floor refuse go a s ≡ refuse r
      on_floor_lem (Ok f) e = on_plan f (read_plan f s) e
      on_floor_lem (Err x) e = let q : RefusedFloor x ≡ r = cc in ap refuse q
