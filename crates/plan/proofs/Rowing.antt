-- Rows read one after the other into the block: what holds before each turn.
use Rattle.std.specs.Prelude.{Result, Ok, Err}
use Prim.Native.Nat.{ℕ, ◌+◌, ◌-◌, ◌*◌, ◌≤◌, ◌<◌}
use native.Mathlib.Omega.{arith}
use mathlib.Core.Path.{◌≡◌, refl, sym, ap, ap₂, ◌∙◌}
use mathlib.Core.List.{List, [], ◌∷◌, ◌++◌}
use lib.ListN.{length, take, drop, length-append}
use borrow.Author.Tests.{lt-ltb, le-ltb}
use Rattle.refusal.specs.Codes.{at_offset}
use Rattle.refusal.specs.declared.Refusal.{Refusal}
use Rattle.refusal.specs.declared.Refused.{Refused}
use Rattle.refusal.specs.declared.Refused.TheVariants.{Plan as RefusedPlan}
use Rattle.record.specs.Found.{found_at}
use Rattle.record.specs.Buffer.{stored}
use Rattle.record.specs.Opened.{opened}
use Rattle.record.specs.declared.Found.TheVariants.{End, Cut, Whole}
use Rattle.floor.specs.declared.Floor.{Floor}
use Rattle.plan.specs.Plan.{accepted, rejected, row_fault, zeros, block_of, plan_read}
use Rattle.plan.specs.Plan.{rows_from}
use Rattle.plan.specs.Passed.{RowPassed, row_passed}
use Rattle.plan.specs.Block.{Short, short_more, blank, length_block, row-stored}
use Rattle.plan.specs.declared.Head.{Head}
use Rattle.plan.specs.declared.PlanRead.{PlanRead}
use Rattle.plan.proofs.Faults.{judged_by, no_fault, fault_is, not_zero}
use Rattle.plan.proofs.Steps.{rows_end_lem, rows_cut, rows_fault, rows_good}

pub record Rowing (f : Floor) (h : Head) (s block : List ℕ) (n at : ℕ) : Type 0 where
  pub rows : List (List ℕ)
  pub count : n ≡ length rows
  pub few : n ≤ 32
  pub short : Short rows
  pub holds : block ≡ block_of rows
  pub within : at ≤ length s
  pub same : rows_from f h rows at s ≡ rows_from f h [] 10 s

module _ (f : Floor) (h : Head) (s : List ℕ) where
  pub begin : 10 ≤ length s → Rowing f h s (zeros 2048) 0 10
  begin l = record { rows = []; count = refl; few = omega arith; short = tt; holds = blank; within = l; same = refl }

  module _ (block : List ℕ) (n at : ℕ) (w : Rowing f h s block n at) where
    pub block_size : length block ≡ 2048
    block_size = ap length w.holds ∙ length_block w.rows w.short (omega (arith, w.count, w.few))

    -- the result is the refusal at this offset, if reading from here on comes to that
    stop : (r : Refusal) → rows_from f h w.rows at s ≡ rejected r → Err (RefusedPlan r) ≡ plan_read f (rows_from f h [] 10 s)
    stop r e = ap (plan_read f) (sym e ∙ w.same)

    pub stop_short : found_at s at ≡ End → n < f.carts → Err (RefusedPlan (at_offset 7 at)) ≡ plan_read f (rows_from f h [] 10 s)
    stop_short e l =
        let c = w.count in
        let m : length w.rows < f.carts = omega arith in
        stop (at_offset 7 at) (rows_end_lem f h w.rows s at e ∙ simp (lt-ltb _ _ m))

    pub stop_cut : found_at s at ≡ Cut → Err (RefusedPlan (at_offset 2 at)) ≡ plan_read f (rows_from f h [] 10 s)
    stop_cut e = stop (at_offset 2 at) (rows_cut f h w.rows s at e)

    -- the rows are complete
    pub done : found_at s at ≡ End → f.carts ≤ n
        → ◌≡◌ {A = Result PlanRead Refused} (Ok (record { floor = f; plan = record { head = h; carts = n; block = block } }))
        (plan_read f (rows_from f h [] 10 s))
    done e l =
        let c = w.count in
        let m : f.carts ≤ length w.rows = omega arith in
        let a : rows_from f h w.rows at s ≡ accepted (record { head = h; rows = w.rows }) = rows_end_lem f h w.rows s at e ∙ simp (le-ltb _ _ m) in
        ap₂ (λ (k : ℕ) (b : List ℕ). Ok (record { floor = f; plan = record { head = h; carts = k; block = b } })) c w.holds
        ∙ ap (plan_read f) (sym a ∙ w.same)

    module _ (k a e : ℕ) (found : found_at s at ≡ Whole k a e) where
      abbrev body : List ℕ
      body = take (e - a) (drop a s)

      counted : row_fault f h (length w.rows) k body ≡ row_fault f h n k body
      counted = ap (λ (x : ℕ). row_fault f h x k body) (sym w.count)

      pub stop_fault : (m : ℕ) → Err m ≡ judged_by (row_fault f h n k body) → Err (RefusedPlan (at_offset m at)) ≡ plan_read f (rows_from f h [] 10 s)
      stop_fault m q = stop (at_offset m at) (rows_fault f h w.rows s at k a e found m (counted ∙ fault_is _ m q) (not_zero _ m q))

      module _ (q : Ok tt ≡ judged_by (row_fault f h n k body)) (steps : h.steps ≤ 64) (slots : f.carts ≤ 32) where
        pub passes : RowPassed f h n k body
        passes = row_passed f h n k body (no_fault _ q)

        pub fits : n * 64 + length body ≤ length block
        fits =
            let p = passes in
            omega (arith, block_size, p.size, p.room, slots)

        pub again : (block' : List ℕ) → block' ≡ stored block (n * 64) body → Rowing f h s block' (n + 1) e
        again block' r =
            let p = passes in
            let o = opened s at k a e found in
            let l : length body ≤ 64 = omega (arith, p.size) in
            record {
              rows = w.rows ++ (body ∷ []);
              count = omega (arith, w.count, length-append w.rows (body ∷ []));
              few = omega (arith, p.room, slots);
              short = short_more w.rows body w.short l;
              holds = r ∙ ap₂ (λ (x : List ℕ) (y : ℕ). stored x (y * 64) body) w.holds w.count
                  ∙ row-stored w.rows body w.short l (omega (arith, p.room, slots, w.count));
              within = o.within;
              same = sym (rows_good f h w.rows s at k a e found (counted ∙ no_fault _ q)) ∙ w.same;
            }
