-- Rows laid out and judged one after the other: what holds before each turn.
use Rattle.std.specs.Prelude.{Ok, Err}
use Prim.Native.Nat.{ℕ, ◌+◌, ◌-◌, ◌≤◌, ◌<◌, min}
use native.Mathlib.Omega.{arith}
use mathlib.Core.Path.{◌≡◌, refl, sym, ap, ◌∙◌}
use mathlib.Core.Bool.{false}
use mathlib.Core.List.{List, [], ◌∷◌, ◌++◌}
use lib.ListN.{length, take, drop, length-append, length-drop}
use Rattle.std.proofs.Common.{drop-drop}
use lib.Seq.{take_at, drop_at}
use borrow.Author.Tests.{lt-ltb, le-ltb}
use Rattle.refusal.specs.Codes.{at_offset}
use Rattle.record.specs.Parts.{laid}
use Rattle.record.specs.Laid.{PartAt, part_at, length_step}
use Rattle.floor.specs.declared.Floor.{Floor}
use Rattle.plan.specs.Plan.{accepted, rejected, row_fault, read_rows}
use Rattle.plan.specs.Numbers.{row_records, judged_numbers}
use Rattle.plan.specs.Judged.{rows_on, rows_out, row_fault_lem, row_good}
use Rattle.plan.specs.declared.Head.{Head}
use Rattle.plan.proofs.Faults.{judged_by, no_fault, fault_is, not_zero}

-- n rows are judged, and these bytes are left
pub record Judging (f : Floor) (h : Head) (rows : List ℕ) (n at : ℕ) (left : List ℕ) : Type 0 where
  pub from : ℕ
  pub left_is : drop from rows ≡ left
  pub within : from ≤ length rows
  pub done : List (List ℕ)
  pub count : n ≡ length done
  pub few : n ≤ at
  pub room : at + length (laid 5 h.steps left) ≤ 65536
  pub same : rows_on f h rows done at from ≡ rows_on f h rows [] 10 0

module _ (f : Floor) (h : Head) (rows : List ℕ) where
  pub begin : 10 + length (laid 5 h.steps rows) ≤ 65536 → Judging f h rows 0 10 rows
  begin r = record { from = 0; left_is = refl; within = omega arith; done = []; count = refl; few = omega arith; room = r; same = refl }

  module _ (n at : ℕ) (left : List ℕ) (w : Judging f h rows n at left) where
    length-left : length left ≡ length rows - w.from
    length-left = sym (ap length w.left_is) ∙ length-drop w.from rows

    pub all_judged : length left ≡ 0 → f.carts ≤ n → Ok tt ≡ judged_numbers (read_rows f h [] 10 (row_records h rows) false)
    all_judged l c =
        let m : f.carts ≤ length w.done = omega (arith, w.count) in
        let e : rows_on f h rows w.done at w.from ≡ accepted (record { head = h; rows = w.done }) =
        rows_out f h rows w.done at w.from (omega (arith, length-left)) ∙ simp (le-ltb _ _ m) in
        ap judged_numbers (sym e ∙ w.same)

    pub too_few : length left ≡ 0 → n < f.carts → Err (at_offset 7 at) ≡ judged_numbers (read_rows f h [] 10 (row_records h rows) false)
    too_few l c =
        let m : length w.done < f.carts = omega (arith, w.count) in
        let e : rows_on f h rows w.done at w.from ≡ rejected (at_offset 7 at) =
        rows_out f h rows w.done at w.from (omega (arith, length-left)) ∙ simp (lt-ltb _ _ m) in
        ap judged_numbers (sym e ∙ w.same)

    -- the row in front, and the bytes behind it
    module _ (row rest : List ℕ) (steps : 0 < h.steps) (e : left ≡ row ++ rest) (size : length row ≡ min h.steps (length left)) (some : 0 < length left) where
      abbrev end : ℕ
      end = w.from + length row

      there : PartAt h.steps rows w.from end
      there = part_at h.steps rows w.from end steps (omega (arith, length-left)) (omega (arith, length-left))

      row_is : take (end - w.from) (drop w.from rows) ≡ row
      row_is = ap (take (end - w.from)) (w.left_is ∙ e) ∙ take_at row rest (end - w.from) (omega arith)

      rest_is : drop end rows ≡ rest
      rest_is = sym (drop-drop (length row) w.from rows) ∙ ap (drop (length row)) (w.left_is ∙ e) ∙ drop_at row rest (length row) refl

      counted : row_fault f h (length w.done) 5 (take (end - w.from) (drop w.from rows)) ≡ row_fault f h n 5 row
      counted = ap (λ (x : ℕ). row_fault f h x 5 (take (end - w.from) (drop w.from rows))) (sym w.count) ∙ ap (row_fault f h n 5) row_is

      pub refused_row : (m : ℕ) → Err m ≡ judged_by (row_fault f h n 5 row)
          → Err (at_offset m at) ≡ judged_numbers (read_rows f h [] 10 (row_records h rows) false)
      refused_row m q =
          ap judged_numbers (sym (row_fault_lem f h rows w.done at w.from end there m (counted ∙ fault_is _ m q) (not_zero _ m q)) ∙ w.same)

      longer : length (laid 5 h.steps left) ≡ 4 + length row + length (laid 5 h.steps rest)
      longer =
          let a = length_step 5 h.steps rows w.from end there in
          let b = ap (λ (x : List ℕ). length (laid 5 h.steps x)) w.left_is in
          let c = ap (λ (x : List ℕ). length (laid 5 h.steps x)) rest_is in
          omega arith

      pub fits : at + (4 + length row) ≤ 65536
      fits = omega (arith, w.room, longer)

      far : at + (4 + length row) ≡ at + 4 + (end - w.from)
      far = omega arith

      pub again : Ok tt ≡ judged_by (row_fault f h n 5 row) → Judging f h rows (n + 1) (at + (4 + length row)) rest
      again q = record {
        from = end;
        left_is = rest_is;
        within = there.within;
        done = w.done ++ (row ∷ []);
        count = omega (arith, w.count, length-append w.done (row ∷ []));
        few = omega (arith, w.few);
        room = omega (arith, w.room, longer);
        same = ap (λ (x : List ℕ). rows_on f h rows (w.done ++ (x ∷ [])) (at + (4 + length row)) end) (sym row_is)
            ∙ ap (λ (k : ℕ). rows_on f h rows (w.done ++ (take (end - w.from) (drop w.from rows) ∷ [])) k end) far
            ∙ sym (row_good f h rows w.done at w.from end there (counted ∙ no_fault _ q)) ∙ w.same;
      }
