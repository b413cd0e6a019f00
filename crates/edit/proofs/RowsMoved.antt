-- Rows moved on, stored one behind the other: what holds before each turn.
use Prim.Native.Nat.{ℕ, suc, ◌+◌, ◌-◌, ◌*◌, ◌%◌, ◌≤◌, ◌<◌}
use native.Mathlib.Nat.{mod-lt, suc-mul, mul-le-mul}
use native.Mathlib.Omega.{arith}
use mathlib.Core.Path.{◌≡◌, refl, sym, ap, ap₂, subst, ◌∙◌}
use mathlib.Core.List.{List, [], ◌∷◌, ◌++◌, map, flatten, append-nil, append_assoc}
use lib.ListN.{length, take, drop, replicate, length-append, length-drop, length-map}
use lib.Seq.{take_all, take_at, length-take-le}
use Rattle.record.specs.Buffer.{stored}
use Rattle.record.specs.Stored.{stored_front, stored_more, length-stored, stored_nothing}
use Rattle.record.specs.All.{AllOf, all_of}
use Rattle.plan.specs.Numbers.{plan_bytes, plan_file}
use Rattle.plan.specs.Plan.{block_rows, held_numbers}
use Rattle.plan.specs.Complete.{file_short}
use Rattle.plan.specs.Valid.{HeadInRange}
use Rattle.plan.specs.Read.{row_in, length_rows_in, rows_in_more, block_part, part_is, part_length}
use Rattle.plan.specs.declared.Head.{Head}
use Rattle.edit.specs.Moved.{turned, moved_row, moved_head, moved}
use Rattle.edit.proofs.Later.{row_early, row_late, row-length}
use Rattle.edit.proofs.MovedReads.{head_moved, row_of}

-- what is left of a list from i on
pub rest : (l : List ℕ) (i : ℕ) → take (length l - i) (drop i l) ≡ drop i l
rest l i = take_all (length l - i) (drop i l) (omega (arith, length-drop i l))

-- both parts of a turned lap stored
pub turned-stored : (lap out : List ℕ) (k at : ℕ) → at + length lap ≤ length out
    → stored (stored out at (take (length lap - k) (drop k lap))) (at + (length lap - k)) (take k lap) ≡ stored out at (turned k lap)
turned-stored lap out k at room =
    ap (λ (x : List ℕ). stored (stored out at x) (at + (length lap - k)) (take k lap)) (rest lap k)
    ∙ ap (λ (n : ℕ). stored (stored out at (drop k lap)) (at + n) (take k lap)) (sym (length-drop k lap))
    ∙ stored_more out at (drop k lap) (take k lap) (omega (arith, length-drop k lap))

-- the lap's length, and a turn within it
pub lap_length : (row : List ℕ) (l : ℕ) → length (take (length row - l) (drop l row)) ≡ length row - l
lap_length row l = ap length (rest row l) ∙ length-drop l row

pub turn_below : (row : List ℕ) (l n : ℕ) → l < length row → n % (length row - l) < length (take (length row - l) (drop l row))
turn_below row l n p = omega (arith, lap_length row l, mod-lt n {m = length row - l} (omega arith))

module _ (row : List ℕ) (l s : ℕ) where
  -- the part that is copied, or the lap that is turned
  pub early : s ≤ l → take (length row - s) (drop s row) ≡ moved_row (length row) l s row
  early p = rest row s ∙ sym (row_early (length row) l s row p)

  pub late : l < s → turned ((s - l) % (length row - l)) (take (length row - l) (drop l row)) ≡ moved_row (length row) l s row
  late p = ap (turned ((s - l) % (length row - l))) (rest row l) ∙ sym (row_late (length row) l s row p)

flatten_more : (xs : List (List ℕ)) (x : List ℕ) → flatten (xs ++ (x ∷ [])) ≡ flatten xs ++ x
unfolding flatten
flatten_more [] x = append-nil x
flatten_more (y ∷ xs) x = ap (λ (z : List ℕ). y ++ z) (flatten_more xs x) ∙ sym (append_assoc y (flatten xs) x)

map_more : (f : List ℕ → List ℕ) (xs : List (List ℕ)) (x : List ℕ) → map f (xs ++ (x ∷ [])) ≡ map f xs ++ (f x ∷ [])
map_more f [] x = refl
map_more f (y ∷ xs) x = ap (λ (z : List (List ℕ)). f y ∷ z) (map_more f xs x)

module _ (h : Head) (s : ℕ) (block : List ℕ) where
  -- the first c rows, moved on
  abbrev pub moved_in : ℕ → List ℕ
  moved_in c = flatten (map (moved_row h.steps h.stem s) (block_rows c h.steps block))

  abbrev pub part : ℕ → List ℕ
  part c = block_part h.steps block c

  -- the rows so far are stored from the buffer's start on
  pub record Moving (size : ℕ) (rows : List ℕ) (c : ℕ) : Type 0 where
    pub is : rows ≡ stored (replicate 2048 0) 0 (moved_in c)
    pub filled : length (moved_in c) ≡ c * size

  pub begun : (size : ℕ) → Moving size (replicate 2048 0) 0
  unfolding flatten block_rows
  begun size = record { is = sym (stored_nothing (replicate 2048 0) 0); filled = omega arith }

  module _ (r : HeadInRange h) (long : length block ≡ 2048) (c size : ℕ) (low : c < 32) (e : size ≡ (moved_head s h).steps) where
    pub one_row : length (moved_row (length (part c)) h.stem s (part c)) ≡ size
    one_row =
        let n = part_length h.steps block c low r.steps long in
        ap (λ (k : ℕ). length (moved_row k h.stem s (part c))) n ∙ row-length s h r.stem (part c) n ∙ sym e

    more : moved_in (suc c) ≡ moved_in c ++ moved_row h.steps h.stem s (part c)
    more =
        ap (λ (x : List (List ℕ)). flatten (map (moved_row h.steps h.stem s) x))
        (rows_in_more c h.steps block ∙ ap (λ (x : List ℕ). block_rows c h.steps block ++ (x ∷ [])) (sym (part_is h.steps block c)))
        ∙ ap flatten (map_more (moved_row h.steps h.stem s) (block_rows c h.steps block) (part c)) ∙ flatten_more _ _

    -- there is room for the row
    pub room : c * size + size ≤ 2048
    room =
        let few : size ≤ 64 = omega (arith, (head_moved s h r).steps) in
        let all : suc c * size ≤ 32 * 64 = mul-le-mul {n₁ = suc c} {n₂ = 32} (omega arith) few in
        omega (arith, suc-mul c size)

    module _ (rows : List ℕ) (w : Moving size rows c) where
      pub length-rows : length rows ≡ 2048
      length-rows = ap length w.is ∙ length-stored (replicate 2048 0) 0 (moved_in c) (omega (arith, w.filled, room))

      pub onward : Moving size (stored rows (c * size) (moved_row (length (part c)) h.stem s (part c))) (c + 1)
      onward =
          let row : List ℕ = moved_row h.steps h.stem s (part c) in
          let n = part_length h.steps block c low r.steps long in
          let plus : suc c ≡ c + 1 = omega arith in
          let at : c * size ≡ 0 + length (moved_in c) = omega (arith, w.filled) in
          subst (Moving size _) plus (record {
            is =
                ap (λ (k : ℕ). stored rows (c * size) (moved_row k h.stem s (part c))) n
                ∙ ap₂ (λ (x : List ℕ) (k : ℕ). stored x k row) w.is at
                ∙ stored_more (replicate 2048 0) 0 (moved_in c) row (omega (arith, w.filled, room)) ∙ ap (stored (replicate 2048 0) 0) (sym more);
            filled = ap length more ∙ length-append (moved_in c) row ∙ omega (arith, w.filled, row-length s h r.stem (part c) n, suc-mul c size);
          })

  pub front : (size : ℕ) (rows : List ℕ) (c : ℕ) → Moving size rows c → take (c * size) rows ≡ moved_in c
  front size rows c w =
      ap (take (c * size)) (w.is ∙ stored_front (replicate 2048 0) (moved_in c))
      ∙ take_at (moved_in c) (drop (length (moved_in c)) (replicate 2048 0)) (c * size) w.filled

  -- the file of the moved plan, from the rows' front and the head
  module _ (r : HeadInRange h) (long : length block ≡ 2048) (carts : ℕ) (few : carts ≤ 32) where
    sizes : AllOf (moved_head s h).steps (map (moved_row h.steps h.stem s) (block_rows carts h.steps block))
    sizes =
        let n : length (map (moved_row h.steps h.stem s) (block_rows carts h.steps block)) ≡ carts =
        length-map (block_rows carts h.steps block) (moved_row h.steps h.stem s) ∙ length_rows_in carts h.steps block in
        all_of (λ (x : List ℕ). length x ≡ (moved_head s h).steps) [] (map (moved_row h.steps h.stem s) (block_rows carts h.steps block))
        (λ c l.
        let m = length_rows_in carts h.steps block in
        let e = row_of (moved_row h.steps h.stem s) (block_rows carts h.steps block) c (omega arith) in
        let q = row_in carts h.steps block c (omega arith) in
        let k = length-take-le h.steps (drop (64 * c) block) (omega (arith, length-drop (64 * c) block, r.steps)) in
        ap length e ∙ row-length s h r.stem _ (ap length q ∙ k))

    pub file_fits : length (plan_file (moved s (held_numbers carts h block))) ≤ 65536
    file_fits =
        file_short (moved s (held_numbers carts h block)) (head_moved s h r) sizes
        (omega (arith, length-map (block_rows carts h.steps block) (moved_row h.steps h.stem s), length_rows_in carts h.steps block))

    pub rows_fit : (m : Head) → m ≡ moved_head s h → carts * m.steps ≤ 2048
    rows_fit m e =
        let k : m.steps ≤ 64 = subst (λ (x : Head). x.steps ≤ 64) (sym e) (head_moved s h r).steps in
        mul-le-mul {n₁ = carts} {n₂ = 32} few k

    pub same_file : (m : Head) → m ≡ moved_head s h → (rows : List ℕ) → take (carts * m.steps) rows ≡ moved_in carts
        → plan_bytes m (take (carts * m.steps - 0) (drop 0 rows)) ≡ plan_file (moved s (held_numbers carts h block))
    same_file m e rows q =
        let z : carts * m.steps - 0 ≡ carts * m.steps = omega arith in
        ap₂ plan_bytes e (ap (λ (n : ℕ). take n rows) z ∙ q)
