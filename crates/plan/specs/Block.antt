-- The block that holds the rows.
use Rattle.std.specs.Prelude.{ℕ, zero, suc, ◌+◌, ◌*◌, ◌-◌, ◌≤◌, ◌<◌, ◌≡◌, refl, length, take, drop, get_or}
use Rattle.std.proofs.Common.{add-sub_of_le, arith, sym, ap, ap₂, ◌∙◌, length-append, take_at, drop_at}
use mathlib.Core.List.{List, [], ◌∷◌, ◌++◌, map, flatten, append_assoc, append-nil}
use Rattle.std.proofs.lemmas.List.{length-replicate, replicate-append-replicate}
use Rattle.std.proofs.Math.Seq.{drop-append-add}
use Rattle.record.specs.Buffer.{stored}
use Rattle.record.specs.Stored.{stored_behind}
use Rattle.record.specs.All.{All, AllOf}
use Rattle.plan.specs.Plan.{zeros, padded, block_of}

length-zeros : (n : ℕ) → length (zeros n) ≡ n
unfolding zeros
length-zeros n = length-replicate n 0

zeros_append : (n m : ℕ) → zeros n ++ zeros m ≡ zeros (n + m)
unfolding zeros
zeros_append n m = replicate-append-replicate n m 0

drop-zeros : (n m : ℕ) → m ≤ n → drop m (zeros n) ≡ zeros (n - m)
drop-zeros n m h =
    let e : m + (n - m) ≡ n = add-sub_of_le h in
    ap (λ (k : ℕ). drop m (zeros k)) (sym e) ∙ ap (drop m) (sym (zeros_append m (n - m))) ∙ drop_at (zeros m) (zeros (n - m)) m (length-zeros m)

-- all rows fit their 64 bytes
abbrev pub Short : List (List ℕ) → Type 0
Short rows = All (λ (row : List ℕ). length row ≤ 64) rows

pub short_more : (rows : List (List ℕ)) (row : List ℕ) → Short rows → length row ≤ 64 → Short (rows ++ (row ∷ []))
short_more [] row s h = (h, tt)
short_more (r ∷ rows) row s h = (s.0, short_more rows row s.1 h)

-- a row with what fills it up is 64 bytes
length-padded : (row : List ℕ) → length row ≤ 64 → length (padded row) ≡ 64
length-padded row h =
    let a = length-append row (zeros (64 - length row)) in
    let b = length-zeros (64 - length row) in
    omega arith

length_front : (rows : List (List ℕ)) → Short rows → length (flatten (map padded rows)) ≡ 64 * length rows
unfolding flatten
length_front [] s = refl
length_front (row ∷ rows) s =
    let a = length-append (padded row) (flatten (map padded rows)) in
    let b = length-padded row s.0 in
    let c = length_front rows s.1 in
    omega arith

rows_append : (rows : List (List ℕ)) (row : List ℕ) → flatten (map padded (rows ++ (row ∷ []))) ≡ flatten (map padded rows) ++ padded row
unfolding flatten
rows_append [] row = append-nil (padded row)
rows_append (r ∷ rows) row =
    ap (λ (x : List ℕ). padded r ++ x) (rows_append rows row) ∙ sym (append_assoc (padded r) (flatten (map padded rows)) (padded row))

-- with no rows it is zeros
pub blank : zeros 2048 ≡ block_of []
unfolding block_of flatten
blank = refl

pub length_block : (rows : List (List ℕ)) → Short rows → length rows ≤ 32 → length (block_of rows) ≡ 2048
unfolding block_of
length_block rows s h =
    let a = length-append (flatten (map padded rows)) (zeros (64 * (32 - length rows))) in
    let b = length_front rows s in
    let c = length-zeros (64 * (32 - length rows)) in
    omega arith

-- storing a row behind the others gives the block with it
pub row-stored : (rows : List (List ℕ)) (row : List ℕ) → Short rows → length row ≤ 64 → length rows < 32
    → stored (block_of rows) (length rows * 64) row ≡ block_of (rows ++ (row ∷ []))
unfolding block_of
row-stored rows row s h l =
    let front : List ℕ = flatten (map padded rows) in
    let m = 64 * (32 - length rows) in
    let rest = 64 * (32 - length (rows ++ (row ∷ []))) in
    let a = length-append rows (row ∷ []) in
    let at : length rows * 64 ≡ length front + 0 = omega (arith, length_front rows s) in
    let none : 0 + length row ≡ length row = omega arith in
    let fill : m - length row ≡ 64 - length row + rest = omega arith in
    ap (λ (k : ℕ). stored (front ++ zeros m) k row) at ∙ stored_behind front (zeros m) 0 row
    ∙ ap (λ (x : List ℕ). front ++ (row ++ x))
    (ap (λ (k : ℕ). drop k (zeros m)) none ∙ drop-zeros m (length row) (omega arith) ∙ ap zeros fill ∙ sym (zeros_append (64 - length row) rest))
    ∙ ap (λ (x : List ℕ). front ++ x) (sym (append_assoc row (zeros (64 - length row)) (zeros rest)))
    ∙ sym (append_assoc front (padded row) (zeros rest)) ∙ ap (λ (x : List ℕ). x ++ zeros rest) (sym (rows_append rows row))

-- "cart n's row beginning at 64 times n"
row_in : (k : ℕ) (rows : List (List ℕ)) (t : List ℕ) (n : ℕ) → Short rows → AllOf k rows → n < length rows
    → take k (drop (64 * n) (flatten (map padded rows) ++ t)) ≡ get_or rows n []
unfolding flatten
row_in k [] t n s a l = absurd (omega arith)
row_in k (row ∷ rows) t zero s a l =
    let front = flatten (map padded rows) in
    ap (take k) (append_assoc (padded row) front t ∙ append_assoc row (zeros (64 - length row)) (front ++ t))
    ∙ take_at row (zeros (64 - length row) ++ (front ++ t)) k a.0
row_in k (row ∷ rows) t (suc n) s a l =
    let front = flatten (map padded rows) in
    let m : 64 * suc n ≡ length (padded row) + 64 * n = omega (arith, length-padded row s.0) in
    ap (take k) (ap₂ drop m (append_assoc (padded row) front t) ∙ drop-append-add (padded row) (front ++ t) (64 * n))
    ∙ row_in k rows t n s.1 a.1 (omega arith)

pub row_at : (k : ℕ) (rows : List (List ℕ)) (n : ℕ) → Short rows → AllOf k rows → n < length rows
    → take k (drop (64 * n) (block_of rows)) ≡ get_or rows n []
unfolding block_of
row_at k rows n s a l = row_in k rows (zeros (64 * (32 - length rows))) n s a l

pub short_all : (k : ℕ) (rows : List (List ℕ)) → k ≤ 64 → AllOf k rows → Short rows
short_all k [] h a = tt
short_all k (row ∷ rows) h a = (omega (arith, a.0), short_all k rows h a.1)
