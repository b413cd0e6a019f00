-- PlanNumbers of the table are accepted: what reading accepts is exactly what is valid.
use Rattle.std.specs.Prelude.{ℕ, suc, ◌+◌, ◌*◌, ◌≤◌, ◌<◌, ◌≡◌, refl, Bool, false, cond, length, get_or, Result, Ok, Err}
use Rattle.std.proofs.Common.{mul-le-mul, arith, sym, ap, subst, ◌∙◌, length-append, le-ltb, eq-eqb, ne_eqb}
use mathlib.Core.List.{List, [], ◌∷◌, ◌++◌, map, flatten, append_assoc, append-nil}
use Rattle.std.proofs.lemmas.Bool.{lt-leb}
use Rattle.record.specs.Record.{layout}
use Rattle.record.specs.Parts.{parts, of_kind, laid}
use Rattle.record.specs.All.{All, AllOf, all_of}
use Rattle.record.specs.Laid.{parts-flatten, length_bodies}
use Rattle.floor.specs.declared.Floor.{Floor}
use Rattle.plan.specs.Plan.{PlanNumbers, accepted, out_of_range, judged_places, judged_row, row_fault_by, row_fault, onward, read_rows, read_plan}
use Rattle.plan.specs.Numbers.{Narrow, plan_bytes, plan_file}
use Rattle.plan.specs.Valid.{HeadInRange, RowFits, ValidPlan}
use Rattle.plan.specs.RoundTrip.{length_plan}
use Rattle.plan.specs.Passed.{row_sizes}
use Rattle.plan.specs.Judged.{good_head}
use Rattle.plan.specs.declared.Head.{Head}
use Rattle.plan.specs.declared.RowFault.TheVariants.{Absent, WrongLength}
use Rattle.plan.specs.declared.RowFault.{RowFault}

fits_all : (places i : ℕ) (row : List ℕ) → ((s : ℕ) → s < length row → get_or row s 0 < places) → judged_places places i row ≡ Ok tt
unfolding judged_places
fits_all places i [] h = refl
fits_all places i (p ∷ row) h =
    ap (λ (b : Bool). cond b (Err (Absent i)) (judged_places places (suc i) row)) (lt-leb places p (h 0 (omega arith)))
    ∙ fits_all places (suc i) row (λ s l. h (suc s) (omega arith))

in_range : (h : Head) → HeadInRange h → out_of_range h ≡ false
in_range h r =
    let z : (h.steps ≡ 0 → ⊥) = λ e. omega (arith, r.some) in
    simp (ne_eqb _ _ z, le-ltb 64 h.steps r.steps, lt-leb h.steps h.stem r.stem, le-ltb 16 h.drift r.drift)

-- a row of the head's steps on the floor, while a cart is left
one_row : (f : Floor) (h : Head) (n : ℕ) (row : List ℕ) → length row ≡ h.steps → judged_places f.places 0 row ≡ Ok tt → n < f.carts
    → row_fault f h n 5 row ≡ 0
unfolding judged_row
one_row f h n row s p l =
    ap (λ (x : Result (Unit {0}) RowFault). row_fault_by x f n 5) (ap (λ (b : Bool). cond b (judged_places f.places 0 row) (Err WrongLength)) (eq-eqb _ _ s) ∙ p)
    ∙ simp (lt-leb f.carts n l)

rows_fit : (f : Floor) (h : Head) (xs done : List (List ℕ)) (at : ℕ) → AllOf h.steps xs
    → All (λ (row : List ℕ). judged_places f.places 0 row ≡ Ok tt) xs
    → length done + length xs ≡ f.carts → read_rows f h done at (map (of_kind 5) xs) false ≡ accepted (record { head = h; rows = done ++ xs })
unfolding read_rows
rows_fit f h [] done at s p l =
    let e : f.carts ≤ length done = omega arith in
    let a : accepted (record { head = h; rows = done }) ≡ accepted (record { head = h; rows = done ++ [] }) =
    ap (λ (x : List (List ℕ)). accepted (record { head = h; rows = x })) (sym (append-nil done)) in
    simp (le-ltb (length done) f.carts e) a
rows_fit f h (x ∷ xs) done at s p l =
    let n = length-append done (x ∷ []) in
    ap (λ (m : ℕ). onward m at (read_rows f h (done ++ (x ∷ [])) (at + 4 + length x) (map (of_kind 5) xs) false))
    (one_row f h (length done) x s.0 p.0 (omega arith))
    ∙ rows_fit f h xs (done ++ (x ∷ [])) (at + 4 + length x) s.1 p.1 (omega arith)
    ∙ ap (λ (y : List (List ℕ)). accepted (record { head = h; rows = y })) (append_assoc done (x ∷ []) xs)

few_rows : (k n : ℕ) → k ≤ 64 → n ≤ 32 → n * (4 + k) ≤ 32 * 68
few_rows k n a b = mul-le-mul {n₁ = n} {m₁ = 4 + k} {m₂ = 68} b (omega arith)

pub complete : (f : Floor) (h : Head) (rows : List ℕ) → f.carts ≤ 32 → ValidPlan (record { head = h; rows = parts h.steps rows }) f
    → read_plan f (plan_bytes h rows) ≡ accepted (record { head = h; rows = parts h.steps rows })
complete f h rows m v =
    let xs = parts h.steps rows in
    let r = v.head in
    let sizes = row_sizes (record { head = h; rows = xs }) f v in
    let places : All (λ (row : List ℕ). judged_places f.places 0 row ≡ Ok tt) xs =
    all_of (λ (row : List ℕ). judged_places f.places 0 row ≡ Ok tt) [] xs
    (λ i l. fits_all f.places 0 (get_or xs i []) (λ s k. v.places i s (omega (arith, v.carts)) (omega (arith, v.steps i (omega (arith, v.carts)))))) in
    let short : length (plan_bytes h rows) ≤ 65536 =
    omega (arith, length_plan h rows, length_bodies 5 h.steps xs sizes, few_rows h.steps (length xs) r.steps (omega (arith, v.carts))) in
    let narrow : Narrow h = record { steps = omega (arith, r.steps); stem = omega (arith, r.steps, r.stem); drift = omega (arith, r.drift) } in
    good_head f h rows narrow short (in_range h r) ∙ rows_fit f h xs [] 10 sizes places (omega (arith, v.carts))

-- the file of a plan's numbers, if they are those of the table
pub file_reads : (f : Floor) (n : PlanNumbers) → f.carts ≤ 32 → ValidPlan n f → read_plan f (plan_file n) ≡ accepted n
file_reads f n few v =
    let e : record { head = n.head; rows = parts n.head.steps (flatten n.rows) } ≡ n =
    ap (λ (x : List (List ℕ)). record { head = n.head; rows = x }) (parts-flatten n.head.steps n.rows v.head.some (row_sizes n f v)) in
    complete f n.head (flatten n.rows) few (subst (λ (x : PlanNumbers). ValidPlan x f) (sym e) v) ∙ ap accepted e

-- it has a head of ten bytes, and for each row four and its steps
pub file_length_lem : (n : PlanNumbers) → 0 < n.head.steps → AllOf n.head.steps n.rows → length (plan_file n) ≡ 10 + length n.rows * (4 + n.head.steps)
file_length_lem n some sizes =
    let k = n.head.steps in
    let e : length (laid 5 k (flatten n.rows)) ≡ length (layout (map (of_kind 5) n.rows)) =
    ap (λ (x : List (List ℕ)). length (layout (map (of_kind 5) x))) (parts-flatten k n.rows some sizes) in
    omega (arith, length_plan n.head (flatten n.rows), length_bodies 5 k n.rows sizes)

pub file_short : (n : PlanNumbers) → HeadInRange n.head → AllOf n.head.steps n.rows → length n.rows ≤ 32 → length (plan_file n) ≤ 65536
file_short n r sizes few = omega (arith, file_length_lem n r.some sizes, few_rows n.head.steps (length n.rows) r.steps few)

-- a row of the table's is not refused
pub row_accepted_lem : (steps places : ℕ) (row : List ℕ) → RowFits steps places row → judged_row row steps places ≡ Ok tt
unfolding judged_row
row_accepted_lem steps places row w =
    ap (λ (b : Bool). cond b (judged_places places 0 row) (Err WrongLength)) (eq-eqb _ _ w.size) ∙ fits_all places 0 row w.there
