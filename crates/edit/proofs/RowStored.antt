-- A row's bytes stored in a plan's file: the file of the plan with that row.
use Rattle.std.specs.Prelude.{ℕ, zero, suc, ◌+◌, ◌*◌, ◌≤◌, ◌<◌, ◌≡◌, length, drop, set}
use Rattle.std.proofs.Common.{suc-mul, arith, sym, ap₂, ◌∙◌, length-append, drop_at}
use Rattle.std.proofs.Math.Path.{ap}
use mathlib.Core.List.{List, [], ◌∷◌, ◌++◌, map, append_assoc}
use Rattle.endian.specs.Little.{bytes}
use Rattle.endian.specs.RoundTrip.{length-bytes}
use Rattle.record.specs.Record.{encoded, layout}
use Rattle.record.specs.Parts.{of_kind}
use Rattle.record.specs.Buffer.{stored}
use Rattle.record.specs.Stored.{stored_behind}
use Rattle.record.specs.All.{AllOf}
use Rattle.record.specs.RoundTrip.{length-encoded}
use Rattle.record.specs.Laid.{parts-flatten}
use Rattle.plan.specs.Plan.{PlanNumbers}
use Rattle.plan.specs.Numbers.{head_bytes, plan_file, row_at}
use Rattle.plan.specs.RoundTrip.{length_head}
use Rattle.edit.specs.Replaced.{replaced}

-- a record's body exchanged for one of the same length
body-stored : (k : ℕ) (body row t : List ℕ) → length row ≡ length body
    → stored (encoded (of_kind k body) ++ t) 4 row ≡ encoded (of_kind k row) ++ t
unfolding encoded
body-stored k body row t e =
    let head : List ℕ = bytes 2 (length body) ++ bytes 2 k in
    let four : 4 ≡ length head + 0 = omega (arith, length-append (bytes 2 (length body)) (bytes 2 k), length-bytes 2 (length body), length-bytes 2 k) in
    let none : 0 + length row ≡ length row = omega arith in
    ap₂ (λ (x : List ℕ) (n : ℕ). stored x n row) (append_assoc head body t) four ∙ stored_behind head (body ++ t) 0 row
    ∙ ap (λ (x : List ℕ). head ++ (row ++ x)) (ap (λ (n : ℕ). drop n (body ++ t)) none ∙ drop_at body t (length row) (sym e))
    ∙ sym (append_assoc head row t) ∙ ap (λ (n : ℕ). ((bytes 2 n ++ bytes 2 k) ++ row) ++ t) (sym e)

rows-stored : (k : ℕ) (rows : List (List ℕ)) (c : ℕ) (row : List ℕ) → AllOf k rows → c < length rows → length row ≡ k
    → stored (layout (map (of_kind 5) rows)) (c * (4 + k) + 4) row ≡ layout (map (of_kind 5) (set rows c row))
unfolding layout
rows-stored k [] c row a l e = absurd (omega arith)
rows-stored k (x ∷ rows) zero row a l e =
    let at : 0 * (4 + k) + 4 ≡ 4 = omega arith in
    ap (λ (n : ℕ). stored (encoded (of_kind 5 x) ++ layout (map (of_kind 5) rows)) n row) at ∙ body-stored 5 x row (layout (map (of_kind 5) rows)) (e ∙ sym a.0)
rows-stored k (x ∷ rows) (suc c) row a l e =
    let at : suc c * (4 + k) + 4 ≡ length (encoded (of_kind 5 x)) + (c * (4 + k) + 4) = omega (arith, length-encoded (of_kind 5 x), a.0, suc-mul c (4 + k)) in
    ap (λ (n : ℕ). stored (encoded (of_kind 5 x) ++ layout (map (of_kind 5) rows)) n row) at
    ∙ stored_behind (encoded (of_kind 5 x)) (layout (map (of_kind 5) rows)) (c * (4 + k) + 4) row
    ∙ ap (λ (y : List ℕ). encoded (of_kind 5 x) ++ y) (rows-stored k rows c row a.1 (omega arith) e)

rows_inside : (k : ℕ) (rows : List (List ℕ)) (c : ℕ) → AllOf k rows → c < length rows → c * (4 + k) + 4 + k ≤ length (layout (map (of_kind 5) rows))
unfolding layout
rows_inside k [] c a l = absurd (omega arith)
rows_inside k (x ∷ rows) zero a l =
    omega (arith, length-append (encoded (of_kind 5 x)) (layout (map (of_kind 5) rows)), length-encoded (of_kind 5 x), a.0)
rows_inside k (x ∷ rows) (suc c) a l =
    let more = rows_inside k rows c a.1 (omega arith) in
    omega (arith, length-append (encoded (of_kind 5 x)) (layout (map (of_kind 5) rows)), length-encoded (of_kind 5 x), a.0, suc-mul c (4 + k))

sizes_set : (k : ℕ) (rows : List (List ℕ)) (c : ℕ) (row : List ℕ) → AllOf k rows → length row ≡ k → AllOf k (set rows c row)
sizes_set k [] c row a e = tt
sizes_set k (x ∷ rows) zero row a e = (e, a.1)
sizes_set k (x ∷ rows) (suc c) row a e = (a.0, sizes_set k rows c row a.1 e)

module _ (n : PlanNumbers) (some : 0 < n.head.steps) (sizes : AllOf n.head.steps n.rows) (c : ℕ) (row : List ℕ) (l : c < length n.rows)
    (e : length row ≡ n.head.steps) where
  file_is : (rows : List (List ℕ)) → AllOf n.head.steps rows
      → plan_file (record { head = n.head; rows = rows }) ≡ encoded (of_kind 4 (head_bytes n.head)) ++ layout (map (of_kind 5) rows)
  unfolding layout
  file_is rows a =
      ap (λ (x : List (List ℕ)). encoded (of_kind 4 (head_bytes n.head)) ++ layout (map (of_kind 5) x)) (parts-flatten n.head.steps rows some a)

  pub row-stored : stored (plan_file n) (row_at n.head.steps c) row ≡ plan_file (replaced c row n)
  row-stored =
      let head = encoded (of_kind 4 (head_bytes n.head)) in
      let k = n.head.steps in
      let at : row_at k c ≡ length head + (c * (4 + k) + 4) = omega (arith, length-encoded (of_kind 4 (head_bytes n.head)), length_head n.head) in
      ap₂ (λ (x : List ℕ) (m : ℕ). stored x m row) (file_is n.rows sizes) at ∙ stored_behind head (layout (map (of_kind 5) n.rows)) (c * (4 + k) + 4) row
      ∙ ap (λ (y : List ℕ). head ++ y) (rows-stored k n.rows c row sizes l e) ∙ sym (file_is (set n.rows c row) (sizes_set k n.rows c row sizes e))

  -- the row's bytes lie in the file
  pub row_inside : row_at n.head.steps c + length row ≤ length (plan_file n)
  row_inside =
      let head = encoded (of_kind 4 (head_bytes n.head)) in
      let a = ap length (file_is n.rows sizes) ∙ length-append head (layout (map (of_kind 5) n.rows)) in
      omega (arith, length-encoded (of_kind 4 (head_bytes n.head)), length_head n.head, rows_inside n.head.steps n.rows c sizes l)
