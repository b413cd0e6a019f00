-- Head and rows, one record after the other: what reading comes to, by what is found.
use Rattle.std.specs.Prelude.{Result, Ok, Err}
use Prim.Native.Nat.{ℕ, zero, suc, ◌+◌, ◌-◌, ◌≤◌, ◌<◌}
use native.Mathlib.Omega.{arith}
use mathlib.Core.Path.{◌≡◌, refl, sym, ap, ◌∙◌}
use mathlib.Core.Bool.{Bool, true, false, cond}
use mathlib.Core.List.{List, [], ◌∷◌, ◌++◌}
use lib.ListN.{length, take, drop, length-drop}
use lib.Seq.{length-take-le}
use borrow.Author.Tests.{lt-ltb, le-ltb}
use Rattle.refusal.specs.Codes.{at_offset}
use Rattle.refusal.specs.declared.Refusal.{Refusal}
use Rattle.record.specs.Record.{Record, Split, records_in}
use Rattle.record.specs.Found.{found_at}
use Rattle.record.specs.Opened.{opened, found_end, found_cut}
use Rattle.record.specs.declared.Found.{Found}
use Rattle.record.specs.declared.Found.TheVariants.{End, Cut, Whole}
use Rattle.floor.specs.declared.Floor.{Floor}
use Rattle.plan.specs.Plan.{rejected, judged_head, row_fault, rows_end, onward, read_rows, behind_head, read_records, read_plan}
use Rattle.plan.specs.Plan.{first_head, head_in, rows_from}
use Rattle.plan.specs.Valid.{HeadInRange}
use Rattle.plan.specs.Passed.{head_passed}
use Rattle.plan.specs.declared.Head.{Head}

pub too_long : (f : Floor) (s : List ℕ) → 65536 < length s → read_plan f s ≡ rejected (at_offset 1 0)
unfolding read_plan
too_long f s h = simp (lt-ltb _ _ h)

in_records : (f : Floor) (s : List ℕ) → length s ≤ 65536 → read_plan f s ≡ read_records f (records_in s).records (records_in s).cut
unfolding read_plan
in_records f s h =
    ap (λ (b : Bool). cond b (rejected (at_offset 1 0)) (read_records f (records_in s).records (records_in s).cut)) (le-ltb 65536 (length s) h)

-- the head
pub head_end : (s : List ℕ) → found_at s 0 ≡ End → Err (at_offset 7 0) ≡ head_in (records_in s)
head_end s e = sym (ap head_in (found_end 0 (records_in s) e))

pub head_cut : (s : List ℕ) → found_at s 0 ≡ Cut → Err (at_offset 2 0) ≡ head_in (records_in s)
head_cut s e = sym (ap head_in (found_cut 0 (records_in s) e))

pub head_there : (s : List ℕ) (k a e : ℕ) → found_at s 0 ≡ Whole k a e → judged_head k (take (e - a) (drop a s)) ≡ head_in (records_in s)
head_there s k a e q = sym (ap head_in (opened s 0 k a e q).rest)

-- a refused head refuses the plan
pub refused_head : (f : Floor) (s : List ℕ) (r : Refusal) → length s ≤ 65536 → head_in (records_in s) ≡ Err r → read_plan f s ≡ rejected r
refused_head f s r h e = in_records f s h ∙ go (records_in s).records (records_in s).cut e
  where
    go : (rs : List Record) (c : Bool) → first_head rs c ≡ Err r → read_records f rs c ≡ rejected r
    go [] true q = let z : at_offset 2 0 ≡ r = cc in ap rejected z
    go [] false q = let z : at_offset 7 0 ≡ r = cc in ap rejected z
    go (x ∷ rs) c q = ap (λ (a : Result Head Refusal). behind_head f a rs c) q

-- behind an accepted head come the rows, at 10
pub record Headed (s : List ℕ) (h : Head) : Type 0 where
  pub range : HeadInRange h
  pub room : 10 ≤ length s
  pub rows : (f : Floor) → length s ≤ 65536 → read_plan f s ≡ rows_from f h [] 10 s

headed_by : (s : List ℕ) (h : Head) (x : Found) → found_at s 0 ≡ x → head_in (records_in s) ≡ Ok h → Headed s h
headed_by s h End q e = let z : Err (at_offset 7 0) ≡ Ok h = head_end s q ∙ e in let y : ◌≡◌ {A = ℕ} 0 1 = cc in absurd (omega arith)
headed_by s h Cut q e = let z : Err (at_offset 2 0) ≡ Ok h = head_cut s q ∙ e in let y : ◌≡◌ {A = ℕ} 0 1 = cc in absurd (omega arith)
headed_by s h (Whole k a b) q e =
    let o = opened s 0 k a b q in
    let j : judged_head k (take (b - a) (drop a s)) ≡ Ok h = head_there s k a b q ∙ e in
    let p = head_passed k (take (b - a) (drop a s)) h j in
    let n : length (take (b - a) (drop a s)) ≡ b - a = length-take-le (b - a) (drop a s) (omega (arith, length-drop a s, o.within)) in
    let ten : b ≡ 10 = omega (arith, o.header, o.order, p.size) in
    record {
      range = p.range;
      room = omega (arith, o.within);
      rows = λ f l.
          in_records f s l
          ∙ ap (λ (x : Split). read_records f x.records x.cut) o.rest
          ∙ ap (λ (a : Result Head Refusal). behind_head f a (records_in (drop b s)).records (records_in (drop b s)).cut) j
          ∙ ap (λ (m : ℕ). read_rows f h [] 10 (records_in (drop m s)).records (records_in (drop m s)).cut) ten;
    }

pub headed : (s : List ℕ) (h : Head) → head_in (records_in s) ≡ Ok h → Headed s h
headed s h e = headed_by s h (found_at s 0) refl e

-- the rows
module _ (f : Floor) (h : Head) (rows : List (List ℕ)) (s : List ℕ) (at : ℕ) where
  pub rows_end_lem : found_at s at ≡ End → rows_from f h rows at s ≡ rows_end f h rows at false
  unfolding read_rows
  rows_end_lem e = ap (λ (x : Split). read_rows f h rows at x.records x.cut) (found_end at (records_in (drop at s)) e)

  pub rows_cut : found_at s at ≡ Cut → rows_from f h rows at s ≡ rejected (at_offset 2 at)
  unfolding read_rows
  rows_cut e = ap (λ (x : Split). read_rows f h rows at x.records x.cut) (found_cut at (records_in (drop at s)) e)

  module _ (k a e : ℕ) (found : found_at s at ≡ Whole k a e) where
    abbrev body : List ℕ
    body = take (e - a) (drop a s)

    pub length-body : length body ≡ e - a
    length-body = length-take-le (e - a) (drop a s) (omega (arith, length-drop a s, (opened s at k a e found).within))

    by : (n : ℕ) → row_fault f h (length rows) k body ≡ n → rows_from f h rows at s ≡ onward n at (rows_from f h (rows ++ (body ∷ [])) e s)
    unfolding read_rows
    by n q =
        let o = opened s at k a e found in
        let m : at + 4 + length body ≡ e = omega (arith, length-body, o.header, o.order) in
        ap (λ (x : Split). read_rows f h rows at x.records x.cut) o.rest
        ∙ ap (λ (n : ℕ). onward n at (read_rows f h (rows ++ (body ∷ [])) (at + 4 + length body) (records_in (drop e s)).records (records_in (drop e s)).cut)) q
        ∙ ap (λ (x : ℕ). onward n at (read_rows f h (rows ++ (body ∷ [])) x (records_in (drop e s)).records (records_in (drop e s)).cut)) m

    pub rows_fault : (n : ℕ) → row_fault f h (length rows) k body ≡ n → (n ≡ 0 → ⊥) → rows_from f h rows at s ≡ rejected (at_offset n at)
    rows_fault zero q z = absurd (z refl)
    rows_fault (suc n) q z = by (suc n) q

    pub rows_good : row_fault f h (length rows) k body ≡ 0 → rows_from f h rows at s ≡ rows_from f h (rows ++ (body ∷ [])) e s
    rows_good q = by 0 q
