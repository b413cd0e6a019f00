-- What replacing a row leaves reads as a plan that differs in that row alone, and its moves are accepted.
use Rattle.std.specs.Prelude.{ℕ, ◌+◌, ◌≤◌, ◌<◌, refl, Bool, eqb, leb, length, get_or, set, Result, Ok, Err}
use Rattle.std.proofs.Common.{arith, sym, subst, ◌∙◌, length-set, get_or-set_same, get_or-set_other, eqb-true, leb-false}
use Rattle.std.proofs.Math.Path.{◌≡◌, ap}
use Rattle.std.proofs.Math.Bool.{true, false, cond}
use mathlib.Core.List.{List, []}
use Rattle.std.proofs.lemmas.Bool.{eqb-false, lt-leb}
use Rattle.endian.specs.Little.{Bytes}
use Rattle.refusal.specs.Codes.{refused}
use Rattle.refusal.specs.Results.{told}
use Rattle.refusal.specs.Given.{Given, replacing_row}
use Rattle.refusal.specs.Stages.{is_accepted}
use Rattle.refusal.specs.Accepting.{accepted_is, both_accepted, goes_on}
use Rattle.refusal.specs.Outcome.{Outcome, Gives, unchanged}
use Rattle.refusal.specs.declared.Refused.{Refused}
use Rattle.refusal.specs.declared.Verdict.{Verdict}
use Rattle.refusal.specs.declared.Verdict.TheVariants.{Accepted, Plan as AboutPlan}
use Rattle.record.specs.Buffer.{stored}
use Rattle.floor.specs.Located.{accepts}
use Rattle.floor.specs.declared.Floor.{Floor}
use Rattle.plan.specs.Plan.{PlanNumbers, accepted, read_plan, judged_row}
use Rattle.plan.specs.Numbers.{plan_file, row_at}
use Rattle.plan.specs.Valid.{RowFits, ValidPlan}
use Rattle.plan.specs.Passed.{row_fits, row_sizes}
use Rattle.plan.specs.RoundTrip.{valid, bytes_back}
use Rattle.plan.specs.After.{ReadAs}
use Rattle.plan.specs.Complete.{file_reads, row_accepted_lem}
use Rattle.plan.specs.Read.{ReadingCases, floor_refused, plan_refused, both_read, reading_cases, read_on_lem}
use Rattle.moves.specs.Carts.{cart_verdict, moves_verdict}
use Rattle.moves.specs.Promises.{AllUnending, CartUnending}
use Rattle.moves.specs.Unending.{Passes, each_passes, none_refused, cart_accepted, all_accepted, moves_read}
use Rattle.edit.specs.Replaced.{replaced, places_verdict, new_row_verdict, cart_row_verdict, replace_verdict, replaced_in, replace_row}
use Rattle.edit.proofs.Refusing.{replacing_given}
use Rattle.edit.proofs.RowStored.{row-stored, row_inside}
use Rattle.edit.proofs.ShutMoves.{replaced_11}
use Rattle.edit.specs.Promises.{NewRow, RowReplaced}
use Rattle.plan.specs.declared.RowFault.TheVariants.{Absent, WrongLength}
use Rattle.plan.specs.declared.RowFault.{RowFault}

only_fits : (c : ℕ) (a : Result (Unit {0}) RowFault) → places_verdict c a ≡ Accepted → a ≡ Ok tt
only_fits c (Ok tt) e = refl
only_fits c (Err WrongLength) e = let z : ◌≡◌ {A = ℕ} 0 1 = cc in absurd (omega arith)
only_fits c (Err (Absent s)) e = let z : ◌≡◌ {A = ℕ} 0 1 = cc in absurd (omega arith)

pub fits_if : (c steps places : ℕ) (row : List ℕ) → is_accepted (places_verdict c (judged_row row steps places)) ≡ true → RowFits steps places row
fits_if c steps places row e = row_fits steps places row (only_fits c (judged_row row steps places) (accepted_is _ e))

-- what an accepted replacement says
pub record Replaces (floor : List ℕ) (f : Floor) (p : PlanNumbers) (c : ℕ) (row : List ℕ) : Type 0 where
  pub moves : moves_verdict floor f p ≡ Accepted
  pub cart : c < f.carts
  pub fits : RowFits p.head.steps f.places row
  pub opened : cart_verdict floor c row p.head.steps p.head.stem ≡ Accepted

module _ (floor : List ℕ) (f : Floor) (p : PlanNumbers) (c : ℕ) (row : List ℕ) where
  pub replaces : replace_verdict floor f p c row ≡ Accepted → Replaces floor f p c row
  replaces e = go (leb f.carts c) refl stages.1
    where
      stages : (moves_verdict floor f p ≡ Accepted) × (cart_row_verdict floor f p c row ≡ Accepted)
      stages = both_accepted (moves_verdict floor f p) (cart_row_verdict floor f p c row) e

      go : (b : Bool) → leb f.carts c ≡ b → cond b (AboutPlan (refused 19 c 0)) (new_row_verdict floor f p.head c row) ≡ Accepted → Replaces floor f p c row
      go true q u = let z : ◌≡◌ {A = ℕ} 0 1 = cc in absurd (omega arith)
      go false q u =
          let w = both_accepted (places_verdict c (judged_row row p.head.steps f.places)) (cart_verdict floor c row p.head.steps p.head.stem) u in
          record {
            moves = stages.0;
            cart = leb-false _ _ q;
            fits = row_fits p.head.steps f.places row (only_fits c _ w.0);
            opened = w.1;
          }

  module _ (v : ValidPlan p f) (w : Replaces floor f p c row) where
    -- row k of the new plan: the new row, or the old one
    each_row : (P : List ℕ → Type 0) (k : ℕ) → P row → P (get_or p.rows k []) → P (get_or (set p.rows c row) k [])
    each_row P k new old = go (eqb k c) refl
      where
        go : (b : Bool) → eqb k c ≡ b → P (get_or (set p.rows c row) k [])
        go true q =
            subst (λ (n : ℕ). P (get_or (set p.rows c row) n [])) (sym (eqb-true k c q))
            (subst P (sym (get_or-set_same p.rows c row [] (omega (arith, w.cart, v.carts)))) new)
        go false q = subst P (sym (get_or-set_other p.rows c k row [] (eqb-false k c q))) old

    pub valid_replaced : ValidPlan (replaced c row p) f
    valid_replaced = record {
      head = v.head;
      carts = length-set p.rows c row ∙ v.carts;
      steps = λ k l. each_row (λ (x : List ℕ). length x ≡ p.head.steps) k w.fits.size (v.steps k l);
      places =
          λ k s l m. each_row (λ (x : List ℕ). get_or x s 0 < f.places) k (w.fits.there s (omega (arith, w.fits.size))) (v.places k s l m);
    }

    pub moves_replaced : moves_verdict floor f (replaced c row p) ≡ Accepted
    moves_replaced = none_refused floor (replaced c row p) f.carts passes
      where
        passes : (k : ℕ) → k < f.carts → Passes floor (replaced c row p) k
        passes k l = go (eqb k c) refl
          where
            old : Passes floor p k
            old = each_passes floor p f.carts w.moves k l

            go : (b : Bool) → eqb k c ≡ b → Passes floor (replaced c row p) k
            go true q =
                subst (Passes floor (replaced c row p)) (sym (eqb-true k c q))
                (ap (λ (x : List ℕ). cart_verdict floor c x p.head.steps p.head.stem)
                (get_or-set_same p.rows c row [] (omega (arith, w.cart, v.carts))) ∙ w.opened)
            go false q =
                ap (λ (x : List ℕ). cart_verdict floor k x p.head.steps p.head.stem) (get_or-set_other p.rows c k row [] (eqb-false k c q)) ∙ old

    -- its file
    pub stored-replaced : stored (plan_file p) (row_at p.head.steps c) row ≡ plan_file (replaced c row p)
    stored-replaced = row-stored p v.head.some (row_sizes p f v) c row (omega (arith, w.cart, v.carts)) w.fits.size

    pub stored_inside : row_at p.head.steps c + length row ≤ length (plan_file p)
    stored_inside = row_inside p v.head.some (row_sizes p f v) c row (omega (arith, w.cart, v.carts)) w.fits.size

    pub reads_replaced : f.carts ≤ 32 → read_plan f (plan_file (replaced c row p)) ≡ accepted (replaced c row p)
    reads_replaced few = file_reads f (replaced c row p) few valid_replaced

-- and what is enough for it
pub accepted_row : (floor : List ℕ) (f : Floor) (p : PlanNumbers) (c : ℕ) (row : List ℕ) → Replaces floor f p c row → replace_verdict floor f p c row ≡ Accepted
accepted_row floor f p c row w =
    let h = p.head in
    let fits : places_verdict c (judged_row row h.steps f.places) ≡ Accepted = ap (places_verdict c) (row_accepted_lem h.steps f.places row w.fits) in
    goes_on (moves_verdict floor f p) (cart_row_verdict floor f p c row) (ap is_accepted w.moves)
    ∙ ap (λ (b : Bool). cond b (AboutPlan (refused 19 c 0)) (new_row_verdict floor f h c row)) (lt-leb f.carts c w.cart)
    ∙ goes_on (places_verdict c (judged_row row h.steps f.places)) (cart_verdict floor c row h.steps h.stem) (ap is_accepted fits) ∙ w.opened

module _ (floor before : List ℕ) (c : ℕ) (row : List ℕ) (v : Verdict) (after : List ℕ) (g : Gives (replace_row floor before c row) v after) where
  refuse : Refused → Outcome
  refuse e = unchanged (told e) before

  step : Floor → PlanNumbers → Outcome
  step f p = replaced_in before p.head.steps c row (replace_verdict floor f p c row)

  -- with floor and plan read: the verdict on the replacement, and what becomes of the plan
  verdict : (f : Floor) (p : PlanNumbers) → ReadAs floor before f p → v ≡ replace_verdict floor f p c row
  unfolding replace_row refuse step
  verdict f p w = g.answer ∙ ap (λ (o : Outcome). o.answer) (read_on_lem refuse step floor before f p w)

  pub left : (f : Floor) (p : PlanNumbers) → ReadAs floor before f p → (b : Bool) → is_accepted v ≡ b
      → after ≡ cond b (stored before (row_at p.head.steps c) row) before
  unfolding replace_row refuse step
  left f p w b e =
      g.out ∙ ap (λ (o : Outcome). o.out) (read_on_lem refuse step floor before f p w)
      ∙ ap (λ (t : Bool). cond t (stored before (row_at p.head.steps c) row) before) (ap is_accepted (sym (verdict f p w)) ∙ e)

  kept : is_accepted v ≡ false → after ≡ before
  unfolding replace_row refuse step
  kept e = go (reading_cases refuse step floor before)
    where
      go : ReadingCases refuse step floor before → after ≡ before
      go (floor_refused x q) = g.out ∙ ap (λ (o : Outcome). o.out) q
      go (plan_refused x q) = g.out ∙ ap (λ (o : Outcome). o.out) q
      go (both_read f n w r) = left f n w false e

  complete : (f : Floor) (p : PlanNumbers) → ReadAs floor before f p → AllUnending floor f p → c < f.carts
      → RowFits p.head.steps f.places row → CartUnending floor (replaced c row p) c → v ≡ Accepted
  complete f p w all there fits new =
      let d = valid f before p w.plan_read_lem in
      let same : get_or (set p.rows c row) c [] ≡ row = get_or-set_same p.rows c row [] (omega (arith, d.carts)) in
      let opened : cart_verdict floor c row p.head.steps p.head.stem ≡ Accepted =
      ap (λ (x : List ℕ). cart_verdict floor c x p.head.steps p.head.stem) (sym same) ∙ cart_accepted floor (replaced c row p) d.head.stem c new in
      verdict f p w ∙ accepted_row floor f p c row (record { moves = all_accepted floor p d.head.stem f all; cart = there; fits = fits; opened = opened })

  module _ (b : Bytes floor) (b' : Bytes before) where
    new_row : v ≡ Accepted → NewRow floor before c row after
    unfolding replace_row refuse step
    new_row e = go (reading_cases refuse step floor before)
      where
        go : ReadingCases refuse step floor before → NewRow floor before c row after
        go (floor_refused x q) = let u = g.answer ∙ ap (λ (o : Outcome). o.answer) q in let z : ◌≡◌ {A = ℕ} 0 1 = cc in absurd (omega arith)
        go (plan_refused x q) = let u = g.answer ∙ ap (λ (o : Outcome). o.answer) q in let z : ◌≡◌ {A = ℕ} 0 1 = cc in absurd (omega arith)
        go (both_read f n u r) =
            let d = valid f before n u.plan_read_lem in
            let few : f.carts ≤ 32 = (accepts floor f b u.floor_read).valid.few_carts in
            let w = replaces floor f n c row (sym (verdict f n u) ∙ e) in
            let back : stored before (row_at n.head.steps c) row ≡ plan_file (replaced c row n) =
            ap (λ (x : List ℕ). stored x (row_at n.head.steps c) row) (sym (bytes_back f before n b' u.plan_read_lem))
            ∙ stored-replaced floor f n c row d w in
            let reads : read_plan f after ≡ accepted (replaced c row n) =
            ap (read_plan f) (left f n u true (ap is_accepted e) ∙ back) ∙ reads_replaced floor f n c row d w few in
            record {
              floor_is = f;
              numbers = n;
              read = u;
              cart = w.cart;
              reads = reads;
              moves_before = moves_read floor before f n u ∙ w.moves;
              moves =
                  moves_read floor after f (replaced c row n) (record { floor_read = u.floor_read; plan_read_lem = reads })
                  ∙ moves_replaced floor f n c row d w;
            }

    pub promise : RowReplaced floor before c row v after
    promise = record {
      outcome = g;
      numbers = subst (Given replacing_row) (sym g.answer) (replacing_given floor before c row);
      replaces = new_row;
      kept = kept;
      complete = complete;
      shut_11 = λ f p w n k e. replaced_11 n k floor f p (valid f before p w.plan_read_lem) c row (sym (verdict f p w) ∙ e);
    }
