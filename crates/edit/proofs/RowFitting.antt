-- A row judged in two parts, its fit and its moves: together they are what is asked of it.
use Prim.Native.Nat.{ℕ, ◌≤◌, ◌<◌}
use native.Mathlib.Omega.{arith}
use mathlib.Core.Path.{◌≡◌, refl, sym, ap, ◌∙◌}
use mathlib.Core.Bool.{Bool, true, false, cond}
use mathlib.Core.List.{List}
use lib.Dec.{leb}
use borrow.Author.Tests.{leb-false, le-leb, lt-leb}
use Rattle.refusal.specs.Accepting.{stops, goes_on}
use Rattle.refusal.specs.Codes.{refused}
use Rattle.refusal.specs.Stages.{is_accepted, and_then}
use Rattle.refusal.specs.declared.Verdict.{Verdict}
use Rattle.refusal.specs.declared.Verdict.TheVariants.{Plan as AboutPlan}
use Rattle.floor.specs.declared.Floor.{Floor}
use Rattle.plan.specs.Passed.{RowFits}
use Rattle.plan.specs.Plan.{PlanNumbers, judged_row}
use Rattle.plan.specs.declared.Head.{Head}
use Rattle.moves.specs.Carts.{cart_verdict, moves_verdict}
use Rattle.moves.specs.Further.{with_further}
use Rattle.moves.specs.FurtherRow.{some_steps}
use Rattle.edit.specs.Judgement.{fit_verdict}
use Rattle.edit.specs.Replaced.{places_verdict, replace_verdict}
use Rattle.edit.proofs.ReplacedReads.{fits_if}

-- the row fits: the cart is there, and 4 and 9 are not given
pub record Fitting (f : Floor) (p : PlanNumbers) (c : ℕ) (row : List ℕ) : Type 0 where
  pub cart : c < f.carts
  pub row_fits : RowFits p.head.steps f.places row

-- by whether the cart is there
module _ (f : Floor) (h : Head) (c : ℕ) (row : List ℕ) where
  pub no_cart : f.carts ≤ c → fit_verdict f h c row ≡ AboutPlan (refused 19 c 0)
  no_cart l = ap (λ (b : Bool). cond b (AboutPlan (refused 19 c 0)) (places_verdict c (judged_row row h.steps f.places))) (le-leb f.carts c l)

  pub by_places : c < f.carts → fit_verdict f h c row ≡ places_verdict c (judged_row row h.steps f.places)
  by_places l = ap (λ (b : Bool). cond b (AboutPlan (refused 19 c 0)) (places_verdict c (judged_row row h.steps f.places))) (lt-leb f.carts c l)

module _ (floor : List ℕ) (f : Floor) (p : PlanNumbers) (c : ℕ) (row : List ℕ) where
  abbrev places : Verdict
  places = places_verdict c (judged_row row p.head.steps f.places)

  abbrev moved : Verdict
  moved = cart_verdict floor c row p.head.steps p.head.stem

  -- fit and row, by whether the cart is there
  abbrev fit_by : Bool → Verdict
  fit_by b = cond b (AboutPlan (refused 19 c 0)) places

  abbrev row_by : Bool → Verdict
  row_by b = cond b (AboutPlan (refused 19 c 0)) (and_then places moved)

  alone : (b : Bool) → is_accepted (fit_by b) ≡ false → row_by b ≡ fit_by b
  alone true e = refl
  alone false e = stops places moved e

  there : (b : Bool) → is_accepted (fit_by b) ≡ true → (b ≡ false) × (is_accepted places ≡ true)
  there true e = let z : ◌≡◌ {A = ℕ} 0 1 = cc in absurd (omega arith)
  there false e = (refl, e)

  -- a row that does not fit: its moves are not judged
  pub unfit : is_accepted (fit_verdict f p.head c row) ≡ false
      → replace_verdict floor f p c row ≡ and_then (moves_verdict floor f p) (fit_verdict f p.head c row)
  unfit e = ap (and_then (moves_verdict floor f p)) (alone (leb f.carts c) e)

  module _ (e : is_accepted (fit_verdict f p.head c row) ≡ true) where
    pub fitting : Fitting f p c row
    fitting =
        let w = there (leb f.carts c) e in
        record { cart = leb-false f.carts c w.0; row_fits = fits_if c p.head.steps f.places row w.1 }

    -- one that fits: its moves follow the plan's
    pub follows : p.head.stem < p.head.steps → with_further floor f p c row ≡ replace_verdict floor f p c row
    follows some =
        let w = there (leb f.carts c) e in
        let size = fitting.row_fits.size in
        ap (and_then (moves_verdict floor f p))
        (some_steps floor c row p.head.stem (λ z. omega (arith, size))
        ∙ ap (λ (n : ℕ). cart_verdict floor c row n p.head.stem) size
        ∙ sym (ap row_by w.0 ∙ goes_on places moved w.1))
