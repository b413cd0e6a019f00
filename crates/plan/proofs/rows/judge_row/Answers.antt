use Rattle.std.specs.Prelude.{Ok, Err}
use Prim.Native.Nat.{ℕ, ◌<◌, ◌+◌}
use native.Mathlib.Numerals.{add-one}
use native.Mathlib.Omega.{arith}
use mathlib.Core.Path.{◌≡◌, sym, ap, ◌∙◌}
use mathlib.Core.Bool.{Bool, cond}
use mathlib.Core.List.{List}
use lib.Dec.{leb}
use lib.ListN.{length, drop, get_or}
use lib.Seq.{drop-cons, drop-length}
use borrow.Author.Tests.{le-leb, lt-leb, eq-eqb}
use Rattle.plan.specs.Plan.{judged_places, judged_row}
use Rattle.plan.proofs.rows.judge_row.Goals as goal
use Rattle.plan.specs.declared.RowFault.TheVariants.{Absent, WrongLength}

-- what is judged from step i on, by the place there
here : (row : List ℕ) (i n : ℕ) → i < length row
    → judged_places n i (drop i row) ≡ cond (leb n (get_or row i 0)) (Err (Absent i)) (judged_places n (i + 1) (drop (i + 1) row))
unfolding judged_places
here row i n h = rw (add-one, drop-cons row i 0)

-- a body of the right length is judged by its places
whole : (row : List ℕ) (steps n : ℕ) → length row ≡ steps → judged_row row steps n ≡ judged_places n 0 row
unfolding judged_row
whole row steps n e = ap (λ (b : Bool). cond b (judged_places n 0 row) (Err WrongLength)) (eq-eqb (length row) steps e)

end : (row : List ℕ) (n : ℕ) → judged_places n (length row) (drop (length row) row) ≡ Ok tt
unfolding judged_places
end row n = rw (drop-length row)

pub returns-then-places-from : goal.returns-then-places-from
returns-then-places-from c = let a = c.args in
    let i = c.loop-step.step in
    let v = c.loop-step.invariant in
    sym (whole a.body.now a.steps a.places v.0 ∙ v.1 ∙ here a.body.now i a.places (omega arith)
    ∙ ap (λ (b : Bool). cond b (Err (Absent i)) (judged_places a.places (i + 1) (drop (i + 1) a.body.now)))
    (le-leb a.places (get_or a.body.now i 0) (omega arith)))

pub loop-step-preserved : goal.loop-step-preserved
loop-step-preserved c = let a = c.args in
    let i = c.loop-step.step in
    let v = c.loop-step.invariant in (
      v.0,
      v.1 ∙ here a.body.now i a.places (omega arith)
          ∙ ap (λ (b : Bool). cond b (Err (Absent i)) (judged_places a.places (i + 1) (drop (i + 1) a.body.now)))
          (lt-leb a.places (get_or a.body.now i 0) (omega arith)),
    )

pub returns : goal.returns
returns c = let a = c.args in
    let v = c.loop-step in
    let n : v.step ≡ length a.body.now = omega arith in
    sym (whole a.body.now a.steps a.places v.invariant.0 ∙ v.invariant.1 ∙ ap (λ (k : ℕ). judged_places a.places k (drop k a.body.now)) n
    ∙ end a.body.now a.places)
