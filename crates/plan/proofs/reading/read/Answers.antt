use Rattle.std.specs.Prelude.{Result}
use Rattle.std.proofs.lemmas.Result.{err_from_is_err_and}
use Prim.Native.Nat.{ℕ}
use native.Mathlib.Omega.{arith}
use mathlib.Core.List.{List}
use mathlib.Core.Path.{◌≡◌, sym, ap, subst, ◌∙◌}
use Rattle.endian.specs.Little.{Bytes}
use Rattle.refusal.specs.Given.{Given, reading_plan}
use Rattle.refusal.specs.Results.{checked}
use Rattle.refusal.specs.declared.Refusal.{Refusal}
use Rattle.refusal.specs.declared.Refused.{Refused}
use Rattle.floor.specs.declared.Floor.{Floor}
use Rattle.plan.specs.Plan.{on_floor, read_both}
use Rattle.plan.specs.Promises.{PlanReads}
use Rattle.plan.specs.Refusing.{reading_given}
use Rattle.plan.specs.RoundTrip.{accepts}
use Rattle.plan.specs.declared.PlanRead.{PlanRead}
use Rattle.plan.proofs.Wrapped.{kept, refused}
use Rattle.plan.proofs.reading.read.Goals as goal

-- the promise, from its first part
promise : (floor s : List ℕ) (r : Result PlanRead Refused) → Bytes s → r ≡ read_both floor s → PlanReads floor s r
promise floor s r b e = record {
  answer = e;
  numbers = subst (λ (x : Result PlanRead Refused). Given reading_plan (checked x)) (sym e) (reading_given floor s);
  accepted = λ x q. accepts floor s x b (sym q ∙ e);
}

pub returns-in_err-f : goal.returns-in_err-f
unfolding read_both
returns-in_err-f c =
    let e = refused _ c.read.result _ c.map_err.ensures.cases _ c.in_err-f.was in
    let p = err_from_is_err_and c.from_residual.result c.from_residual.ensures.1 in
    promise _ _ _ (λ i. omega (arith, c.type_inv.plan i))
    (rw (p.1, p.2, e.2) (sym (ap (λ (x : Result Floor Refusal). on_floor x c.args.plan.now) (sym c.read.ensures.answer ∙ e.1))))

pub returns : goal.returns
unfolding read_both
returns c =
    let e = kept _ c.read.result _ c.map_err.ensures.cases _ c.in_ok-f.was in
    promise _ _ _ (λ i. omega (arith, c.type_inv.plan i))
    (c.read_for.ensures ∙ sym (ap (λ (x : Result Floor Refusal). on_floor x c.args.plan.now) (sym c.read.ensures.answer ∙ e)))
