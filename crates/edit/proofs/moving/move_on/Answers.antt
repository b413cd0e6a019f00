use Prim.Native.Nat.{ℕ}
use native.Mathlib.Omega.{arith}
use mathlib.Core.List.{List}
use mathlib.Core.Path.{◌≡◌, sym, ap, subst, ◌∙◌}
use Rattle.std.specs.Prelude.{Result, Err}
use Rattle.std.proofs.Common.{rules}
use Rattle.refusal.specs.Results.{told, wrote}
use Rattle.refusal.specs.declared.Refused.{Refused}
use Rattle.refusal.specs.declared.Verdict.TheVariants.{Plan as AboutPlan}
use Rattle.refusal.specs.Outcome.{Outcome, Gives, unchanged, written}
use Rattle.floor.specs.declared.Floor.{Floor}
use Rattle.floor.specs.Located.{accepts}
use Rattle.plan.specs.Read.{after_accepted, after_refused, held_numbers_lem, held_range}
use Rattle.plan.specs.Promises.{AcceptedPlan}
use Rattle.plan.specs.Numbers.{plan_file}
use Rattle.plan.specs.Plan.{PlanNumbers, held_numbers, read_both}
use Rattle.plan.specs.declared.PlanRead.{PlanRead}
use Rattle.edit.proofs.MovedReads.{promise}
use Rattle.edit.proofs.MovedWritten.{added_up}
use Rattle.edit.specs.Moved.{moved, move_on}
use Rattle.edit.proofs.moving.move_on.Goals as goal

module _ (floor plan : List ℕ) (s : ℕ) (out : List ℕ) where
  -- what is done with its numbers
  abbrev go : Floor → PlanNumbers → Outcome
  go f p = written AboutPlan (plan_file (moved s p)) out

  refused : (r : Result ℕ Refused) (e : Refused) → r ≡ Err e → Err e ≡ read_both floor plan → Gives (move_on floor plan s out) (wrote r) out
  unfolding move_on
  refused r e is same =
      let q = after_refused (λ e. unchanged (told e) out) go floor plan e same in
      record { answer = ap wrote is ∙ ap (λ (o : Outcome). o.answer) (sym q); out = ap (λ (o : Outcome). o.out) (sym q) }

  put : (r : PlanRead) (w : AcceptedPlan floor plan r) (x : Result ℕ Refused) (after : List ℕ)
      → Gives (go r.floor (held_numbers r.floor.carts r.plan.head r.plan.block)) (wrote x) after → Gives (move_on floor plan s out) (wrote x) after
  unfolding move_on
  put r w x after g =
      let e = ap (go r.floor) (held_numbers_lem _ _ _ w) ∙ sym (after_accepted (λ e. unchanged (told e) out) go floor plan r w) in
      subst (λ (o : Outcome). Gives o (wrote x) after) e g

pub returns-in_err-r-clause-moved : goal.returns-in_err-r-clause-moved
returns-in_err-r-clause-moved c =
    let a = c.args in
    let e : c.from_residual.result ≡ Err c.in_err-r.field-0.0 = search rules in
    let g = refused a.floor.now a.plan.now a.s a.out.now _ _ e (sym c.in_err-r.was ∙ c.read.ensures.answer) in
    promise _ _ (λ i. omega (arith, c.type_inv.floor i)) _ _ _ _ g

pub returns-in_err-r-clause-added_up : goal.returns-in_err-r-clause-added_up
returns-in_err-r-clause-added_up c =
    let a = c.args in
    let e : c.from_residual.result ≡ Err c.in_err-r.field-0.0 = search rules in
    let g = refused a.floor.now a.plan.now a.s a.out.now _ _ e (sym c.in_err-r.was ∙ c.read.ensures.answer) in
    added_up _ _ (λ i. omega (arith, c.type_inv.floor i)) (λ i. omega (arith, c.type_inv.plan i)) _ _ _ _ g

pub put_moved-requires-clause-head_in_range : goal.put_moved-requires-clause-head_in_range
put_moved-requires-clause-head_in_range c = held_range _ _ _ (c.read.ensures.accepted _ c.in_ok-r.was)

pub put_moved-requires-clause-carts_bound : goal.put_moved-requires-clause-carts_bound
put_moved-requires-clause-carts_bound c =
    (accepts _ _ (λ i. omega (arith, c.type_inv.floor i)) (c.read.ensures.accepted _ c.in_ok-r.was).floor_read).valid.few_carts

pub returns-clause-moved : goal.returns-clause-moved
returns-clause-moved c =
    let a = c.args in
    let g = put a.floor.now a.plan.now a.s a.out.now _ (c.read.ensures.accepted _ c.in_ok-r.was) _ _ (rw c.from.ensures at c.put_moved.ensures) in
    promise _ _ (λ i. omega (arith, c.type_inv.floor i)) _ _ _ _ g

pub returns-clause-added_up : goal.returns-clause-added_up
returns-clause-added_up c =
    let a = c.args in
    let g = put a.floor.now a.plan.now a.s a.out.now _ (c.read.ensures.accepted _ c.in_ok-r.was) _ _ (rw c.from.ensures at c.put_moved.ensures) in
    added_up _ _ (λ i. omega (arith, c.type_inv.floor i)) (λ i. omega (arith, c.type_inv.plan i)) _ _ _ _ g
