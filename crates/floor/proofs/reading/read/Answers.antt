use Rattle.std.specs.Prelude.{Result, Err}
use Rattle.std.proofs.Common.{rules}
use Rattle.endian.specs.Little.{Bytes}
use mathlib.Core.List.{List}
use Rattle.floor.specs.Promises.{FloorRead}
use Rattle.floor.specs.Located.{accepts}
use Rattle.floor.specs.Refusing.{reading_given}
use Rattle.refusal.specs.Given.{Given, reading_floor}
use Rattle.record.specs.Record.{records_in}
use Prim.Native.Nat.{ℕ}
use native.Mathlib.Omega.{arith}
use mathlib.Core.Path.{◌≡◌, sym, ap, subst, ◌∙◌}
use Rattle.record.specs.Opened.{opened}
use Rattle.floor.specs.Floor.{read_on, read_floor, floor_verdict}
use Rattle.floor.proofs.Steps.{none_counted, too_long, begins, at_end_lem, at_cut, at_fault, at_good}
use Rattle.floor.proofs.reading.read.Goals as goal
use Rattle.floor.specs.declared.Floor.{Floor}
use Rattle.refusal.specs.declared.Refusal.{Refusal}

-- the promise, from its first part
promise : (s : List ℕ) (r : Result Floor Refusal) → Bytes s → r ≡ read_floor s → FloorRead s r
promise s r b e = record {
  answer = e;
  numbers = subst (λ (a : Result Floor Refusal). Given reading_floor (floor_verdict a)) (sym e) (reading_given s);
  accepted = λ f q. accepts s f b (sym e ∙ q);
}

pub returns-then-s-gt65536 : goal.returns-then-s-gt65536
returns-then-s-gt65536 c = promise _ _ (λ i. omega (arith, c.type_inv.s i)) (ap Err c.at_offset.ensures ∙ too_long c.args.s.now (omega (arith, c.if-s-gt65536.true)))

pub loop-kind-init : goal.loop-kind-init
loop-kind-init c =
    let s = c.args.s.now in
    (omega arith, omega arith, ap (λ (f : Floor). read_on f 0 (records_in s)) (none_counted _ c.default-f.ensures) ∙ begins s c.if-s-gt65536.false)

pub returns-in-End : goal.returns-in-End
returns-in-End c =
    promise _ _ (λ i. omega (arith, c.type_inv.s i))
    (c.at_end.ensures ∙ sym (at_end_lem c.args.s.now c.loop-kind.f c.loop-kind.at (sym c.in-End.ensures)) ∙ c.loop-kind.invariant.2)

pub returns-in-Cut : goal.returns-in-Cut
returns-in-Cut c =
    promise _ _ (λ i. omega (arith, c.type_inv.s i))
    (ap Err c.at_offset-in-Cut.ensures ∙ sym (at_cut c.args.s.now c.loop-kind.f c.loop-kind.at (sym c.in-Cut.ensures)) ∙ c.loop-kind.invariant.2)

pub slice_bounds-judge_at-end : goal.slice_bounds-judge_at-end
slice_bounds-judge_at-end c = let o = opened c.args.s.now c.loop-kind.at _ _ _ (sym c.in-Whole.ensures) in omega arith

pub loop-kind-preserved : goal.loop-kind-preserved
loop-kind-preserved c =
    let found = sym c.in-Whole.ensures in
    let o = opened c.args.s.now c.loop-kind.at _ _ _ found in
    (o.within, omega arith, sym (at_good c.args.s.now c.loop-kind.f c.loop-kind.at _ _ _ found _ (sym c.judge_at.ensures ∙ c.in_ok-f-in-Whole.was)) ∙ c.loop-kind.invariant.2)

pub returns-in_err-f-in-Whole : goal.returns-in_err-f-in-Whole
returns-in_err-f-in-Whole c =
    let e : c.from_residual.result ≡ Err c.in_err-f-in-Whole.field-0.0 = search rules in
    promise _ _ (λ i. omega (arith, c.type_inv.s i))
    (e ∙ sym (at_fault c.args.s.now c.loop-kind.f c.loop-kind.at _ _ _ (sym c.in-Whole.ensures) _ (sym c.judge_at.ensures ∙ c.in_err-f-in-Whole.was)) ∙ c.loop-kind.invariant.2)
