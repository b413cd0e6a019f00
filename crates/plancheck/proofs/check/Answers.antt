use native.Mathlib.Omega.{arith}
use Rattle.std.proofs.Common.{◌≡◌, rules}
use Rattle.refusal.specs.Results.{told, checked}
use Rattle.plancheck.proofs.Checking.{readable, promised, not_read}
use Rattle.plancheck.proofs.check.Goals as goal

pub returns-in_err-r : goal.returns-in_err-r
returns-in_err-r c = let e = c.in_err-r.field-0.0 in
    let same : checked c.from_residual.result ≡ told e = search rules in
    rw same (not_read c.args.floor.now c.args.plan.now (λ i. omega (arith, c.type_inv.floor i)) (λ i. omega (arith, c.type_inv.plan i)) c.args.rules.now e
    (rw (← c.in_err-r.was) c.read.ensures.answer))

pub judge-requires : goal.judge-requires
judge-requires c = readable c.args.floor.now c.args.plan.now (λ i. omega (arith, c.type_inv.floor i)) c.in_ok-r.r (c.read.ensures.accepted _ c.in_ok-r.was)

pub returns : goal.returns
returns c =
    promised c.args.floor.now c.args.plan.now (λ i. omega (arith, c.type_inv.floor i)) (λ i. omega (arith, c.type_inv.plan i)) c.args.rules.now c.in_ok-r.r
    (c.read.ensures.accepted _ c.in_ok-r.was) _ c.judge.ensures
