use native.Mathlib.Omega.{arith}
use Rattle.std.proofs.lemmas.Result.{err_from_is_err_and}
use Rattle.token.proofs.Counting.{limit_bad, limit_wide, limit_read}
use Rattle.token.proofs.counts.limit.Goals as goal

pub returns-in_err-k-clause-value : goal.returns-in_err-k-clause-value
returns-in_err-k-clause-value c =
    let p = err_from_is_err_and c.from_residual.result c.from_residual.ensures.1 in
    rw (p.1, p.2) (limit_bad c.args.s.now c.args.i _ c.in_err-k.ensures.value)

pub returns-then-highest-k-clause-value : goal.returns-then-highest-k-clause-value
returns-then-highest-k-clause-value c =
    limit_wide c.args.s.now c.args.i _ c.in_ok-k.ensures.value _ c.is_at-percent.ensures (omega (arith, c.if-highest-k.true, c.highest.ensures)) _
    c.refused.ensures

pub returns-clause-value : goal.returns-clause-value
returns-clause-value c =
    limit_read c.args.s.now c.args.i _ c.in_ok-k.ensures.value _ c.is_at-percent.ensures (omega (arith, c.if-highest-k.false, c.highest.ensures)) _
    c.behind.ensures
