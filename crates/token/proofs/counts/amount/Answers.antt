use Rattle.std.proofs.lemmas.Result.{err_from_is_err_and}
use Rattle.token.proofs.Counting.{amount_bad, amount_read}
use Rattle.token.proofs.counts.amount.Goals as goal

pub returns-in_err-k-clause-value : goal.returns-in_err-k-clause-value
returns-in_err-k-clause-value c =
    let p = err_from_is_err_and c.from_residual.result c.from_residual.ensures.1 in
    rw (p.1, p.2) (amount_bad c.args.s.now c.args.i _ c.in_err-k.ensures.value)

pub returns-clause-value : goal.returns-clause-value
returns-clause-value c = amount_read c.args.s.now c.args.i _ c.in_ok-k.ensures.value _ c.grouped.ensures.value
