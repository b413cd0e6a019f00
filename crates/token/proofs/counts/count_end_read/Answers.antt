use Rattle.std.proofs.lemmas.Result.{err_from_is_err_and}
use Rattle.token.specs.Counted.{comma_missing, amount_refused, unclosed, count_read_lem}
use Rattle.token.proofs.counts.count_end_read.Goals as goal

pub returns-in_err-p : goal.returns-in_err-p
returns-in_err-p c = let a = c.args in
    let p = err_from_is_err_and c.from_residual.result c.from_residual.ensures.1 in
    rw (p.1, p.2) (λ n left before g h long few. comma_missing a.s.now n left before long few a.r a.nodes.now g h _ c.in_err-p.ensures)

pub returns-in_err-k : goal.returns-in_err-k
returns-in_err-k c = let a = c.args in
    let p = err_from_is_err_and c.from_residual-in_err-k.result c.from_residual-in_err-k.ensures.1 in
    rw (p.1, p.2)
    (λ n left before g h long few. amount_refused a.s.now n left before long few a.r a.nodes.now g h _ c.in_ok-p.ensures _ c.spaces-i.ensures.0 _
    c.in_err-k.ensures.value c.in_err-k.ensures.inside)

pub returns-in_err-q : goal.returns-in_err-q
returns-in_err-q c = let a = c.args in
    let p = err_from_is_err_and c.from_residual-in_err-q.result c.from_residual-in_err-q.ensures.1 in
    rw (p.1, p.2)
    (λ n left before g h long few. unclosed a.s.now n left before long few a.r a.nodes.now g h _ c.in_ok-p.ensures _ c.spaces-i.ensures.0 _
    c.in_ok-k.ensures.value _ c.in_err-q.ensures)

pub returns : goal.returns
returns c = let a = c.args in
    λ n left before g h long few. count_read_lem a.s.now n left before long few a.r a.nodes.now g h _ c.in_ok-p.ensures _ c.spaces-i.ensures.0 _
    c.in_ok-k.ensures.value _ c.in_ok-q.ensures _ _ c.with_count.ensures
