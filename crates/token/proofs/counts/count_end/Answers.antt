use Prim.Native.Nat.{suc}
use Rattle.std.proofs.lemmas.Result.{err_from_is_err_and}
use Rattle.token.specs.Counted.{text_handed_on}
use Rattle.token.proofs.counts.count_end.Goals as goal

pub returns-in_err-r : goal.returns-in_err-r
returns-in_err-r c = let a = c.args in
    let p = err_from_is_err_and c.from_residual.result c.from_residual.ensures.1 in
    rw (p.1, p.2, c.in_err-r.was) (λ n left before g h long few. text_handed_on a.s.now n left (suc left) before _ a.nodes.now g h)
