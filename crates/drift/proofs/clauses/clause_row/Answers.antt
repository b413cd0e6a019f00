use Rattle.drift.specs.Answer.{rows_on}
use Rattle.drift.specs.ClauseRows.{part_row}
use Rattle.drift.proofs.clauses.clause_row.Goals as goal

pub returns-clause-by_index : goal.returns-clause-by_index
returns-clause-by_index c =
    let a = c.args in
    let g = a.g in
    λ bears shown. part_row (rows_on g.carts g.lasso.h g.lasso.l bears a.bits.now) (record { some = g.some; lap = g.lasso.lap }) g.drift a.c.nodes.now a.p a.k _
    (c.clause_judged-r.ensures.by_index bears shown).rows
