use Rattle.quorum.specs.Counted.{in_carts, carts_alone, quorate}
use Rattle.quorum.proofs.count_row.Goals as goal

pub all_row-all-requires-clause-by_index : goal.all_row-all-requires-clause-by_index
all_row-all-requires-clause-by_index c = let a = c.args in
    let f = a.fleet in
    carts_alone f.lasso.h f.carts _ _ _ (in_carts f.lasso.h f.carts a.who _ _ _ f.few c.requires.who_bound c.unroll.ensures)

pub throughout_row-requires-clause-by_index : goal.throughout_row-requires-clause-by_index
throughout_row-requires-clause-by_index c = let a = c.args in
    let f = a.fleet in
    carts_alone f.lasso.h f.carts _ _ _ (in_carts f.lasso.h f.carts a.who _ _ _ f.few c.requires.who_bound c.unroll.ensures)

pub returns : goal.returns
returns c = let a = c.args in
    let f = a.fleet in
    let all = c.all_row-all in
    let text = in_carts f.lasso.h f.carts a.who _ _ _ f.few c.requires.who_bound c.unroll.ensures in
    let along = c.throughout_row in
    record { row = quorate f.lasso.h f.carts _ _ _ text f.lasso.l f.drift a.m f.lasso.lap along.result all.result along.ensures.row all.ensures }
