use Rattle.quorum.specs.Counted.{in_carts, carts_alone, here}
use Rattle.quorum.specs.Tallying.{at_most, with_all, without_all}
use Rattle.quorum.proofs.tallies.tallied_row.Goals as goal

pub all_row-requires-clause-by_index : goal.all_row-requires-clause-by_index
all_row-requires-clause-by_index c = let pre = c.requires.h_bound in
    let a = c.args in
    carts_alone a.h a.carts _ _ _ (in_carts a.h a.carts a.who _ _ _ pre.1 pre.2 c.unroll.ensures)

pub returns-then-m-eq1 : goal.returns-then-m-eq1
returns-then-m-eq1 c = let pre = c.requires.h_bound in
    let a = c.args in
    let text = in_carts a.h a.carts a.who _ _ _ pre.1 pre.2 c.unroll.ensures in
    let many = c.enough_row-many in record {
      by_index = λ l d told. with_all a.h l a.carts d _ a.at a.tallies.now told a.m many.result
          (many.ensures (at_most a.h l a.carts d _ a.at a.tallies.now told))
          c.all_row.result (here a.h a.carts _ _ _ text a.m c.all_row.result c.all_row.ensures);
    }

pub returns : goal.returns
returns c = let a = c.args in
    let many = c.enough_row-many in record {
      by_index = λ l d told. without_all a.h l a.carts d _ a.at a.tallies.now told a.m many.result
          (many.ensures (at_most a.h l a.carts d _ a.at a.tallies.now told)) c.if-m-eq1.false;
    }
