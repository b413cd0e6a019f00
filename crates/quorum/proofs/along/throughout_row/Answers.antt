use Rattle.quorum.specs.Counted.{windows, enough}
use Rattle.quorum.proofs.along.throughout_row.Goals as goal

pub at_least-requires-clause-by_index : goal.at_least-requires-clause-by_index
at_least-requires-clause-by_index c = let pre = c.requires in
    let a = c.args in
    let f = a.fleet in
    let made = c.windows-from in
    λ s p. (windows f.lasso.h f.lasso.l f.drift made.result f.lasso.lap a.w.now made.new.w made.ensures.by_index f.carts pre.by_index s p).low

pub returns : goal.returns
returns c = let pre = c.requires in
    let a = c.args in
    let f = a.fleet in
    let made = c.windows-from in record {
      row = enough f.lasso.h f.lasso.l f.drift made.result f.lasso.lap a.w.now made.new.w made.ensures.by_index f.carts pre.by_index a.m
          c.at_least.result c.at_least.ensures;
    }
