use native.Mathlib.Omega.{arith}
use mathlib.Core.Path.{◌∙◌}
use lib.Pow.{pow_mono}
use Rattle.table.specs.Storing.{stored_of}
use Rattle.quorum.specs.Counted.{windows, counted_windows, in_carts, carts_alone, counted_text}
use Rattle.quorum.proofs.tallies.fill_tallies.Goals as goal

pub put_tallies-requires-clause-by_index : goal.put_tallies-requires-clause-by_index
put_tallies-requires-clause-by_index c = let a = c.args in
    let f = a.fleet in
    let text = c.unroll in
    let made = c.windows-begin in
    let few = carts_alone f.lasso.h f.carts _ _ _ (in_carts f.lasso.h f.carts a.who _ _ _ f.few c.requires.who_bound text.ensures) in
    let room = pow_mono {i = f.carts} {j = 32} (omega arith) in
    λ j p. omega (arith, room, (windows f.lasso.h f.lasso.l f.drift made.result f.lasso.lap text.new.w made.new.w made.ensures.by_index f.carts few j p).low)

pub returns : goal.returns
returns c = let a = c.args in
    let f = a.fleet in
    let text = c.unroll in
    let made = c.windows-begin in
    let held = in_carts f.lasso.h f.carts a.who _ _ _ f.few c.requires.who_bound text.ensures in
    let few = carts_alone f.lasso.h f.carts _ _ _ held in record {
      stored = stored_of _ _ a.at 0 f.lasso.h _ _
          (λ j x _ p e. e ∙ counted_windows f.lasso.h f.lasso.l f.drift made.result f.lasso.lap text.new.w made.new.w made.ensures.by_index f.carts few j p
          ∙ counted_text f.lasso.h f.carts _ _ _ held f.lasso.l f.drift f.lasso.lap j)
          c.put_tallies.ensures;
    }
