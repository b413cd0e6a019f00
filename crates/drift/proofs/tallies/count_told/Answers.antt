use Prim.Native.Nat.{◌-◌, ◌^◌}
use mathlib.Core.Path.{◌≡◌, ◌∙◌}
use Rattle.drift.proofs.tallies.count_told.Goals as goal

pub returns-clause-row : goal.returns-clause-row
returns-clause-row c =
    let whole : c.args.who ≡ 2 ^ c.args.g.carts - 1 = c.in-Some.ensures.1 ∙ c.requires.lent.fleet in
    c.tallied_row.ensures.by_index c.args.g.lasso.l c.args.g.drift (rw whole c.fill_if_none.ensures.tallies_2.1)
