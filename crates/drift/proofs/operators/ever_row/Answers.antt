use mathlib.Core.Path.{refl}
use Rattle.cltl.proofs.Lap.{fix_cong}
use Rattle.drift.specs.OperatorRows.{row_of}
use Rattle.drift.proofs.operators.ever_row.Goals as goal

pub returns : goal.returns
returns c =
    let a = c.args in
    row_of a.lasso.h c.fix_row.result _ _ (fix_cong a.lasso.h a.lasso.l a.lasso.lap a.p _ _ _ _ c.constant.ensures.at (λ s q. refl) a.lasso.h) c.fix_row.ensures
