use Rattle.mask.specs.Lapped.{signed_row}
use Rattle.mask.proofs.lasso.Lasso.fix_row.Goals as goal

pub returns : goal.returns
returns c = let x = c.args in
    let a = c.flagged in
    let b = c.flagged-2 in
    let u = c.until_row-until in
    let r = c.flagged-3 in
    signed_row x.self.h x.self.l x.self.lap x.p x.a x.b a.result b.result u.result r.result
    a.ensures b.ensures u.ensures r.ensures
