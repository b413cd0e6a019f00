use Rattle.conflict.proofs.Deciding.{if_false}
use Rattle.conflict.proofs.Visiting.{never_there}
use Rattle.conflict.proofs.rows.Rows.first_met.Goals as goal

pub returns-then-not-visits : goal.returns-then-not-visits
returns-then-not-visits c = λ v l.
    let r = c.args.self.now in
    never_there r.bays.now r.block.now r.carts r.head c.args.a r.head_in_range.stem (if_false _ c.visits.result c.visits.ensures c.if-not-visits.true) v
