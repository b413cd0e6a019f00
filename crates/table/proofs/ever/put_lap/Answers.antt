use Rattle.std.proofs.Common.{◌+◌, ◌-◌, ◌≡◌, replicate, rules, arith}
use Rattle.table.specs.Storing.{filled}
use Rattle.table.proofs.ever.put_lap.Goals as goal

pub returns : goal.returns
returns c = let a = c.args in
    let n = a.k + a.h - (a.k + a.l) in
    let same : c.fill.new.self ≡ replicate n a.v = search rules in
    filled a.k a.l a.h a.v (a.k + a.l) _ n a.t.now _ (omega arith) (omega arith) (omega arith) (omega arith) (omega arith) same
