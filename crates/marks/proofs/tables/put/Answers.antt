use Rattle.std.proofs.Common.{◌≡◌, replicate, rules, arith}
use Rattle.table.specs.Storing.{filled}
use Rattle.marks.proofs.tables.put.Goals as goal

pub returns : goal.returns
returns c = let a = c.args in
    let same : c.fill.new.self ≡ replicate a.n a.x = search rules in
    filled a.at 0 a.n a.x a.at _ a.n a.t.now _ (omega arith) (omega arith) (omega arith) (omega arith) (omega arith) same
