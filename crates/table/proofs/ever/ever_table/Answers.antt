use Rattle.table.specs.Storing.{apart_less}
use Rattle.table.specs.Passes.{lap_and_run_in}
use native.Mathlib.Omega.{arith}
use Rattle.table.proofs.ever.ever_table.Goals as goal

pub back-requires-clause-apart : goal.back-requires-clause-apart
back-requires-clause-apart c = let a = c.args in
    let p = c.requires.apart in
    (apart_less a.c a.k a.l a.h (omega arith) p.0, apart_less a.b a.k a.l a.h (omega arith) p.1)

pub returns : goal.returns
returns c = let start = c in
    let a = start.args in
    lap_and_run_in a.p a.b a.k a.h a.l _ a.t.now _ _ (omega arith) start.requires.apart.1 a.c start.requires.apart.0 start.requires.by_index
    c.over_lap-v.ensures
    c.put_lap.ensures c.back.ensures.stored
