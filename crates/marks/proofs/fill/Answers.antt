use native.Mathlib.Omega.{arith}
use Rattle.marks.proofs.Laying.{length_kept, empty, filled}
use Rattle.marks.proofs.fill.Goals as goal

pub add_carts-requires-clause-h_in_bounds : goal.add_carts-requires-clause-h_in_bounds
add_carts-requires-clause-h_in_bounds c = let kept = length_kept c.args.marks c.args.h c.put.ensures c.put-2.ensures c.put-3.ensures (omega arith) in
    omega arith

pub add_carts-requires-clause-holds : goal.add_carts-requires-clause-holds
add_carts-requires-clause-holds c = empty c.args.marks c.args.h c.put.ensures c.put-2.ensures c.put-3.ensures (omega arith)

pub returns : goal.returns
returns c = let a = c.args in
    filled a.marks a.h c.put.ensures c.put-2.ensures c.put-3.ensures (omega arith) a.floor.now a.block.now a.carts _ c.requires.h_in_bounds
    c.add_carts.ensures c.requires.none_from
