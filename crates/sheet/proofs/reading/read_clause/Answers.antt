use lib.ListN.{drop}
use mathlib.Core.Bool.{false}
use native.Mathlib.Omega.{arith}
use Rattle.grammar.specs.Limits.{count_nodes}
use Rattle.grammar.specs.Nodes.{flat_count}
use Rattle.grammar.specs.Reader.{counts, ors, clauses, clause_line}
use Rattle.token.specs.Ended.{ended_if_read}
use Rattle.token.specs.Joined.{part_length}
use Rattle.sheet.specs.Room.{flat_size}
use Rattle.sheet.proofs.reading.read_clause.Goals as goal

pub returns : goal.returns
unfolding clause_line clauses
returns c = let a = c.args in
    let r = c.or_part-r in
    let g = ors counts 32 128 (drop a.at a.s.now) in
    ended_if_read count_nodes flat_count a.s.now 0 128 a.nodes.now r.result r.new.nodes 10 _ c.expect.ensures g r.ensures
    (part_length count_nodes flat_count (flat_size false) a.s.now 0 128 a.nodes.now r.result _ g r.ensures c.told-nodes (omega arith))
