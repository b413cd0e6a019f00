use Rattle.std.proofs.Common.{rules, ◌+◌, leb, get_or}
use Rattle.quorum.proofs.tallies.enough.Goals as goal

pub returns : goal.returns
returns c = let a = c.args in
    c.row_of.ensures (λ j. leb a.m (get_or a.tallies.now (a.at + j) 0)) (λ j r p e. search rules)
