use Rattle.std.proofs.Common.{rules, ◌+◌, leb, get_or, refl, arith}
use Rattle.quorum.specs.WithoutCounting.{too_high}
use Rattle.quorum.proofs.tallies.enough_row.Goals as goal

pub returns-then-carts-m : goal.returns-then-carts-m
returns-then-carts-m c = let a = c.args in
    λ few. too_high a.h a.m a.carts 0 (λ s. get_or a.tallies.now (a.at + s) 0) few (omega arith) refl

pub returns : goal.returns
returns c = let a = c.args in
    λ few. c.in_parts.ensures (λ k. leb a.m (get_or a.tallies.now k 0)) (λ at n r p q u e. search rules)
