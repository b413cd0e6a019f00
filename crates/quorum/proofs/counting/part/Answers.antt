use Prim.Native.Nat.{ℕ, ◌+◌}
use Rattle.std.proofs.Common.{rules}
use lib.Dec.{eqb, leb}
use lib.Count.{ones}
use native.Mathlib.Omega.{arith}
use lib.ListN.{get_or}
use Rattle.quorum.specs.WithoutCounting.{more_than_all, all_of_them, at_least_one}
use Rattle.quorum.proofs.counting.part.Goals as goal

pub returns-then-carts-m : goal.returns-then-carts-m
returns-then-carts-m c = let s = c in
    let a = s.args in
    more_than_all a.n a.m a.carts (λ j. get_or a.w.now (a.at + j) 0) s.requires.by_index _ (omega arith) (omega arith)

pub returns-then-m-carts : goal.returns-then-m-carts
returns-then-m-carts c = let s = c in
    let a = s.args in
    let word : ℕ → ℕ = λ j. get_or a.w.now (a.at + j) 0 in
    all_of_them a.n a.m a.carts word s.requires.by_index c.lowest-all.result c.row_of.result
    (omega arith) (omega (arith, c.lowest-all.ensures)) (c.row_of.ensures (λ j. eqb (word j) c.lowest-all.result) (λ j r p e. search rules))

pub returns-then-m-eq1 : goal.returns-then-m-eq1
returns-then-m-eq1 c = let s = c in
    let a = s.args in
    let word : ℕ → ℕ = λ j. get_or a.w.now (a.at + j) 0 in
    at_least_one a.n a.m a.carts word s.requires.by_index c.row_of-then-m-eq1.result c.lowest.result
    (omega arith) (omega (arith, c.lowest.ensures)) (c.row_of-then-m-eq1.ensures (λ j. eqb (word j) 0) (λ j r p e. search rules))

pub returns : goal.returns
returns c = let a = c.args in
    c.row_of-2.ensures (λ j. leb a.m (ones (get_or a.w.now (a.at + j) 0))) (λ j r p e. search rules)
