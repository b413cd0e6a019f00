use Prim.Native.Nat.{ℕ, ◌≤◌, ◌<◌}
use mathlib.Core.Path.{sym, ap₂, ◌∙◌}
use native.Mathlib.Omega.{arith}
use lib.Dec.{ltb}
use lib.ListN.{get_or}
use borrow.Author.Tests.{lt-ltb, le-ltb}
use Rattle.drift.specs.NodeTruth.{two_low}
use Rattle.drift.specs.Order.{right_first, left_first}
use Rattle.drift.proofs.needs.in_turn.Goals as goal

pub returns-then-c-x : goal.returns-then-c-x
returns-then-c-x c = let s = c in
    let x-is = c.first_at-x.ensures in
    let y-is = c.second_at-y.ensures in
    let low = two_low s.args.c.nodes.now s.args.k s.requires.ordered.0 s.requires.bound.0 s.requires.bound.1 in
    let needed : ℕ → ℕ = λ i. get_or s.args.c.needs.now i 0 in
    let test : needed c.first_at-x.result < needed c.second_at-y.result =
    omega (arith, c.if-c-x.true) in
    let need = right_first s.args.c.nodes.now s.args.c.needs.now s.args.k s.requires.ordered.1 s.requires.bound.0 s.requires.bound.1 _ _ x-is
    y-is test in
    record {
      order = sym (lt-ltb _ _ test) ∙ ap₂ (λ (i j : ℕ). ltb (needed i) (needed j)) x-is y-is;
      first_is = y-is;
      second_is = x-is;
      below = (omega (arith, y-is, low.1), omega (arith, x-is, low.0));
      first_need = need.0;
      second_need = need.1;
    }

pub returns-else-c-x : goal.returns-else-c-x
returns-else-c-x c = let s = c in
    let x-is = c.first_at-x.ensures in
    let y-is = c.second_at-y.ensures in
    let low = two_low s.args.c.nodes.now s.args.k s.requires.ordered.0 s.requires.bound.0 s.requires.bound.1 in
    let needed : ℕ → ℕ = λ i. get_or s.args.c.needs.now i 0 in
    let test : needed c.second_at-y.result ≤ needed c.first_at-x.result =
    omega (arith, c.if-c-x.false) in
    let need = left_first s.args.c.nodes.now s.args.c.needs.now s.args.k s.requires.ordered.1 s.requires.bound.0 s.requires.bound.1 _ _ x-is y-is
    test in
    record {
      order = sym (le-ltb _ _ test) ∙ ap₂ (λ (i j : ℕ). ltb (needed i) (needed j)) x-is y-is;
      first_is = x-is;
      second_is = y-is;
      below = (omega (arith, x-is, low.0), omega (arith, y-is, low.1));
      first_need = need.0;
      second_need = need.1;
    }
