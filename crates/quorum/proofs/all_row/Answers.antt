use native.Mathlib.Omega.{arith}
use Prim.Native.Nat.{ℕ, ◌+◌, ◌^◌, ◌<◌}
use mathlib.Core.Path.{◌≡◌, subst}
use lib.ListN.{get_or}
use Rattle.quorum.specs.Counted.{with_one, with_more}
use Rattle.quorum.proofs.all_row.Goals as goal

pub at_least-requires-clause-by_index : goal.at_least-requires-clause-by_index
at_least-requires-clause-by_index c = λ j p. let e : j ≡ 0 + j = omega arith in
    subst (λ (k : ℕ). get_or c.args.w.now k 0 < 2 ^ c.args.carts) e (c.requires.by_index j p)

pub returns-then-m-eq1 : goal.returns-then-m-eq1
returns-then-m-eq1 c = let s = c in
    with_one s.args.h s.args.m s.args.carts s.args.w.now c.at_least.result s.requires.by_index (omega arith) c.at_least.ensures

pub returns-else-m-eq1 : goal.returns-else-m-eq1
returns-else-m-eq1 c = let a = c.args in
    with_more a.h a.m a.carts a.w.now _ (λ e. omega arith) (omega arith)
