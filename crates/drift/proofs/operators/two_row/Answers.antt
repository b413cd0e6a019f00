use Prim.Native.Nat.{ℕ, ◌<◌}
use mathlib.Core.Path.{refl}
use mathlib.Core.Bool.{Bool, ◌||◌}
use native.Mathlib.Omega.{arith}
use lib.Bits.{or_lt}
use Rattle.std.specs.Int.Bits.{bit_or}
use Rattle.cltl.specs.Rules.{fix}
use Rattle.cltl.proofs.Lap.{fix_cong}
use Rattle.mask.specs.Mask.{on, Row}
use Rattle.mask.specs.EachBit.{on_or}
use Rattle.drift.specs.OperatorRows.{row_of, both_row, either_row}
use Rattle.drift.proofs.operators.two_row.Goals as goal

pub fix_row-requires : goal.fix_row-requires
fix_row-requires c =
    let a = c.args in
    record { a_bound = (or_lt a.lasso.h a.z a.a c.requires.0 c.requires.1, c.requires.2) }

pub fix_row-requires-in-Release : goal.fix_row-requires-in-Release
fix_row-requires-in-Release c =
    let a = c.args in
    record { a_bound = (or_lt a.lasso.h a.z a.a c.requires.0 c.requires.1, c.requires.2) }

pub returns-in-And : goal.returns-in-And
returns-in-And c =
    let a = c.args in
    rw c.in-And.is (both_row a.lasso.h a.lasso.l a.lasso.lap 6 a.p a.a _ a.z a.b c.requires.0 refl (c.join_row.ensures a.lasso.h c.requires.1 c.requires.2))

pub returns-in-Or : goal.returns-in-Or
returns-in-Or c =
    let a = c.args in
    rw c.in-Or.is
    (either_row a.lasso.h a.lasso.l a.lasso.lap 7 a.p a.a _ a.z a.b c.requires.0 (λ e. absurd (omega arith)) refl
    (c.join_row-in-Or.ensures a.lasso.h c.requires.1 c.requires.2))

-- the or of the two rows that are told together
also : (h l : ℕ) → l < h → (q : Bool) (z a b r : ℕ) → Row h r (fix h l q (on (bit_or z a)) (on b) h) → Row h r (fix h l q (λ s. on z s || on a s) (on b) h)
also h l ok q z a b r g = row_of h r _ _ (fix_cong h l ok q _ _ _ _ (λ s _. on_or z a s) (λ s _. refl) h) g

pub returns-in-Until : goal.returns-in-Until
returns-in-Until c =
    let a = c.args in
    rw c.in-Until.is (also a.lasso.h a.lasso.l a.lasso.lap a.p a.z a.a a.b _ c.fix_row.ensures)

pub returns-in-Release : goal.returns-in-Release
returns-in-Release c =
    let a = c.args in
    rw c.in-Release.is (also a.lasso.h a.lasso.l a.lasso.lap _ a.z a.a a.b _ c.fix_row-in-Release.ensures)
