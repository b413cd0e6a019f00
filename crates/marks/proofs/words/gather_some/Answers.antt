use Prim.Native.Nat.{ℕ, ◌+◌}
use native.Mathlib.Omega.{arith}
use mathlib.Core.Path.{◌≡◌, subst}
use Rattle.marks.specs.Tables.{WordAt}
use Rattle.marks.specs.Fours.{Gathered}
use Rattle.marks.proofs.Packing.{none_gathered, row_gathered}
use Rattle.marks.proofs.words.gather_some.Goals as goal

pub loop-c-init : goal.loop-c-init
loop-c-init c = let a = c.args in
    none_gathered (λ c. WordAt a.floor.now a.block.now (a.i + c)) a.h a.words.now

pub gather-requires-clause-on_floor : goal.gather-requires-clause-on_floor
gather-requires-clause-on_floor c = c.requires.placed.row (c.args.i + c.loop-c.c) (omega arith)

pub loop-c-preserved : goal.loop-c-preserved
loop-c-preserved c = let a = c.args in
    let v = c.loop-c in
    row_gathered a.floor.now a.block.now a.i a.h v.c _ _ a.words.now v.words _ (omega arith) v.invariant c.gather.ensures (omega arith)

pub returns : goal.returns
returns c = let a = c.args in
    let v = c.loop-c in
    let e : v.c ≡ a.n = omega arith in
    subst (λ (n : ℕ). Gathered (λ c. WordAt a.floor.now a.block.now (a.i + c)) n a.h a.words.now v.words) e v.invariant
