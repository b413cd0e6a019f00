use native.Mathlib.Omega.{arith}
use Prim.Native.Nat.{ℕ}
use mathlib.Core.Path.{◌≡◌, subst}
use Rattle.marks.specs.Fours.{Packed}
use Rattle.marks.proofs.Packing.{no_step, step_more}
use Rattle.marks.proofs.fours.pack.Goals as goal

pub loop-s-init : goal.loop-s-init
loop-s-init c = no_step c.args.words.now

pub loop-s-preserved : goal.loop-s-preserved
loop-s-preserved c = let v = c.loop-s in
    step_more v.s c.args.words.now v.words _ (omega arith) v.invariant c.turn.ensures

pub returns : goal.returns
returns c = let v = c.loop-s in
    let e : v.s ≡ c.args.h = omega arith in
    subst (λ (n : ℕ). Packed 0 n c.args.words.now v.words) e v.invariant
