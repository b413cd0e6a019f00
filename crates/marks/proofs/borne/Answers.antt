use native.Mathlib.Omega.{arith}
use Prim.Native.Nat.{ℕ}
use mathlib.Core.Path.{◌≡◌, subst}
use lib.Count.{leading_le}
use Rattle.marks.proofs.Joining.{Joined, begun, onward, highest}
use Rattle.marks.proofs.borne.Goals as goal

pub loop-q-init : goal.loop-q-init
loop-q-init c = begun c.args.floor.now _ (omega arith)

pub loop-q-preserved : goal.loop-q-preserved
loop-q-preserved c = let v = c.loop-q in
    onward c.args.floor.now v.q v.all c.marks_of-all.result v.invariant (omega (arith, c.marks_of-all.type_inv)) c.marks_of-all.ensures

pub overflow_sub-result : goal.overflow_sub-result
overflow_sub-result c = omega (arith, leading_le 32 c.loop-q.all)

pub returns : goal.returns
returns c = let a = c.args in
    let v = c.loop-q in
    let e : v.q ≡ a.places = omega arith in
    highest a.floor.now a.places v.all _ (omega arith) (subst (λ (n : ℕ). Joined a.floor.now n v.all) e v.invariant)
