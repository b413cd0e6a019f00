use Prim.Native.Nat.{ℕ, ◌+◌, ◌-◌}
use mathlib.Core.Path.{◌≡◌, sym, subst}
use native.Mathlib.Omega.{arith}
use Rattle.quorum.specs.Unary.{WalkedBack}
use Rattle.quorum.specs.Walking.{begun, onward}
use Rattle.quorum.proofs.running.walk_back.Goals as goal

pub loop-s-init : goal.loop-s-init
loop-s-init c = let a = c.args in
    let e : 0 ≡ a.h - a.h = omega arith in
    (omega arith, subst (λ (n : ℕ). WalkedBack a.h n a.d a.w.now a.w.now) e (begun a.h a.d a.w.now))

pub loop-s-preserved : goal.loop-s-preserved
loop-s-preserved c = let a = c.args in
    let v = c.loop-s in
    let two : v.s - 2 + 2 ≡ v.s = omega arith in
    let n : 2 + (a.h - v.s) ≡ a.h - (v.s - 2) = omega (arith, v.invariant.0) in (
      omega (arith, v.invariant.0),
      subst (λ (n : ℕ). WalkedBack (v.s - 2) n a.d a.w.now c.two_back.new.w) n
          (onward (v.s - 2) 2 (a.h - v.s) a.d a.w.now v.w _
          (subst (λ (s : ℕ). WalkedBack s (a.h - v.s) a.d a.w.now v.w) (sym two) v.invariant.1) c.two_back.ensures),
    )

pub returns-then-s-eq1 : goal.returns-then-s-eq1
returns-then-s-eq1 c = let a = c.args in
    let v = c.loop-s in
    let one : v.s ≡ 0 + 1 = omega (arith, c.if-s-eq1.true) in
    let n : 1 + (a.h - v.s) ≡ a.h = omega (arith, v.invariant.0, c.if-s-eq1.true) in
    subst (λ (n : ℕ). WalkedBack 0 n a.d a.w.now c.one_back.new.w) n
    (onward 0 1 (a.h - v.s) a.d a.w.now v.w _ (subst (λ (s : ℕ). WalkedBack s (a.h - v.s) a.d a.w.now v.w) one v.invariant.1)
    c.one_back.ensures)

pub returns-else-s-eq1 : goal.returns-else-s-eq1
returns-else-s-eq1 c = let a = c.args in
    let v = c.loop-s in
    let none : v.s ≡ 0 = omega arith in
    let n : a.h - 0 ≡ a.h = omega arith in
    subst (λ (n : ℕ). WalkedBack 0 n a.d a.w.now v.w) n (subst (λ (s : ℕ). WalkedBack s (a.h - s) a.d a.w.now v.w) none v.invariant.1)
