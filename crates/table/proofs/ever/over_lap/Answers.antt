use Prim.Native.Nat.{ℕ, suc, ◌+◌, ◌-◌, ◌<◌}
use mathlib.Core.Path.{◌≡◌, refl, sym, ap, subst, ◌∙◌}
use mathlib.Core.Bool.{Bool, true, false, not}
use mathlib.Core.List.{List}
use Rattle.cltl.specs.Rules.{join, mix}
use Rattle.mask.specs.Mask.{on}
use Rattle.table.specs.Table.{told, Word}
use Rattle.table.specs.Straight.{straight}
use native.Mathlib.Omega.{arith}
use Rattle.table.proofs.ever.over_lap.Invariants.{Over}
use Rattle.table.proofs.ever.over_lap.Goals as goal

-- where p is true everywhere, one step of "until" or "release" is "or" or "and"
joins : (p x y : Bool) → join (not p) x y ≡ mix p p x y
joins true x y = refl
joins false x y = refl

one_more : (p : Bool) (t : List ℕ) (b h s v x : ℕ) → s < h → Over p t b h (s + 1) v → Word (λ i. join (not p) (told t b i s) (on v i)) x → Over p t b h s x
unfolding straight
one_more p t b h s v x q r w i z =
    let e : h - s ≡ suc (h - (s + 1)) = omega arith in
    let f : s + 1 ≡ suc s = omega arith in
    w i z
    ∙ joins p (told t b i s) (on v i)
    ∙ ap (mix p p (told t b i s)) (r i z ∙ ap (straight p (λ s. p) (told t b i) (not p) (h - (s + 1))) f)
    ∙ ap (λ (n : ℕ). straight p (λ s. p) (told t b i) (not p) n s) (sym e)

pub loop-s-init : goal.loop-s-init
unfolding straight
loop-s-init c = let e : c.args.h - c.args.h ≡ 0 = omega arith in
    (omega arith, λ i q. c.same_word-v.ensures i q ∙ rw e)

pub loop-s-preserved : goal.loop-s-preserved
loop-s-preserved c = let a = c.args in
    let v = c.loop-s in
    let e : v.s ≡ v.s - 1 + 1 = omega arith in (
      omega arith,
      one_more a.p a.t.now a.b a.h (v.s - 1) v.v c.join_word-v.result (omega arith)
          (subst (λ (n : ℕ). Over a.p a.t.now a.b a.h n v.v) e v.invariant.1) c.join_word-v.ensures,
    )

pub returns : goal.returns
returns c = let a = c.args in
    let v = c.loop-s in
    let e : v.s ≡ a.l = omega arith in
    subst (λ (n : ℕ). Over a.p a.t.now a.b a.h n v.v) e v.invariant.1
