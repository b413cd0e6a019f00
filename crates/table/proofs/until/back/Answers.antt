use Prim.Native.Nat.{ℕ, suc, ◌+◌, ◌-◌, ◌<◌}
use mathlib.Core.Path.{◌≡◌, sym, ap, ap₂, subst, ◌∙◌}
use lib.ListN.{get_or}
use mathlib.Core.Bool.{Bool}
use mathlib.Core.List.{List}
use Rattle.cltl.specs.Rules.{mix}
use Rattle.mask.specs.Mask.{on}
use Rattle.table.specs.Table.{told, Word, Stored}
use Rattle.table.specs.Straight.{straight}
use Rattle.table.specs.Storing.{begun, downward, apart_word}
use native.Mathlib.Omega.{arith}
use Rattle.table.proofs.until.back.Invariants.{Straight}
use Rattle.table.proofs.until.back.Goals as goal

-- one step earlier, where the words at s are still as they were
one_more : (p : Bool) (t now : List ℕ) (a b to rest s v x : ℕ) → s < to → get_or now (a + s) 0 ≡ get_or t (a + s) 0 → get_or now (b + s) 0 ≡ get_or t (b + s) 0
    → Straight p t a b to rest (s + 1) v → Word (λ i. mix p (on (get_or now (a + s) 0) i) (on (get_or now (b + s) 0) i) (on v i)) x
    → Straight p t a b to rest s x
unfolding straight
one_more p t now a b to rest s v x q ea eb r w i z =
    let e : to - s ≡ suc (to - (s + 1)) = omega arith in
    let f : s + 1 ≡ suc s = omega arith in
    w i z
    ∙ ap₂ (λ (x y : ℕ). mix p (on x i) (on y i) (on v i)) ea eb
    ∙ ap (mix p (told t a i s) (told t b i s)) (r i z ∙ ap (straight p (told t a i) (told t b i) (on rest i) (to - (s + 1))) f)
    ∙ ap (λ (n : ℕ). straight p (told t a i) (told t b i) (on rest i) n s) (sym e)

pub loop-s-init : goal.loop-s-init
unfolding straight
loop-s-init c = let a = c.args in
    let e : a.to - a.to ≡ 0 = omega arith in
    (omega arith, begun (Straight a.p a.t.now a.a a.b a.to a.rest) a.k a.to a.t.now, λ i q. rw e)

pub loop-s-preserved : goal.loop-s-preserved
loop-s-preserved c = let a = c.args in
    let v = c.loop-s in
    let r = v.invariant.1 in
    let s : ℕ = v.s - 1 in
    let m = c.mix_word-v in
    let P = Straight a.p a.t.now a.a a.b a.to a.rest in
    let same = apart_word P a.k v.s a.to a.t.now v.t r in
    let word : P s m.result =
    one_more a.p a.t.now v.t a.a a.b a.to a.rest s v.v m.result (omega arith)
    (same a.a a.to s (omega arith) (omega arith) c.requires.apart.0) (same a.b a.to s (omega arith) (omega arith) c.requires.apart.1)
    (let e : v.s ≡ s + 1 = omega arith in subst (λ (n : ℕ). P n v.v) e v.invariant.2)
    m.ensures in
    (omega arith, downward P a.k v.s a.to (a.k + s) m.result a.t.now v.t r (omega arith) (omega arith) (omega arith) (omega arith) word, word)

pub returns : goal.returns
returns c = let a = c.args in
    let v = c.loop-s in
    let e : v.s ≡ a.from = omega arith in
    let P = Straight a.p a.t.now a.a a.b a.to a.rest in record {
      stored = subst (λ (n : ℕ). Stored P a.k n a.to a.t.now v.t) e v.invariant.1;
      word = subst (λ (n : ℕ). P n v.v) e v.invariant.2;
    }
