use Rattle.std.proofs.Common.{ℕ, ◌+◌, get_or, refl, subst, arith}
use Rattle.table.specs.Table.{Word}
use Rattle.table.specs.Storing.{begun, upward, apart_word, ended}
use Rattle.table.proofs.each.each_word.Goals as goal

pub loop-s-init : goal.loop-s-init
loop-s-init g c = λ f _. begun (λ s. Word (λ i. f i s)) c.args.k 0 c.args.t.now

pub loop-s-preserved : goal.loop-s-preserved
loop-s-preserved g c = λ f made. let a = c.args in
    let v = c.loop-s in
    let P = λ (s : ℕ). Word (λ i. f i s) in
    let r = v.invariant f made in
    let post = λ (x y : ℕ). g.F.Fn.post a.rule (x, (y, tt)) c.rule.result in
    let same = apart_word P a.k 0 v.s a.t.now v.t r in
    let first = same a.a a.h v.s (omega arith) (omega arith) c.requires.apart.0 in
    let second = same a.b a.h v.s (omega arith) (omega arith) c.requires.apart.1 in
    let called = subst (λ (x : ℕ). post x (get_or a.t.now (a.b + v.s) 0)) first
    (subst (λ (y : ℕ). post (get_or v.t (a.a + v.s) 0) y) second c.rule.ensures) in
    upward P a.k 0 v.s (a.k + v.s) _ a.t.now v.t r (omega arith) (omega arith) refl (made v.s c.rule.result (omega arith) called)

pub returns : goal.returns
returns g c = λ f made. ended (omega arith) (c.loop-s.invariant f made)
