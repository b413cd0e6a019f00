use Prim.Native.Nat.{suc, ◌-◌}
use mathlib.Core.Path.{◌≡◌, sym, ap, ◌∙◌}
use native.Mathlib.Omega.{arith}
use Rattle.marks.specs.Groups.{carts_word}
use Rattle.marks.proofs.groups.word.Goals as goal

pub returns-then-o-eq0 : goal.returns-then-o-eq0
returns-then-o-eq0 c = let a = c.args in sym (ap (carts_word a.fleet a.floor.now) c.if-o-eq0.true)

pub overflow_sub-o : goal.overflow_sub-o
overflow_sub-o c = omega (arith, c.if-o-eq0.false)

pub returns : goal.returns
returns c = let a = c.args in
    let e : suc (a.o - 1) ≡ a.o = omega (arith, c.if-o-eq0.false) in
    c.group_or_none.ensures ∙ ap (carts_word a.fleet a.floor.now) e
