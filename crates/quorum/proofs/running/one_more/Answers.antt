use mathlib.Core.Path.{sym, ap}
use mathlib.Core.Bool.{Bool, cond}
use borrow.Author.Tests.{lt-ltb, le-ltb}
use lib.Bits.{bit_and}
use lib.ListN.{get_or}
use Prim.Native.Nat.{◌+◌}
use Rattle.quorum.proofs.running.one_more.Goals as goal

pub returns-then-j-lap : goal.returns-then-j-lap
returns-then-j-lap c = let a = c.args in
    ap (λ (b : Bool). cond b (bit_and (get_or a.w.now (a.l + a.j) 0) a.all) a.all) (sym (lt-ltb a.j a.lap c.if-j-lap.true))

pub returns-else-j-lap : goal.returns-else-j-lap
returns-else-j-lap c = let a = c.args in
    ap (λ (b : Bool). cond b (bit_and (get_or a.w.now (a.l + a.j) 0) a.all) a.all) (sym (le-ltb a.j a.lap c.if-j-lap.false))
