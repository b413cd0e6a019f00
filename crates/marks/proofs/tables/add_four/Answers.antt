use Prim.Native.Nat.{ℕ, ◌+◌, ◌*◌}
use native.Mathlib.Omega.{arith}
use mathlib.Core.Path.{◌≡◌, subst}
use Rattle.marks.specs.Tables.{Tables, MovedUp}
use Rattle.marks.proofs.Filling.{apart, none_yet, moved_more}
use Rattle.marks.proofs.tables.add_four.Goals as goal

pub loop-k-init : goal.loop-k-init
loop-k-init c = let a = c.args in
    none_yet (MovedUp a.t.now a.h a.words.now) a.h a.t.now

pub move_up-requires-clause-h_in_bounds : goal.move_up-requires-clause-h_in_bounds
move_up-requires-clause-h_in_bounds c = let v = c.loop-k in
    omega (arith, v.invariant.kept, apart v.k c.args.marks c.args.h (omega arith))

pub move_up-requires-clause-each : goal.move_up-requires-clause-each
move_up-requires-clause-each c = let v = c.loop-k in
    λ s p. omega (arith, v.invariant.beyond (v.k * c.args.h + s) (omega arith), c.requires.holds v.k (omega arith) s p)

pub loop-k-preserved : goal.loop-k-preserved
loop-k-preserved c = let a = c.args in
    let v = c.loop-k in
    moved_more a.words.now a.h v.k a.t.now v.t _ v.invariant c.move_up.ensures

pub returns : goal.returns
returns c = let a = c.args in
    let v = c.loop-k in
    let e : v.k ≡ a.marks = omega arith in
    subst (λ (n : ℕ). Tables (MovedUp a.t.now a.h a.words.now) n a.h a.t.now v.t) e v.invariant
