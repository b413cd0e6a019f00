use Prim.Native.Nat.{ℕ, ◌+◌, ◌<◌}
use mathlib.Core.Path.{◌≡◌, refl, ap, ◌∙◌}
use lib.ListN.{get_or}
use mathlib.Core.List.{List}
use Rattle.row.specs.Lasso.{next_step}
use Rattle.row.specs.Round.{next_low, next_last, next_below}
use Rattle.mask.specs.Mask.{on}
use Rattle.table.specs.Table.{Stored, Apart}
use Rattle.table.specs.Storing.{begun, upward, ended, apart_word}
use native.Mathlib.Omega.{arith}
use Rattle.table.proofs.each.next_table.Invariants.{Later}
use Rattle.table.proofs.each.next_table.Goals as goal

-- a word that is read there, from a table apart from the one that is stored, is such a word
read-later : (t now : List ℕ) (a k h l s j : ℕ) → Stored (Later t a h l) k 0 s t now → s < h → l < h → Apart a k h → j ≡ a + next_step h l s
    → Later t a h l s (get_or now j 0)
read-later t now a k h l s j r q z u e i _ =
    ap (λ (j : ℕ). on (get_or now j 0) i) e
    ∙ ap (λ (x : ℕ). on x i) (apart_word (Later t a h l) k 0 s t now r a h (next_step h l s) (omega arith) (next_below h l z s) u)

pub loop-s-init : goal.loop-s-init
loop-s-init c = begun (Later c.args.t.now c.args.a c.args.h c.args.l) c.args.k 0 c.args.t.now

pub loop-s-preserved : goal.loop-s-preserved
loop-s-preserved c = let a = c.args in
    let v = c.loop-s in
    let word = read-later a.t.now v.t a.a a.k a.h a.l v.s (a.a + v.s + 1) v.invariant (omega arith) (omega arith) c.requires.3
    (omega (arith, next_low a.h a.l v.s (omega arith))) in
    upward (Later a.t.now a.a a.h a.l) a.k 0 v.s (a.k + v.s) _ a.t.now v.t v.invariant (omega arith) (omega arith) refl word

pub returns : goal.returns
returns c = let a = c.args in
    let v = c.loop-s in
    let word = read-later a.t.now v.t a.a a.k a.h a.l v.s (a.a + a.l) v.invariant (omega arith) (omega arith) c.requires.3
    (omega (arith, next_last a.h a.l v.s (omega arith))) in
    ended (omega arith) (upward (Later a.t.now a.a a.h a.l) a.k 0 v.s _ _ a.t.now v.t v.invariant (omega arith) (omega arith) (omega arith) word)
