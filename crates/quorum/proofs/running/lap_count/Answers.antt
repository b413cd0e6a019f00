use Prim.Native.Nat.{ℕ, suc, ◌+◌, ◌-◌, ◌≤◌, ◌<◌, min}
use mathlib.Core.Path.{◌≡◌, sym, ap, ap₂, subst, ◌∙◌}
use mathlib.Core.Bool.{Bool, cond, ◌&&◌, and-true}
use mathlib.Core.List.{List}
use native.Mathlib.Omega.{arith}
use borrow.Author.Tests.{lt-ltb, le-ltb}
use lib.Bits.{bit_and}
use lib.Dec.{ltb}
use lib.ListN.{get_or}
use Rattle.row.specs.Round.{pick}
use Rattle.cltl.specs.Counting.{every}
use Rattle.cltl.specs.Running.{lap_count}
use Rattle.cltl.proofs.AboveDrift.{lap_above}
use Rattle.mask.specs.Mask.{on}
use Rattle.mask.specs.EachBit.{on_and}
use Rattle.table.specs.Storing.{begun, upward, ended}
use Rattle.quorum.specs.Words.{has}
use Rattle.quorum.proofs.running.lap_count.Invariants.{AllAt, Digits, first}
use Rattle.quorum.proofs.running.lap_count.Goals as goal

-- one step more
further : (w : List ℕ) (h l j x all r : ℕ) → (j < h - l → x ≡ get_or w (l + j) 0) → r ≡ cond (ltb j (h - l)) (bit_and x all) all
    → AllAt w h l j all → AllAt w h l (suc j) r
unfolding every
further w h l j x all r ex er a i =
    pick j (h - l) (on r i ≡ first w l i (min (suc j) (h - l)))
    (λ p.
    let n : min j (h - l) ≡ j = omega arith in
    let m : min (suc j) (h - l) ≡ suc j = omega arith in
    ap (λ (z : ℕ). on z i) (er ∙ ap (λ (b : Bool). cond b (bit_and x all) all) (lt-ltb j (h - l) p)) ∙ on_and x all i
    ∙ ap₂ (λ (b c : Bool). b && c) (ap (λ (z : ℕ). on z i) (ex p)) (a i ∙ ap (first w l i) n) ∙ ap (first w l i) (sym m))
    (λ p.
    let m : min j (h - l) ≡ min (suc j) (h - l) = omega arith in
    ap (λ (z : ℕ). on z i) (er ∙ ap (λ (b : Bool). cond b (bit_and x all) all) (le-ltb j (h - l) p)) ∙ a i ∙ ap (first w l i) m)

-- they are those whose count is above j
digit : (w : List ℕ) (h l j all : ℕ) → j ≤ 16 → AllAt w h l (suc j) all → Digits w h l j all
unfolding lap_count
digit w h l j all p a i = a i ∙ sym (lap_above (has w i) l (h - l) j p)

-- at the first step
begin : (w : List ℕ) (h l : ℕ) → l < h → AllAt w h l 1 (get_or w l 0)
unfolding every
begin w h l some i =
    let e : l ≡ l + 0 = omega arith in
    let n : 1 ≡ min 1 (h - l) = omega arith in
    ap (has w i) e ∙ sym (and-true (has w i (l + 0))) ∙ ap (first w l i) n

pub loop-j-init : goal.loop-j-init
loop-j-init c = let s = c in
    let a = s.args in
    (begin a.w.now a.lasso.h a.lasso.l a.lasso.lap, begun (Digits a.w.now a.lasso.h a.lasso.l) a.lasso.h 0 a.w.now)

pub loop-j-preserved : goal.loop-j-preserved
loop-j-preserved c = let a = c.args in
    let v = c.loop-j in
    let w = a.w.now in
    let j = v.j + 1 in
    let stored =
    upward (Digits w a.lasso.h a.lasso.l) a.lasso.h 0 v.j (a.lasso.h + v.j) v.all w v.w v.invariant.1 (omega arith) (omega arith) (omega arith)
    (digit w a.lasso.h a.lasso.l v.j v.all (omega arith) v.invariant.0) in
    let e : suc v.j ≡ j = omega arith in (
      further w a.lasso.h a.lasso.l j _ v.all c.one_more-all.result (λ p. stored.below (a.lasso.l + j) (omega arith)) c.one_more-all.ensures
          (subst (λ (k : ℕ). AllAt w a.lasso.h a.lasso.l k v.all) e v.invariant.0),
      stored,
    )

pub returns : goal.returns
returns c = ended (omega arith) c.loop-j.invariant.1
