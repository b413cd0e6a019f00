use Prim.Native.Nat.{ℕ, ◌+◌, ◌-◌, ◌≤◌, ◌<◌}
use mathlib.Core.Path.{◌≡◌, sym, ap, subst, ◌∙◌}
use mathlib.Core.List.{List}
use native.Mathlib.Omega.{arith}
use lib.Dec.{ltb}
use lib.ListN.{get_or}
use Rattle.row.specs.Round.{step_low}
use Rattle.cltl.specs.Rules.{window}
use Rattle.cltl.proofs.Quorum.{window_none}
use Rattle.cltl.specs.Running.{walk, lap_count, running_count}
use Rattle.cltl.proofs.AboveDrift.{window_above}
use Rattle.mask.specs.Mask.{on}
use Rattle.table.specs.Table.{Stored}
use Rattle.quorum.specs.Words.{has}
use Rattle.quorum.specs.Unary.{Above, InUnary, WalkedBack}
use Rattle.quorum.specs.Walking.{walk_agrees}
use Rattle.quorum.proofs.running.windows.Goals as goal

-- without drift a window is the step itself
pub returns-then-d-eq0-clause-by_index : goal.returns-then-d-eq0-clause-by_index
returns-then-d-eq0-clause-by_index c = let a = c.args in
    let w = a.w.now in
    λ v i p.
    let e : 0 + v ≡ v = omega arith in
    let z : 0 ≡ a.d = omega (arith, c.if-d-eq0.true) in
    ap (has w i) e ∙ sym (window_none a.lasso.h a.lasso.l (has w i) v p) ∙ ap (λ (d : ℕ). window a.lasso.h a.lasso.l (has w i) d v) z

-- the lap's own count walked back over all steps is the running count
running : (h l d : ℕ) (w₀ w₁ w₂ : List ℕ) → l < h → d ≤ 16 → Stored (Above (λ i. lap_count h l (has w₀ i))) h 0 17 w₀ w₁ → WalkedBack 0 h d w₁ w₂
    → (s i : ℕ) → s < h → on (get_or w₂ (17 + s) 0) i ≡ window h l (has w₀ i) d s
unfolding running_count
running h l d w₀ w₁ w₂ some few lap walked s i p =
    let n : 0 + h - s ≡ h - s = omega arith in
    walked.above count start s (omega arith) (omega arith) i
    ∙ ap (ltb d) (walk_agrees (has w₁ i) (has w₀ i) s (0 + h - s) (count i) (λ k _ q. ap (λ (x : ℕ). on x i) (lap.below k (omega arith)))
    ∙ ap (λ (k : ℕ). walk (has w₀ i) s k (count i)) n)
    ∙ sym (window_above h l some (has w₀ i) d s few ∙ ap (λ (k : ℕ). ltb d (running_count h l (has w₀ i) k)) (step_low h l s p))
  where
    count : ℕ → ℕ
    count i = lap_count h l (has w₀ i)

    start : InUnary w₁ (0 + h) count
    start j q = let e : h + j ≡ 0 + h + j = omega arith in subst (λ (k : ℕ). Above count j (get_or w₁ k 0)) e (lap.each j (omega arith) (omega arith))

pub returns-clause-by_index : goal.returns-clause-by_index
returns-clause-by_index c = let a = c.args in
    running a.lasso.h a.lasso.l a.d a.w.now _ _ a.lasso.lap c.requires.d_bound c.lap_count.ensures c.walk_back.ensures
