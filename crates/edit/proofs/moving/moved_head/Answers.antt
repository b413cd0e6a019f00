use Prim.Native.Nat.{ℕ, ◌-◌}
use native.Mathlib.Omega.{arith}
use mathlib.Core.Path.{◌≡◌, sym, ap₂, ◌∙◌}
use Rattle.plan.specs.Numbers.{head_of}
use Rattle.plan.specs.declared.Head.{Head}
use Rattle.row.specs.Round.{pick}
use Rattle.edit.specs.Moved.{moved_head}
use Rattle.edit.proofs.Later.{head_early, head_late}
use Rattle.edit.proofs.moving.moved_head.Goals as goal

less : (h : Head) (g k l : ℕ) → h.steps - g ≡ k → h.stem - g ≡ l → head_of (h.steps - g) (h.stem - g) h.drift ≡ head_of k l h.drift
less h g k l a b = ap₂ (λ (x y : ℕ). head_of x y h.drift) a b

pub returns : goal.returns
returns c =
    let h = c.args.h in
    let s = c.args.s in
    let g = c.min-gone.result in
    pick h.stem s (head_of (h.steps - g) (h.stem - g) h.drift ≡ moved_head s h)
    (λ l. less h g (h.steps - h.stem) 0 (omega (arith, c.min-gone.ensures)) (omega (arith, c.min-gone.ensures)) ∙ sym (head_late s h l))
    (λ l. less h g (h.steps - s) (h.stem - s) (omega (arith, c.min-gone.ensures)) (omega (arith, c.min-gone.ensures)) ∙ sym (head_early s h l))
