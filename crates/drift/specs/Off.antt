-- The lowest step at which a row is false, looked for from step 0 on.
use Prim.Native.Nat.{ℕ, suc, ◌+◌, ◌-◌, ◌/◌, ◌%◌, ◌^◌, ◌≤◌, ◌<◌}
use native.Mathlib.Omega.{arith}
use Rattle.std.specs.Prelude.{◌≡◌, eqb}
use Rattle.std.proofs.Math.Path.{sym, ap}
use Rattle.std.proofs.Common.{◌∙◌}
use Rattle.std.proofs.Math.Bool.{cond}
use Rattle.cltl.specs.Step.{lowest}
use Rattle.mask.specs.Mask.{on}

module _ (a h s : ℕ) (left : lowest (on a) (h - s) s ≡ lowest (on a) h 0) where
  ahead : s < h → h - s ≡ suc (h - suc s)
  ahead p = omega arith

  pub off_here : s < h → a / 2 ^ s % 2 ≡ 0 → s ≡ lowest (on a) h 0
  unfolding lowest on
  off_here p e = sym (ap (λ (n : ℕ). lowest (on a) n s) (ahead p) ∙ ap (λ (x : ℕ). cond (eqb x 1) (lowest (on a) (h - suc s) (suc s)) s) e) ∙ left

  pub off_later : s < h → (a / 2 ^ s % 2 ≡ 0 → ⊥) → lowest (on a) (h - (s + 1)) (s + 1) ≡ lowest (on a) h 0
  unfolding lowest on
  off_later p f =
      let e : a / 2 ^ s % 2 ≡ 1 = odd (a / 2 ^ s % 2) f (omega arith) in
      let j : suc s ≡ s + 1 = omega arith in
      ap (λ (t : ℕ). lowest (on a) (h - t) t) (sym j)
      ∙ sym (ap (λ (n : ℕ). lowest (on a) n s) (ahead p) ∙ ap (λ (x : ℕ). cond (eqb x 1) (lowest (on a) (h - suc s) (suc s)) s) e) ∙ left
    where
      odd : (x : ℕ) → (x ≡ 0 → ⊥) → x < 2 → x ≡ 1
      odd x f q = omega arith

  pub off_none : h ≤ s → s ≤ h → h ≡ lowest (on a) h 0
  unfolding lowest
  off_none p q = let e : h - s ≡ 0 = omega arith in let z : s ≡ h = omega arith in sym z ∙ sym (ap (λ (n : ℕ). lowest (on a) n s) e) ∙ left
