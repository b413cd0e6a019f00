-- The row of what comes a step later.
use Prim.Native.Nat.{ℕ, suc, ◌+◌, ◌*◌, ◌-◌, ◌/◌, ◌%◌, ◌^◌, ◌≤◌, ◌<◌}
use Rattle.std.specs.Prelude.{◌≡◌, Bool, ◌||◌}
use Rattle.std.proofs.Common.{sym, ◌∙◌, shl_lt}
use Rattle.std.proofs.Math.Path.{ap, ap₂, subst}
use Rattle.std.proofs.Math.Bool.{or-false}
use native.Mathlib.Omega.{arith}
use Rattle.std.proofs.Math.Nat.{mod-eq_of_lt}
use Rattle.std.specs.Int.Bits.{bit_or, or_lt}
use Rattle.std.proofs.Math.Pow.{pow_mono}
use Rattle.row.specs.Lasso.{next_step}
use Rattle.row.specs.Round.{pick, next_low, next_last}
use Rattle.mask.specs.Mask.{on, Row}
use Rattle.mask.specs.EachBit.{on_or, on_shr, on_beyond, on_moved, on_under}

-- the lap's first bit moved up to the last step
module _ (a h l : ℕ) (low : a < 2 ^ h) (some : l < h) (few : h ≤ 64) where
  last : ℕ
  last = a / 2 ^ l % 2 * 2 ^ (h - 1)

  last_lt : last < 2 ^ h
  unfolding last
  last_lt =
      let e : 1 + (h - 1) ≡ h = omega arith in
      subst (λ (k : ℕ). last < 2 ^ k) e (shl_lt 1 (h - 1) (omega arith))

  last_fits : last % 2 ^ 64 ≡ last
  unfolding last
  last_fits = mod-eq_of_lt (omega (arith, last_lt, pow_mono {i = h} {j = 64} few))

  -- "After step h − 1 comes step l"
  turns : (s : ℕ) → s < h → on (bit_or (a / 2) last) s ≡ on a (next_step h l s)
  unfolding last
  turns s p =
      let n : 1 + s ≡ suc s = omega arith in
      let e : on (a / 2) s ≡ on a (suc s) = on_shr a 1 s ∙ ap (on a) n in
      on_or (a / 2) last s
      ∙ pick (suc s) h (◌≡◌ {A = Bool} (on (a / 2) s || on last s) (on a (next_step h l s)))
      (λ q. ap₂ (λ (x y : Bool). x || y) e (on_under (a / 2 ^ l % 2) (h - 1) s (omega arith)) ∙ or-false (on a (suc s)) ∙ ap (on a) (sym (next_low h l s q)))
      (λ q.
      let k : s ≡ h - 1 = omega arith in
      ap₂ (λ (x y : Bool). x || y) (e ∙ on_beyond a h (suc s) low q) (ap (on last) k ∙ on_moved a l (h - 1))
      ∙ ap (on a) (sym (next_last h l s q)))

  pub turned : (t : ℕ) → t ≡ a / 2 ^ l % 2 → Row h (bit_or (a / 2) (t * 2 ^ (h - 1) % 2 ^ 64)) (λ s. on a (next_step h l s))
  unfolding last
  turned t e =
      subst (λ (x : ℕ). Row h (bit_or (a / 2) x) (λ s. on a (next_step h l s))) (sym (ap (λ (x : ℕ). x * 2 ^ (h - 1) % 2 ^ 64) e ∙ last_fits))
      (record { low = or_lt h (a / 2) last (omega (arith, low)) last_lt; at = turns })
