-- Until and release on the lasso: to the end, and once more from the lap's first step on.
use Prim.Native.Nat.{ℕ, zero, suc, ◌+◌, ◌-◌, ◌≤◌, ◌<◌}
use Rattle.std.specs.Prelude.{◌≡◌, Bool, true, false, not, T}
use Rattle.std.proofs.Math.Path.{sym, ap, ap₂}
use Rattle.std.proofs.Common.{subst, ◌∙◌}
use Rattle.std.proofs.Math.Bool.{not-not}
use native.Mathlib.Omega.{arith}
use Rattle.row.specs.Lasso.{next_step}
use Rattle.row.specs.Round.{next_low, next_last}
use Rattle.cltl.specs.Rules.{mix, fix}
use Rattle.cltl.proofs.Basics.{bool_ext}
use Rattle.mask.specs.Mask.{signed}
use Rattle.cltl.proofs.Lap.{enough, once, fix_law}
use Rattle.table.specs.Straight.{straight}

module _ (h l : ℕ) (some : l < h) (p : Bool) (a b : ℕ → Bool) where
  -- to the end, and m moves more from the lap's first step on
  to_end : (n m s : ℕ) → s + suc n ≡ h → fix h l p a b (suc (n + m)) s ≡ straight p a b (fix h l p a b m l) (suc n) s
  unfolding fix straight
  to_end zero m s e =
      let f : 0 + m ≡ m = omega arith in
      ap₂ (λ (n t : ℕ). mix p (a s) (b s) (fix h l p a b n t)) f (next_last h l s (omega arith))
  to_end (suc n) m s e =
      let f : suc n + m ≡ suc (n + m) = omega arith in
      ap₂ (λ (n t : ℕ). mix p (a s) (b s) (fix h l p a b n t)) f (next_low h l s (omega arith)) ∙ ap (mix p (a s) (b s)) (to_end n m (suc s) (omega arith))

  on_to_end : (m s : ℕ) → s < h → fix h l p a b (h - s + m) s ≡ straight p a b (fix h l p a b m l) (h - s) s
  on_to_end m s q =
      let e : h - s + m ≡ suc (h - s - 1 + m) = omega arith in
      let f : suc (h - s - 1) ≡ h - s = omega arith in
      ap (λ (n : ℕ). fix h l p a b n s) e ∙ to_end (h - s - 1) m s (omega arith) ∙ ap (λ (n : ℕ). straight p a b (fix h l p a b m l) n s) f

  -- over the lap alone, from its first step on
  pub turn : straight p a b (not p) (h - l) l ≡ fix h l p a b h l
  unfolding fix
  turn = let e : h - l + 0 ≡ h - l = omega arith in sym (on_to_end 0 l some) ∙ ap (λ (n : ℕ). fix h l p a b n l) e ∙ once h l some p a b

  pub lapped : (s : ℕ) → s < h → straight p a b (fix h l p a b h l) (h - s) s ≡ fix h l p a b h s
  lapped s q =
      ap (λ (x : Bool). straight p a b x (h - s) s) (sym (once h l some p a b)) ∙ sym (on_to_end (h - l) s q) ∙ enough h l some p a b s q

signed_ext : (p x y : Bool) → (T (signed p x) → T (signed p y)) → (T (signed p y) → T (signed p x)) → x ≡ y
signed_ext true x y f g = bool_ext x y f g
signed_ext false x y f g = sym (not-not x) ∙ ap not (bool_ext (not x) (not y) f g) ∙ not-not y

-- F and G: what is true of the lap is true at each of its steps
module _ (h l : ℕ) (some : l < h) (p : Bool) (b : ℕ → Bool) where
  abbrev ever : ℕ → Bool
  ever s = fix h l p (λ s. p) b h s

  -- what is so later is so now
  later : (p x y : Bool) → T (signed p y) → T (signed p (mix p p x y))
  later true true y q = tt
  later true false y q = q
  later false true y q = q
  later false false y q = tt

  step_back : (s : ℕ) → s < h → T (signed p (ever (next_step h l s))) → T (signed p (ever s))
  step_back s q x = subst (λ (y : Bool). T (signed p y)) (sym (fix_law h l some p (λ s. p) b s q)) (later p (b s) _ x)

  -- from a step back to an earlier one
  back_to : (n s : ℕ) → s + n < h → T (signed p (ever (s + n))) → T (signed p (ever s))
  back_to zero s q x = let e : s + 0 ≡ s = omega arith in subst (λ (t : ℕ). T (signed p (ever t))) e x
  back_to (suc n) s q x =
      let e : s + suc n ≡ suc s + n = omega arith in
      let y = back_to n (suc s) (omega arith) (subst (λ (t : ℕ). T (signed p (ever t))) e x) in
      step_back s (omega arith) (subst (λ (t : ℕ). T (signed p (ever t))) (sym (next_low h l s (omega arith))) y)

  -- from the lap's first step back to each of its steps
  round_to : (s : ℕ) → l ≤ s → s < h → T (signed p (ever l)) → T (signed p (ever s))
  round_to s q q' x =
      let e : s + (h - 1 - s) ≡ h - 1 = omega arith in
      back_to (h - 1 - s) s (omega arith)
      (subst (λ (t : ℕ). T (signed p (ever t))) (sym e)
      (step_back (h - 1) (omega arith) (subst (λ (t : ℕ). T (signed p (ever t))) (sym (next_last h l (h - 1) (omega arith))) x)))

  pub lap_long : (s : ℕ) → l ≤ s → s < h → ever l ≡ ever s
  lap_long s q q' =
      signed_ext p (ever l) (ever s) (round_to s q q')
      (λ x. let e : l + (s - l) ≡ s = omega arith in back_to (s - l) l (omega arith) (subst (λ (t : ℕ). T (signed p (ever t))) (sym e) x))

  -- through the run_in up to the lap's first step
  pub run_in : (n s : ℕ) → s + n ≡ l → straight p (λ s. p) b (ever l) n s ≡ ever s
  unfolding straight
  run_in zero s e = let f : l ≡ s = omega arith in ap ever f
  run_in (suc n) s e =
      ap (mix p p (b s)) (run_in n (suc s) (omega arith) ∙ ap ever (sym (next_low h l s (omega arith)))) ∙ sym (fix_law h l some p (λ s. p) b s (omega arith))
