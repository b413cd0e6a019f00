-- A row made bit by bit, and of two parts.
use Rattle.std.specs.Prelude.{ℕ, ◌+◌, ◌*◌, ◌-◌, ◌^◌, ◌≤◌, ◌<◌, ◌≡◌, Bool, true, false, cond, ◌||◌}
use Rattle.std.proofs.Common.{sym, ap, ap₂, subst, ◌∙◌, arith, pow_pos, pow_mono, shl_lt}
use Rattle.std.proofs.Math.Bool.{or-false}
use Rattle.std.specs.Int.Bits.{bit_or}
use Rattle.std.proofs.lemmas.Nat.{or_lt, shl-shr}
use Rattle.row.specs.Round.{pick}
use Rattle.mask.specs.Mask.{on, Row}
use Rattle.mask.specs.EachBit.{on_or, on_shr, on_under, on_beyond, on_zero, on_ones}

pub begun : (f : ℕ → Bool) → Row 0 0 f
begun f = record { low = pow_pos 0; at = λ s p. absurd (omega arith) }

-- a row of k steps below one of n steps
pub parts : (k n low high : ℕ) (f : ℕ → Bool) → Row k low f → Row n high (λ j. f (k + j)) → Row (n + k) (bit_or low (high * 2 ^ k)) f
parts k n low high f a b = record {
  low = or_lt (n + k) low (high * 2 ^ k) (omega (arith, a.low, pow_mono {i = k} {j = n + k} (omega arith))) (shl_lt n k b.low);
  at = λ s p.
      on_or low (high * 2 ^ k) s
      ∙ pick s k ((on low s || on (high * 2 ^ k) s) ≡ f s)
      (λ q. ap₂ (λ (x y : Bool). x || y) (a.at s q) (on_under high k s q) ∙ or-false (f s))
      (λ q.
      let e : k + (s - k) ≡ s = omega arith in
      ap₂ (λ (x y : Bool). x || y) (on_beyond low k s a.low q)
      (ap (on (high * 2 ^ k)) (sym e) ∙ sym (on_shr (high * 2 ^ k) k (s - k)) ∙ ap (λ (x : ℕ). on x (s - k)) (shl-shr high k) ∙ b.at (s - k) (omega arith)
      ∙ ap f e));
}

one : (b : Bool) (g : ℕ → Bool) → b ≡ g 0 → Row 1 (cond b 1 0) g
one b g e = record { low = small b; at = λ s p. let z : 0 ≡ s = omega arith in ap (on (cond b 1 0)) (sym z) ∙ tells b ∙ e ∙ ap g z }
  where
    small : (b : Bool) → cond b 1 0 < 2 ^ 1
    small true = omega arith
    small false = omega arith

    tells : (b : Bool) → on (cond b 1 0) 0 ≡ b
    tells true = on_ones 1 0 (omega arith)
    tells false = on_zero 0

-- one bit more
pub onward : (j row bit : ℕ) (f : ℕ → Bool) → Row j row f → bit ≡ cond (f j) (2 ^ j) 0 → Row (j + 1) (bit_or row bit) f
onward j row bit f r e =
    let z : j ≡ j + 0 = omega arith in
    let n : 1 + j ≡ j + 1 = omega arith in
    subst (λ (k : ℕ). Row k (bit_or row bit) f) n
    (subst (λ (y : ℕ). Row (1 + j) (bit_or row y) f) (moved (f j) ∙ sym e) (parts j 1 row (cond (f j) 1 0) f r (one (f j) (λ i. f (j + i)) (ap f z))))
  where
    moved : (b : Bool) → cond b 1 0 * 2 ^ j ≡ cond b (2 ^ j) 0
    moved true = omega arith
    moved false = omega arith

-- of h numbers from `at` on, the first 32 and those behind them
pub halves : (h low high up at : ℕ) (f : ℕ → Bool) → 32 ≤ h → up ≡ high * 2 ^ 32 → Row 32 low (λ j. f (at + j)) → Row (h - 32) high (λ j. f (at + 32 + j))
    → Row h (bit_or low up) (λ j. f (at + j))
halves h low high up at f p e a b =
    let g : ℕ → Bool = λ j. f (at + j) in
    let n : h - 32 + 32 ≡ h = omega arith in
    let behind : Row (h - 32) high (λ j. g (32 + j)) =
    record { low = b.low; at = λ j q. let z : at + 32 + j ≡ at + (32 + j) = omega arith in b.at j q ∙ ap f z } in
    subst (λ (y : ℕ). Row h (bit_or low y) g) (sym e) (subst (λ (k : ℕ). Row k (bit_or low (high * 2 ^ 32)) g) n (parts 32 (h - 32) low high g a behind))
