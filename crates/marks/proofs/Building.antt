-- A word built from its last bit on: each bit goes below the others.
use Prim.Native.Nat.{ℕ, zero, suc, ◌+◌, ◌*◌, ◌-◌, ◌/◌, ◌%◌, ◌^◌, ◌≤◌, ◌<◌}
use mathlib.Core.Path.{◌≡◌, refl, sym, ap, subst, ◌∙◌}
use mathlib.Core.Bool.{Bool, true, false}
use native.Mathlib.Omega.{arith}
use native.Mathlib.Nat.{pow-suc}
use lib.Dec.{eqb}
use lib.Pow.{pow_pos, pow_mono, shr-shr}
use Rattle.row.specs.Round.{pick}
use Rattle.mask.specs.Mask.{on, Row}
use Rattle.mask.specs.EachBit.{on_shr}

-- of h bits those from s on
abbrev pub Building : ℕ → (ℕ → Bool) → ℕ → ℕ → Type 0
Building h f row s = Row (h - s) row (λ j. f (s + j))

low_bit : (o t : ℕ) → t < 2 → on (o * 2 + t) 0 ≡ eqb t 1
unfolding on
low_bit o t p = let e : (o * 2 + t) / 2 ^ 0 % 2 ≡ t = omega arith in ap (λ (x : ℕ). eqb x 1) e

high_bit : (o t j : ℕ) → t < 2 → on (o * 2 + t) (suc j) ≡ on o j
high_bit o t j p =
    let e : (o * 2 + t) / 2 ^ 1 ≡ o = omega arith in
    let n : suc j ≡ 1 + j = omega arith in
    ap (on (o * 2 + t)) n ∙ sym (on_shr (o * 2 + t) 1 j) ∙ ap (λ (x : ℕ). on x j) e

-- a bit below the others
below : (n o t : ℕ) (g : ℕ → Bool) → t < 2 → eqb t 1 ≡ g 0 → Row n o (λ j. g (suc j)) → Row (suc n) (o * 2 + t) g
below n o t g p e r = record { low = omega (arith, r.low, pow-suc 2 n); at = tells }
  where
    tells : (j : ℕ) → j < suc n → on (o * 2 + t) j ≡ g j
    tells zero q = low_bit o t p ∙ e
    tells (suc j) q = high_bit o t j p ∙ r.at j (omega arith)

pub begun : (h : ℕ) (f : ℕ → Bool) (s : ℕ) → h ≤ s → Building h f 0 s
begun h f s q = record { low = pow_pos (h - s); at = λ j p. absurd (omega arith) }

-- there is room for four bits more
pub small : (h : ℕ) (f : ℕ → Bool) (row s : ℕ) → h ≤ 32 → 4 ≤ s → Building h f row s → row < 2 ^ 28
small h f row s few p b = omega (arith, b.low, pow_mono {i = h - s} {j = 28} (omega arith))

-- one bit more; beyond the last bit it is none
onward : (h : ℕ) (f : ℕ → Bool) (row s t : ℕ) → Building h f row (s + 1) → t < 2 → (s < h → eqb t 1 ≡ f s) → (h ≤ s → t ≡ 0)
    → Building h f (row * 2 + t) s
onward h f row s t b q here beyond = pick s h (Building h f (row * 2 + t) s) within behind
  where
    within : s < h → Building h f (row * 2 + t) s
    within p =
        let n : suc (h - (s + 1)) ≡ h - s = omega arith in
        let z : s ≡ s + 0 = omega arith in
        let g : ℕ → Bool = λ j. f (s + j) in
        let later : Row (h - (s + 1)) row (λ j. g (suc j)) =
        record { low = b.low; at = λ j u. let m : s + 1 + j ≡ s + suc j = omega arith in b.at j u ∙ ap f m } in
        subst (λ (k : ℕ). Row k (row * 2 + t) g) n (below (h - (s + 1)) row t g q (here p ∙ ap f z) later)

    behind : h ≤ s → Building h f (row * 2 + t) s
    behind p =
        let e : h - (s + 1) ≡ 0 = omega arith in
        let one : 2 ^ (h - (s + 1)) ≡ 1 = ap (λ (k : ℕ). 2 ^ k) e in
        let none : row * 2 + t ≡ 0 = omega (arith, b.low, beyond p) in
        subst (λ (x : ℕ). Building h f x s) (sym none) (begun h f s p)

no_bit : (t : ℕ) → t < 2 → eqb t 1 ≡ false → t ≡ 0
no_bit zero p e = refl
no_bit (suc t) p e =
    let d : suc t ≡ 1 = omega arith in
    let z : ◌≡◌ {A = Bool} true false = sym (ap (λ (x : ℕ). eqb x 1) d) ∙ e in
    let w : ◌≡◌ {A = ℕ} 0 1 = cc in
    absurd (omega arith)

digits : (n : ℕ) → n < 16 → ((n / 2 ^ 3 % 2 * 2 + n / 2 ^ 2 % 2) * 2 + n / 2 ^ 1 % 2) * 2 + n / 2 ^ 0 % 2 ≡ n
digits n p =
    let half : (x : ℕ) → x ≡ x / 2 ^ 1 * 2 + x % 2 = λ x. omega arith in
    let a : n / 2 ^ 1 ≡ n / 2 ^ 2 * 2 + n / 2 ^ 1 % 2 = half (n / 2 ^ 1) ∙ ap (λ (x : ℕ). x * 2 + n / 2 ^ 1 % 2) (shr-shr n 1 1) in
    let b : n / 2 ^ 2 ≡ n / 2 ^ 3 * 2 + n / 2 ^ 2 % 2 = half (n / 2 ^ 2) ∙ ap (λ (x : ℕ). x * 2 + n / 2 ^ 2 % 2) (shr-shr n 2 1) in
    let c : n / 2 ^ 3 % 2 ≡ n / 2 ^ 3 = omega arith in
    let d : n ≡ n / 2 ^ 1 * 2 + n / 2 ^ 0 % 2 = omega arith in
    omega arith

-- four bits more, those of n
pub four_onward : (h : ℕ) (f : ℕ → Bool) (row s n : ℕ) → Building h f row (s + 4) → n < 16 → ((c : ℕ) → c < 4 → s + c < h → on n c ≡ f (s + c))
    → ((c : ℕ) → c < 4 → h ≤ s + c → on n c ≡ false) → Building h f (row * 16 + n) s
unfolding on
four_onward h f row s n b p here beyond =
    let bit : ℕ → ℕ = λ c. n / 2 ^ c % 2 in
    let step : (r c : ℕ) → c < 4 → Building h f r (s + c + 1) → Building h f (r * 2 + bit c) (s + c) =
    λ r c q d. onward h f r (s + c) (bit c) d (omega arith) (here c q) (λ u. no_bit (bit c) (omega arith) (beyond c q u)) in
    let at : (i j r : ℕ) → i ≡ j → Building h f r i → Building h f r j = λ i j r e d. subst (Building h f r) e d in
    let r₃ = row * 2 + bit 3 in
    let r₂ = r₃ * 2 + bit 2 in
    let r₁ = r₂ * 2 + bit 1 in
    let d₃ = step row 3 (omega arith) (at (s + 4) (s + 3 + 1) row (omega arith) b) in
    let d₂ = step r₃ 2 (omega arith) (at (s + 3) (s + 2 + 1) r₃ (omega arith) d₃) in
    let d₁ = step r₂ 1 (omega arith) (at (s + 2) (s + 1 + 1) r₂ (omega arith) d₂) in
    let d₀ = step r₁ 0 (omega arith) (at (s + 1) (s + 0 + 1) r₁ (omega arith) d₁) in
    let whole : r₁ * 2 + bit 0 ≡ row * 16 + n = omega (arith, digits n p) in
    subst (λ (x : ℕ). Building h f x s) whole (at (s + 0) s _ (omega arith) d₀)

pub ended : (h : ℕ) (f : ℕ → Bool) (row s : ℕ) → s ≤ 0 → Building h f row s → Row h row f
ended h f row s p b =
    let e : h - s ≡ h = omega arith in
    let r : Row h row (λ j. f (s + j)) = subst (λ (n : ℕ). Row n row (λ j. f (s + j))) e b in
    record { low = r.low; at = λ j u. let m : s + j ≡ j = omega arith in r.at j u ∙ ap f m }
