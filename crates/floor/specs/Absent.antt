-- A group's field test, 6: a word is refused exactly if it has a bit of an absent cart.
use Rattle.std.specs.Prelude.{ℕ, suc, ◌/◌, ◌%◌, ◌^◌, ◌≤◌, ◌<◌, ◌≡◌, refl, Bool, true, false, leb}
use Rattle.std.proofs.Math.Nat.{div-eq_of_lt}
use Rattle.std.proofs.Common.{le-div_iff_mul-le, arith, ap, subst, pow_pos, pow_mono, shr_lt, leb-true, leb-false}
use Rattle.std.proofs.lemmas.Nat.{leading_top}

-- a word below 2 ^ c has no bit of a cart from c on
pub only_present : (c w n : ℕ) → w < 2 ^ c → c ≤ n → w / 2 ^ n % 2 ≡ 0
only_present c w n h l = ap (λ (x : ℕ). x % 2) (div-eq_of_lt {n = w} {m = 2 ^ n} (omega (arith, h, pow_mono {i = c} {j = n} l)))

-- any other has one: its highest
pub some_absent : (c w : ℕ) → w < 2 ^ 32 → 2 ^ c ≤ w → (n : ℕ) × (c ≤ n) × (w / 2 ^ n % 2 ≡ 1)
some_absent c w b h =
    let t = leading_top 32 w (omega (arith, h, pow_pos c)) b in
    let n = t.0 in
    let below : w / 2 ^ n < 2 = shr_lt 1 n (subst (λ (k : ℕ). w < 2 ^ k) (omega arith) t.3) in
    let above : 1 ≤ w / 2 ^ n = (le-div_iff_mul-le (pow_pos n)).1 (omega (arith, t.2)) in
    let one : w / 2 ^ n ≡ 1 = omega arith in
    (n, go n t.3 (leb c n) refl, ap (λ (x : ℕ). x % 2) one)
  where
    go : (n : ℕ) → w < 2 ^ suc n → (b : Bool) → leb c n ≡ b → c ≤ n
    go n l true e = leb-true c n e
    go n l false e = absurd (omega (arith, l, h, pow_mono {i = suc n} {j = c} (leb-false c n e)))
