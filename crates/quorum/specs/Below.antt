-- A number with no bit from k on is below 2 ^ k, and numbers with the same bits are the same.
use Rattle.std.specs.Prelude.{ℕ, zero, suc, ◌+◌, ◌*◌, ◌/◌, ◌%◌, ◌^◌, ◌≤◌, ◌<◌, ◌≡◌, refl, Bool, false, cond, eqb}
use Rattle.std.proofs.Common.{sym, ap, ◌∙◌, arith, mod-lt, pow-suc, pow_pos}
use Rattle.std.proofs.Math.Arith.{bin_ind}
use Rattle.std.proofs.Math.Pow.{split}
use Rattle.mask.specs.Mask.{on}
use Rattle.mask.specs.EachBit.{binary, on_shr}

pub lowest : (x : ℕ) → x % 2 ≡ cond (on x 0) 1 0
unfolding on
lowest x =
    let e : x % 2 ≡ x / 2 ^ 0 % 2 = omega arith in
    binary (λ t. t ≡ cond (eqb t 1) 1 0) refl refl x ∙ ap (λ (t : ℕ). cond (eqb t 1) 1 0) e

no_bits : (n : ℕ) → ((i : ℕ) → on n i ≡ false) → n ≡ 0
no_bits =
    bin_ind (λ (n : ℕ). ((i : ℕ) → on n i ≡ false) → n ≡ 0) (λ _. refl)
    (λ n ih none.
    let half = ih (λ i. on_shr n 1 i ∙ none (1 + i)) in
    let even : n % 2 ≡ 0 = lowest n ∙ ap (λ (b : Bool). cond b 1 0) (none 0) in
    omega arith)

pub below : (x k : ℕ) → ((i : ℕ) → k ≤ i → on x i ≡ false) → x < 2 ^ k
below x k none =
    let z : x / 2 ^ k ≡ 0 = no_bits (x / 2 ^ k) (λ i. on_shr x k i ∙ none (k + i) (omega arith)) in
    let e : x / 2 ^ k * 2 ^ k ≡ 0 * 2 ^ k = ap (λ (y : ℕ). y * 2 ^ k) z in
    omega (arith, split x k, mod-lt x (pow_pos k))

-- words with the same bits are the same
pub same_word : (n x y : ℕ) → x < 2 ^ n → y < 2 ^ n → ((i : ℕ) → i < n → on x i ≡ on y i) → x ≡ y
same_word zero x y p q e = omega arith
same_word (suc n) x y p q e =
    let half = same_word n (x / 2) (y / 2) (omega (arith, pow-suc 2 n)) (omega (arith, pow-suc 2 n))
    (λ i r. on_shr x 1 i ∙ e (1 + i) (omega arith) ∙ sym (on_shr y 1 i)) in
    let odd : x % 2 ≡ y % 2 = lowest x ∙ ap (λ (b : Bool). cond b 1 0) (e 0 (omega arith)) ∙ sym (lowest y) in
    omega arith
