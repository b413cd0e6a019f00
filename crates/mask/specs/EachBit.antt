-- Operations on masks go bit by bit.
use Rattle.std.specs.Prelude.{ℕ, zero, suc, ◌+◌, ◌*◌, ◌-◌, ◌/◌, ◌%◌, ◌^◌, ◌≤◌, ◌<◌, min, max, ◌≡◌, refl, Bool, true, false, not, ◌&&◌, ◌||◌}
use Rattle.std.proofs.Common.{sym, ◌∙◌, arith, mod-lt, pow-suc, mul_assoc, pow_pos, pow_mono, pow-add, shr-shr}
use Rattle.std.proofs.Math.Path.{ap}
use Rattle.std.proofs.Math.Bool.{xor}
use Rattle.std.proofs.Math.Nat.{min-le_left, max-le, div-eq_of_lt}
use Rattle.std.specs.Int.Bits.{bit_and, bit_or, bit_xor, differ, and_step, or_step, xor_step, shifted_even}
use Rattle.std.proofs.lemmas.Nat.{and_shr, or_shr, xor_shr, shl-shr}
use Rattle.std.proofs.Math.Pow.{ones_split, ones_lt, high}
use Rattle.std.proofs.Math.Dec.{eqb}
use Rattle.mask.specs.Mask.{on}

-- a digit is 0 or 1
pub binary : (P : ℕ → Type 0) → P 0 → P 1 → (n : ℕ) → P (n % 2)
binary P p q n = go (n % 2) (mod-lt n (omega arith))
  where
    go : (m : ℕ) → m < 2 → P m
    go zero h = p
    go (suc zero) h = q
    go (suc (suc m)) h = absurd (omega arith)

pub on_one : (a s : ℕ) → a / 2 ^ s % 2 ≡ 1 → on a s ≡ true
unfolding on
on_one a s e = ap (λ (x : ℕ). eqb x 1) e

pub on_none : (a s : ℕ) → a / 2 ^ s % 2 ≡ 0 → on a s ≡ false
unfolding on
on_none a s e = ap (λ (x : ℕ). eqb x 1) e

-- an operation f on digits that tells as g does
abbrev Tells : (ℕ → ℕ → ℕ) → (Bool → Bool → Bool) → ℕ → ℕ → Type 0
Tells f g m n = eqb (f m n) 1 ≡ g (eqb m 1) (eqb n 1)

module _ (op f : ℕ → ℕ → ℕ) (g : Bool → Bool → Bool) (shift : (a b k : ℕ) → op a b / 2 ^ k ≡ op (a / 2 ^ k) (b / 2 ^ k))
    (step : (a b : ℕ) → op a b % 2 ≡ f (a % 2) (b % 2)) (none : Tells f g 0 0) (right : Tells f g 0 1) (left : Tells f g 1 0)
    (both : Tells f g 1 1) where
  tells : (a b : ℕ) → Tells f g (a % 2) (b % 2)
  tells a b = binary (λ m. Tells f g m (b % 2)) (binary (Tells f g 0) none right b) (binary (Tells f g 1) left both b) a

  bitwise : (a b s : ℕ) → on (op a b) s ≡ g (on a s) (on b s)
  unfolding on
  bitwise a b s = ap (λ (x : ℕ). eqb (x % 2) 1) (shift a b s) ∙ ap (λ (x : ℕ). eqb x 1) (step (a / 2 ^ s) (b / 2 ^ s)) ∙ tells (a / 2 ^ s) (b / 2 ^ s)

pub on_and : (a b s : ℕ) → on (bit_and a b) s ≡ (on a s && on b s)
on_and = bitwise bit_and min (λ x y. x && y) and_shr (λ a b. omega (arith, and_step a b, min-le_left (a % 2) (b % 2))) refl refl refl refl

or_digit : (a b : ℕ) → max (a % 2) (b % 2) ≤ 1
or_digit a b = max-le (omega arith) (omega arith)

pub on_or : (a b s : ℕ) → on (bit_or a b) s ≡ (on a s || on b s)
on_or = bitwise bit_or max (λ x y. x || y) or_shr (λ a b. omega (arith, or_step a b, or_digit a b)) refl refl refl refl

differ_lt : (a b : ℕ) → differ (a % 2) (b % 2) < 2
differ_lt a b = binary (λ m. differ m (b % 2) < 2) (omega arith) (binary (λ n. differ 1 n < 2) (omega arith) (omega arith) b) a

pub on_xor : (a b s : ℕ) → on (bit_xor a b) s ≡ xor (on a s) (on b s)
unfolding xor
on_xor = bitwise bit_xor differ (λ x y. xor x y) xor_shr (λ a b. omega (arith, xor_step a b, differ_lt a b)) refl refl refl refl

except : (x y : Bool) → xor x (x && y) ≡ (x && not y)
unfolding xor
except true true = refl
except true false = refl
except false y = refl

-- a without the bits of b
pub on_except : (a b s : ℕ) → on (bit_xor a (bit_and a b)) s ≡ (on a s && not (on b s))
on_except a b s = on_xor a (bit_and a b) s ∙ ap (xor (on a s)) (on_and a b s) ∙ except (on a s) (on b s)

-- moved down
pub on_shr : (a k s : ℕ) → on (a / 2 ^ k) s ≡ on a (k + s)
unfolding on
on_shr a k s = ap (λ (x : ℕ). eqb (x % 2) 1) (shr-shr a k s)

-- nothing stands beyond a mask's bits
pub on_beyond : (a h s : ℕ) → a < 2 ^ h → h ≤ s → on a s ≡ false
unfolding on
on_beyond a h s p q =
    let z : a / 2 ^ s ≡ 0 = div-eq_of_lt (omega (arith, pow_mono {i = h} {j = s} q)) in
    ap (λ (x : ℕ). eqb (x % 2) 1) z

pub on_zero : (s : ℕ) → on 0 s ≡ false
on_zero s = on_beyond 0 0 s (omega arith) (omega arith)

-- h ones
pub on_ones : (h s : ℕ) → s < h → on (2 ^ h - 1) s ≡ true
unfolding on
on_ones h s p =
    let j : h ≡ suc (h - s - 1) + s = omega arith in
    let e : (2 ^ h - 1) / 2 ^ s ≡ 2 ^ suc (h - s - 1) - 1 =
    ap (λ (k : ℕ). (2 ^ k - 1) / 2 ^ s) j ∙ ap (λ (x : ℕ). x / 2 ^ s) (ones_split (suc (h - s - 1)) s) ∙ high (2 ^ suc (h - s - 1) - 1) s (ones_lt s) in
    let o : (2 ^ h - 1) / 2 ^ s % 2 ≡ 1 = omega (arith, pow-suc 2 (h - s - 1), pow_pos (h - s - 1)) in
    ap (λ (x : ℕ). eqb x 1) o

-- bit l alone moved up to k
pub on_moved : (a l k : ℕ) → on (a / 2 ^ l % 2 * 2 ^ k) k ≡ on a l
unfolding on
on_moved a l k =
    let d : a / 2 ^ l % 2 % 2 ≡ a / 2 ^ l % 2 = omega arith in
    ap (λ (x : ℕ). eqb (x % 2) 1) (shl-shr (a / 2 ^ l % 2) k) ∙ ap (λ (x : ℕ). eqb x 1) d

pub on_under : (t k s : ℕ) → s < k → on (t * 2 ^ k) s ≡ false
unfolding on
on_under t k s p =
    let j : k ≡ suc (k - s - 1) + s = omega arith in
    let e : t * 2 ^ k ≡ t * 2 ^ suc (k - s - 1) * 2 ^ s =
    ap (λ (i : ℕ). t * 2 ^ i) j ∙ ap (λ (x : ℕ). t * x) (pow-add 2 (suc (k - s - 1)) s) ∙ sym (mul_assoc t (2 ^ suc (k - s - 1)) (2 ^ s)) in
    let z : t * 2 ^ k / 2 ^ s % 2 ≡ 0 =
    ap (λ (x : ℕ). x / 2 ^ s % 2) e ∙ ap (λ (x : ℕ). x % 2) (shl-shr (t * 2 ^ suc (k - s - 1)) s) ∙ shifted_even t (k - s - 1) in
    ap (λ (x : ℕ). eqb x 1) z
