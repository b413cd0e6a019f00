-- The marks of places joined, and their highest.
use Prim.Native.Nat.{ℕ, zero, suc, ◌+◌, ◌*◌, ◌-◌, ◌/◌, ◌%◌, ◌^◌, ◌≤◌, ◌<◌}
use mathlib.Core.Path.{◌≡◌, sym, ap, ◌∙◌}
use mathlib.Core.Bool.{Bool, true, false, ◌||◌}
use mathlib.Core.List.{List}
use native.Mathlib.Omega.{arith}
use native.Mathlib.Nat.{pow-suc}
use lib.Bits.{bit_or, or_lt}
use lib.Count.{count_leading_zeros, leading_length}
use lib.Pow.{high}
use Rattle.refusal.specs.Faults.{either_false}
use Rattle.row.specs.Round.{pick}
use Rattle.mask.specs.Mask.{on}
use Rattle.mask.specs.EachBit.{on_or, on_zero, on_one, on_beyond}
use Rattle.marks.specs.Bears.{marks_of, Borne}

-- x has the marks of the first n places, and no other
pub record Joined (floor : List ℕ) (n x : ℕ) : Type 0 where
  pub low : x < 2 ^ 32
  pub none : (q k : ℕ) → q < n → on x k ≡ false → on (marks_of floor q) k ≡ false
  pub some : (k : ℕ) → on x k ≡ true → (q : ℕ) × (q < n) × (on (marks_of floor q) k ≡ true)

never : {P : Type 0} → ◌≡◌ {A = Bool} false true → P
never e = let z : ◌≡◌ {A = ℕ} 0 1 = cc in absurd (omega arith)

module _ (floor : List ℕ) where
  pub begun : (n : ℕ) → n ≤ 0 → Joined floor n 0
  begun n none = record { low = omega arith; none = λ q k p. absurd (omega arith); some = λ k e. never (sym (on_zero k) ∙ e) }

  pub onward : (n x y : ℕ) → Joined floor n x → y < 2 ^ 32 → y ≡ marks_of floor n → Joined floor (n + 1) (bit_or x y)
  onward n x y j p here = record {
    low = or_lt 32 x y j.low p;
    none = λ q k p e.
        let w = either_false (on x k) (on y k) (sym (on_or x y k) ∙ e) in
        pick q n (◌≡◌ {A = Bool} (on (marks_of floor q) k) false) (λ u. j.none q k u w.0)
        (λ u. let d : q ≡ n = omega arith in ap (λ (i : ℕ). on (marks_of floor i) k) d ∙ ap (λ (z : ℕ). on z k) (sym here) ∙ w.1);
    some = λ k e. either (on x k) (on y k) k (λ u. j.some k u) (λ u. ap (λ (z : ℕ). on z k) (sym here) ∙ u) (sym (on_or x y k) ∙ e);
  }
    where
      either : (a b : Bool) (k : ℕ) → (a ≡ true → (q : ℕ) × (q < n) × (on (marks_of floor q) k ≡ true)) → (b ≡ true → on (marks_of floor n) k ≡ true)
          → a || b ≡ true → (q : ℕ) × (q < n + 1) × (on (marks_of floor q) k ≡ true)
      either true b k f g e = let w = f e in (w.0, omega (arith, w.1), w.2)
      either false b k f g e = (n, omega arith, g e)

-- the digits up to the highest
pub highest : (floor : List ℕ) (places x r : ℕ) → r ≡ 32 - count_leading_zeros 32 x → Joined floor places x → Borne floor places r
highest floor places x r e j = record {
  few = omega arith;
  none = λ q k p u v. j.none q k p (on_beyond x l.0 k l.2 (omega (arith, l.1)));
  some = λ p. j.some (r - 1) (top l.0 l.1 l.2 l.3 p);
}
  where
    l : (m : ℕ) × (count_leading_zeros 32 x + m ≡ 32) × (x < 2 ^ m) × (2 ^ m ≤ 2 * x + 1)
    l = leading_length 32 x j.low

    top : (m : ℕ) → count_leading_zeros 32 x + m ≡ 32 → x < 2 ^ m → 2 ^ m ≤ 2 * x + 1 → 0 < r → on x (r - 1) ≡ true
    top zero a b c p = absurd (omega arith)
    top (suc m) a b c p =
        let w : x ≡ 1 * 2 ^ m + (x - 2 ^ m) = omega (arith, pow-suc 2 m) in
        let d : r - 1 ≡ m = omega arith in
        let rest : x - 2 ^ m < 2 ^ m = omega (arith, pow-suc 2 m) in
        ap (on x) d ∙ on_one x m (ap (λ (y : ℕ). y / 2 ^ m % 2) w ∙ ap (λ (y : ℕ). y % 2) (high 1 m rest))
