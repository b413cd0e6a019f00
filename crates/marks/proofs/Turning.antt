-- Bits chosen out of two words by a mask, four by four.
use Prim.Native.Nat.{ℕ, zero, suc, ◌+◌, ◌*◌, ◌-◌, ◌/◌, ◌%◌, ◌^◌, ◌<◌}
use mathlib.Core.Path.{◌≡◌, refl, sym, ap, subst, ◌∙◌}
use mathlib.Core.Bool.{Bool, true, false, not, cond, ◌&&◌, ◌||◌}
use native.Mathlib.Omega.{arith}
use lib.Bits.{bit_and, bit_or, bit_xor}
use lib.Dec.{eqb}
use lib.Pow.{shl-shr, field, mod-mod-pow}
use Rattle.row.specs.Round.{pick}
use Rattle.mask.specs.Mask.{on}
use Rattle.mask.specs.EachBit.{on_and, on_or, on_except, on_shr}
use Rattle.table.specs.Table.{Word}
use Rattle.marks.specs.Fours.{Fours}

-- what holds of 0 to 3 holds of each number below 4
pub four : (P : ℕ → Type 0) → P 0 → P 1 → P 2 → P 3 → (n : ℕ) → n < 4 → P n
four P a b c d zero p = a
four P a b c d (suc zero) p = b
four P a b c d (suc (suc zero)) p = c
four P a b c d (suc (suc (suc zero))) p = d
four P a b c d (suc (suc (suc (suc n)))) p = absurd (omega arith)

-- the bits below w of a number's rest
pub on_rest : (x w j : ℕ) → j < w → on (x % 2 ^ w) j ≡ on x j
unfolding on
on_rest x w j p =
    let n = w - j - 1 in
    let e : w ≡ n + 1 + j = omega arith in
    let d : x % 2 ^ w / 2 ^ j ≡ x / 2 ^ j % 2 ^ (n + 1) = ap (λ (k : ℕ). x % 2 ^ k / 2 ^ j) e ∙ field x (n + 1) j in
    ap (λ (y : ℕ). eqb (y % 2) 1) d ∙ ap (λ (y : ℕ). eqb y 1) (mod-mod-pow (x / 2 ^ j) n 1)

word : {x y : ℕ} → x ≡ y → (j : ℕ) → on x j ≡ on y j
word e j = ap (λ (x : ℕ). on x j) e

-- moved up in a word
up : (x d i j : ℕ) → j ≡ d + i → j < 32 → on (x * 2 ^ d % 2 ^ 32) j ≡ on x i
up x d i j e p =
    on_rest (x * 2 ^ d) 32 j p ∙ ap (on (x * 2 ^ d)) e ∙ sym (on_shr (x * 2 ^ d) d i) ∙ ap (λ (y : ℕ). on y i) (shl-shr x d)

-- moved down
down : (x d i j : ℕ) → i ≡ d + j → on (x / 2 ^ d) j ≡ on x i
down x d i j e = on_shr x d j ∙ ap (on x) (sym e)

chosen : (m x y : Bool) → x && m || y && not m ≡ cond m x y
chosen true true true = refl
chosen true true false = refl
chosen true false true = refl
chosen true false false = refl
chosen false true true = refl
chosen false true false = refl
chosen false false true = refl
chosen false false false = refl

pub choose_bits : (m x y : ℕ) → Word (λ j. cond (on m j) (on x j) (on y j)) (bit_or (bit_and x m) (bit_xor y (bit_and y m)))
choose_bits m x y j p =
    on_or (bit_and x m) (bit_xor y (bit_and y m)) j
    ∙ ap (λ (b : Bool). b || on (bit_xor y (bit_and y m)) j) (on_and x m j)
    ∙ ap (λ (b : Bool). on x j && on m j || b) (on_except y m j)
    ∙ chosen (on m j) (on x j) (on y j)

eight : (P : ℕ → Type 0) → P 0 → P 1 → P 2 → P 3 → P 4 → P 5 → P 6 → P 7 → (n : ℕ) → n < 8 → P n
eight P a b c d e f g h n p =
    pick n 4 (P n) (four P a b c d n) (λ q. let z : n - 4 + 4 ≡ n = omega arith in subst P z (four (λ k. P (k + 4)) e f g h (n - 4) (omega arith)))

-- a mask of the same four bits again and again
abbrev Mask : ℕ → (a b c d : Bool) → Type 0
Mask x a b c d = Fours (λ j. a) (λ j. b) (λ j. c) (λ j. d) x

abbrev At : ℕ → (a b c d : Bool) → ℕ → Type 0
At x a b c d m = (on x (4 * m) ≡ a) × (on x (4 * m + 1) ≡ b) × (on x (4 * m + 2) ≡ c) × (on x (4 * m + 3) ≡ d)

by_one : Mask 0x55555555 true false true false
unfolding on
by_one = eight (At 0x55555555 true false true false)
    (refl, refl, refl, refl) (refl, refl, refl, refl) (refl, refl, refl, refl) (refl, refl, refl, refl) (refl, refl, refl, refl) (refl, refl, refl, refl)
    (refl, refl, refl, refl) (refl, refl, refl, refl)

by_two : Mask 0x33333333 true true false false
unfolding on
by_two = eight (At 0x33333333 true true false false)
    (refl, refl, refl, refl) (refl, refl, refl, refl) (refl, refl, refl, refl) (refl, refl, refl, refl) (refl, refl, refl, refl) (refl, refl, refl, refl)
    (refl, refl, refl, refl) (refl, refl, refl, refl)

-- r's bits out of x where the mask has one, and out of y elsewhere
abbrev pub Chosen : (mask x y r : ℕ) → Type 0
Chosen mask x y r = Word (λ j. cond (on mask j) (on x j) (on y j)) r

module _ (mask x y r : ℕ) (w : Chosen mask x y r) (j : ℕ) (p : j < 32) where
  from_x : on mask j ≡ true → on r j ≡ on x j
  from_x e = w j p ∙ ap (λ (b : Bool). cond b (on x j) (on y j)) e

  from_y : on mask j ≡ false → on r j ≡ on y j
  from_y e = w j p ∙ ap (λ (b : Bool). cond b (on x j) (on y j)) e

module _ (mask x y r : ℕ) (w : Chosen mask x y r) where
  one_by_one : mask ≡ 0x55555555 → Fours (λ j. on x j) (λ j. on y (j + 1)) (λ j. on x (j + 2)) (λ j. on y (j + 3)) r
  one_by_one e m p =
      let b = by_one m p in
      let at = 4 * m in (
        from_x mask x y r w at (omega arith) (word e at ∙ b.0),
        from_y mask x y r w (at + 1) (omega arith) (word e (at + 1) ∙ b.1),
        from_x mask x y r w (at + 2) (omega arith) (word e (at + 2) ∙ b.2),
        from_y mask x y r w (at + 3) (omega arith) (word e (at + 3) ∙ b.3),
      )

  two_by_two : mask ≡ 0x33333333 → Fours (λ j. on x j) (λ j. on x (j + 1)) (λ j. on y (j + 2)) (λ j. on y (j + 3)) r
  two_by_two e m p =
      let b = by_two m p in
      let at = 4 * m in (
        from_x mask x y r w at (omega arith) (word e at ∙ b.0),
        from_x mask x y r w (at + 1) (omega arith) (word e (at + 1) ∙ b.1),
        from_y mask x y r w (at + 2) (omega arith) (word e (at + 2) ∙ b.2),
        from_y mask x y r w (at + 3) (omega arith) (word e (at + 3) ∙ b.3),
      )

module _ (a b mask x y r : ℕ) (w : Chosen mask x y r) where
  pub even_bits : (mask ≡ 0x55555555) × (x ≡ a) × (y ≡ b * 2 ^ 1 % 2 ^ 32) → Fours (λ j. on a j) (λ j. on b j) (λ j. on a (j + 2)) (λ j. on b (j + 2)) r
  even_bits e m p =
      let z = one_by_one mask x y r w e.0 m p in
      let at = 4 * m in (
        z.0 ∙ word e.1 at,
        z.1 ∙ word e.2 (at + 1) ∙ up b 1 at (at + 1) (omega arith) (omega arith),
        z.2 ∙ word e.1 (at + 2),
        z.3 ∙ word e.2 (at + 3) ∙ up b 1 (at + 2) (at + 3) (omega arith) (omega arith),
      )

  pub odd_bits : (mask ≡ 0x55555555) × (x ≡ a / 2 ^ 1) × (y ≡ b) → Fours (λ j. on a (j + 1)) (λ j. on b (j + 1)) (λ j. on a (j + 3)) (λ j. on b (j + 3)) r
  odd_bits e m p =
      let z = one_by_one mask x y r w e.0 m p in
      let at = 4 * m in (
        z.0 ∙ word e.1 at ∙ down a 1 (at + 1) at (omega arith),
        z.1 ∙ word e.2 (at + 1),
        z.2 ∙ word e.1 (at + 2) ∙ down a 1 (at + 3) (at + 2) (omega arith),
        z.3 ∙ word e.2 (at + 3),
      )

  pub lower_bits : (mask ≡ 0x33333333) × (x ≡ a) × (y ≡ b * 2 ^ 2 % 2 ^ 32) → Fours (λ j. on a j) (λ j. on a (j + 1)) (λ j. on b j) (λ j. on b (j + 1)) r
  lower_bits e m p =
      let z = two_by_two mask x y r w e.0 m p in
      let at = 4 * m in (
        z.0 ∙ word e.1 at,
        z.1 ∙ word e.1 (at + 1),
        z.2 ∙ word e.2 (at + 2) ∙ up b 2 at (at + 2) (omega arith) (omega arith),
        z.3 ∙ word e.2 (at + 3) ∙ up b 2 (at + 1) (at + 3) (omega arith) (omega arith),
      )

  pub upper_bits : (mask ≡ 0x33333333) × (x ≡ a / 2 ^ 2) × (y ≡ b) → Fours (λ j. on a (j + 2)) (λ j. on a (j + 3)) (λ j. on b (j + 2)) (λ j. on b (j + 3)) r
  upper_bits e m p =
      let z = two_by_two mask x y r w e.0 m p in
      let at = 4 * m in (
        z.0 ∙ word e.1 at ∙ down a 2 (at + 2) at (omega arith),
        z.1 ∙ word e.1 (at + 1) ∙ down a 2 (at + 3) (at + 1) (omega arith),
        z.2 ∙ word e.2 (at + 2),
        z.3 ∙ word e.2 (at + 3),
      )

-- what four words have of mark j + e
abbrev pub Side : (e a b c d x : ℕ) → Type 0
Side e a b c d x = Fours (λ j. on a (j + e)) (λ j. on b (j + e)) (λ j. on c (j + e)) (λ j. on d (j + e)) x

-- every other bit of two words
abbrev pub Pairs : (e a b x : ℕ) → Type 0
Pairs e a b x = Fours (λ j. on a (j + e)) (λ j. on b (j + e)) (λ j. on a (j + (2 + e))) (λ j. on b (j + (2 + e))) x

pub even_pairs : (a b x : ℕ) → Fours (λ j. on a j) (λ j. on b j) (λ j. on a (j + 2)) (λ j. on b (j + 2)) x → Pairs 0 a b x
even_pairs a b x w m p =
    let z = w m p in
    let e : 4 * m ≡ 4 * m + 0 = omega arith in
    (z.0 ∙ ap (on a) e, z.1 ∙ ap (on b) e, z.2, z.3)

module _ (e a b c d x y x' y' z : ℕ) (u : Pairs e a b x) (v : Pairs e c d y) where
  pub lower_side : Fours (λ j. on x' j) (λ j. on x' (j + 1)) (λ j. on y' j) (λ j. on y' (j + 1)) z → (x' ≡ x) × (y' ≡ y) → Side e a b c d z
  lower_side w s m p =
      let l = w m p in
      (l.0 ∙ word s.0 _ ∙ (u m p).0, l.1 ∙ word s.0 _ ∙ (u m p).1, l.2 ∙ word s.1 _ ∙ (v m p).0, l.3 ∙ word s.1 _ ∙ (v m p).1)

  pub upper_side : Fours (λ j. on x' (j + 2)) (λ j. on x' (j + 3)) (λ j. on y' (j + 2)) (λ j. on y' (j + 3)) z → (x' ≡ x) × (y' ≡ y)
      → Side (2 + e) a b c d z
  upper_side w s m p =
      let l = w m p in
      (l.0 ∙ word s.0 _ ∙ (u m p).2, l.1 ∙ word s.0 _ ∙ (u m p).3, l.2 ∙ word s.1 _ ∙ (v m p).2, l.3 ∙ word s.1 _ ∙ (v m p).3)
