-- Decimal digits stand for their number, and ten are enough for 32 bits.
use Rattle.std.specs.Prelude.{ℕ, zero, suc, ◌+◌, ◌*◌, ◌-◌, ◌/◌, ◌%◌, ◌^◌, ◌≤◌, ◌<◌, ◌≡◌, refl, Bool, true, false, List, [], ◌∷◌, ◌++◌, ltb, length, get_or}
use Rattle.std.proofs.Common.{arith, div-lt_iff_lt-mul, pow-suc, sym, ap, ap₂, ◌∙◌, length-append, ltb-true, ltb-false, lt-ltb, le-ltb}
use Rattle.std.proofs.Math.ListN.{get_or-append}
use Rattle.std.proofs.lemmas.List.{get_or_at}
use Rattle.line.specs.Decimal.{digit_byte, spelled, decimal, read_tens}
use Rattle.line.specs.Promises.{InDecimal}

-- any two bounds above a number give the same digits
same_digits : (k j n : ℕ) (b : Bool) → ltb n 10 ≡ b → n < k → n < j → spelled k b n ≡ spelled j b n
unfolding spelled
same_digits zero j n b e h i = absurd (omega arith)
same_digits (suc k) zero n b e h i = absurd (omega arith)
same_digits (suc k) (suc j) n true e h i = refl
same_digits (suc k) (suc j) n false e h i =
    let l = ltb-false n 10 e in
    ap (λ (s : List ℕ). s ++ (digit_byte (n % 10) ∷ [])) (same_digits k j (n / 10) (ltb (n / 10) 10) refl (omega arith) (omega arith))

pub decimal_one : (n : ℕ) → n < 10 → decimal n ≡ digit_byte n ∷ []
unfolding spelled
decimal_one n h = ap (λ (b : Bool). spelled (suc n) b n) (lt-ltb n 10 h)

pub decimal_more : (n : ℕ) → 10 ≤ n → decimal n ≡ decimal (n / 10) ++ (digit_byte (n % 10) ∷ [])
unfolding spelled
decimal_more n h =
    ap (λ (b : Bool). spelled (suc n) b n) (le-ltb n 10 h)
    ∙ ap (λ (s : List ℕ). s ++ (digit_byte (n % 10) ∷ [])) (same_digits n (suc (n / 10)) (n / 10) (ltb (n / 10) 10) refl (omega arith) (omega arith))

pub decimal_longer : (n : ℕ) → 10 ≤ n → length (decimal n) ≡ length (decimal (n / 10)) + 1
decimal_longer n h = ap length (decimal_more n h) ∙ length-append (decimal (n / 10)) (digit_byte (n % 10) ∷ [])

-- induction from a number's tenth part to the number
module _ (P : ℕ → Type 0) (one : (n : ℕ) → n < 10 → P n) (more : (n : ℕ) → 10 ≤ n → P (n / 10) → P n) where
  below : (k n : ℕ) → n < k → P n
  below zero n h = absurd (omega arith)
  below (suc k) n h = go (ltb n 10) refl (λ i. below k (n / 10) (omega arith))
    where
      go : (b : Bool) → ltb n 10 ≡ b → (10 ≤ n → P (n / 10)) → P n
      go true e tenth = one n (ltb-true n 10 e)
      go false e tenth = more n (ltb-false n 10 e) (tenth (ltb-false n 10 e))

  pub by_tenths : (n : ℕ) → P n
  by_tenths n = below (suc n) n (omega arith)

read_behind : (m : ℕ) (s : List ℕ) (b : ℕ) → read_tens m (s ++ (b ∷ [])) ≡ read_tens m s * 10 + (b - 48)
read_behind m [] b = refl
read_behind m (a ∷ s) b = read_behind (m * 10 + (a - 48)) s b

only_digit : (s : List ℕ) → length s ≡ 1 → s ≡ get_or s 0 0 ∷ []
only_digit [] e = absurd (omega arith)
only_digit (b ∷ []) e = refl
only_digit (b ∷ a ∷ s) e = absurd (omega arith)

-- a digit by itself
one_digit : (n : ℕ) → n < 10 → InDecimal n (digit_byte n ∷ [])
one_digit n h = record { value = omega arith; digits = within; some = omega arith; leading = λ e. refl }
  where
    within : (i : ℕ) → i < 1 → (48 ≤ get_or (digit_byte n ∷ []) i 0) × (get_or (digit_byte n ∷ []) i 0 ≤ 57)
    within zero l = (omega arith, omega arith)
    within (suc i) l = absurd (omega arith)

-- the last digit behind those of the tenth part
more_digits : (n : ℕ) (s : List ℕ) → 10 ≤ n → InDecimal (n / 10) s → InDecimal n (s ++ (digit_byte (n % 10) ∷ []))
more_digits n s h d = record {
  value = read_behind 0 s (digit_byte (n % 10)) ∙ (let v = d.value in omega arith);
  digits = λ i l. by_place i (ltb i (length s)) refl l;
  some = omega (arith, grown);
  leading = λ e. absurd (alone e);
}
  where
    grown : length (s ++ (digit_byte (n % 10) ∷ [])) ≡ length s + 1
    grown = length-append s (digit_byte (n % 10) ∷ [])

    by_place : (i : ℕ) (b : Bool) → ltb i (length s) ≡ b → i < length (s ++ (digit_byte (n % 10) ∷ []))
        → (48 ≤ get_or (s ++ (digit_byte (n % 10) ∷ [])) i 0) × (get_or (s ++ (digit_byte (n % 10) ∷ [])) i 0 ≤ 57)
    by_place i true e l = let q = ltb-true i (length s) e in rw (get_or-append s (digit_byte (n % 10) ∷ []) 0 i q) (d.digits i q)
    by_place i false e l =
        let q : length s ≡ i = let f = ltb-false i (length s) e in omega (arith, grown) in
        rw (get_or_at s (digit_byte (n % 10)) [] 0 i q) (omega arith, omega arith)

    -- a single `0` in front would be the tenth part, which is not 0
    alone : get_or (s ++ (digit_byte (n % 10) ∷ [])) 0 0 ≡ 48 → ⊥
    alone e =
        let f = sym (get_or-append s (digit_byte (n % 10) ∷ []) 0 0 d.some) ∙ e in
        let v = only_digit s (d.leading f) in
        omega (arith, d.value, ap (read_tens 0) v)

pub decimal_digits : (n : ℕ) → InDecimal n (decimal n)
decimal_digits =
    by_tenths (λ n. InDecimal n (decimal n))
    (λ n h. rw decimal_one (one_digit n h))
    (λ n h d. rw (decimal_more n h) (more_digits n (decimal (n / 10)) h d))

pub decimal_some : (n : ℕ) → 0 < length (decimal n)
decimal_some n = (decimal_digits n).some

---- No other bytes are a number's digits.
read_grows : (m : ℕ) (s : List ℕ) → m ≤ read_tens m s
read_grows m [] = omega arith
read_grows m (b ∷ s) = omega (arith, read_grows (m * 10 + (b - 48)) s)

-- bytes by the last of them
by_last : (P : List ℕ → Type 0) → ((t : List ℕ) (b : ℕ) → P (t ++ (b ∷ []))) → (s : List ℕ) → 0 < length s → P s
by_last P f [] h = absurd (omega arith)
by_last P f (a ∷ []) h = f [] a
by_last P f (a ∷ b ∷ s) h = by_last (λ (r : List ℕ). P (a ∷ r)) (λ t c. f (a ∷ t) c) (b ∷ s) (omega arith)

module _ (n : ℕ) (t : List ℕ) (b : ℕ) (d : InDecimal n (t ++ (b ∷ []))) where
  longer : length (t ++ (b ∷ [])) ≡ length t + 1
  longer = length-append t (b ∷ [])

  -- the tenth part, and the digit behind it
  parts : (read_tens 0 t ≡ n / 10) × (b ≡ digit_byte (n % 10))
  parts =
      let v = sym (read_behind 0 t b) ∙ d.value in
      let r = d.digits (length t) (omega (arith, longer)) in
      let e = get_or_at t b [] 0 (length t) refl in
      (omega arith, omega arith)

  -- more than one digit, so the first is no `0`
  first_above : 0 < length t → 48 < get_or t 0 0
  first_above h =
      let e = get_or-append t (b ∷ []) 0 0 h in
      let r = d.digits 0 (omega (arith, longer)) in
      let f : get_or t 0 0 ≡ 48 → ⊥ = λ z. let l = d.leading (e ∙ z) in omega (arith, longer) in
      omega (arith, f)

  tenth_digits : 0 < length t → InDecimal (n / 10) t
  tenth_digits h = record {
    value = parts.0;
    digits = λ i l. rw (get_or-append t (b ∷ []) 0 i l) at (d.digits i (omega (arith, longer)));
    some = h;
    leading = λ z. absurd (omega (arith, first_above h));
  }

pub decimal_only : (n : ℕ) (s : List ℕ) → InDecimal n s → s ≡ decimal n
decimal_only = by_tenths (λ n. (s : List ℕ) → InDecimal n s → s ≡ decimal n) one more
  where
    alone : (n : ℕ) → n < 10 → (t : List ℕ) (b : ℕ) → InDecimal n (t ++ (b ∷ [])) → t ++ (b ∷ []) ≡ decimal n
    alone n h [] b d = ap (λ (c : ℕ). c ∷ []) (let p = (parts n [] b d).1 in omega arith) ∙ sym (decimal_one n h)
    alone n h (a ∷ t) b d =
        let p = (parts n (a ∷ t) b d).0 in
        absurd (omega (arith, first_above n (a ∷ t) b d (omega arith), read_grows (0 * 10 + (a - 48)) t))

    behind : (n : ℕ) → 10 ≤ n → ((s : List ℕ) → InDecimal (n / 10) s → s ≡ decimal (n / 10)) → (t : List ℕ) (b : ℕ) → InDecimal n (t ++ (b ∷ []))
        → t ++ (b ∷ []) ≡ decimal n
    behind n h rest [] b d = absurd (omega (arith, (parts n [] b d).0))
    behind n h rest (a ∷ t) b d =
        ap₂ (λ (s : List ℕ) (c : ℕ). s ++ (c ∷ [])) (rest (a ∷ t) (tenth_digits n (a ∷ t) b d (omega arith))) (parts n (a ∷ t) b d).1
        ∙ sym (decimal_more n h)

    one : (n : ℕ) → n < 10 → (s : List ℕ) → InDecimal n s → s ≡ decimal n
    one n h s d = by_last (λ (s : List ℕ). InDecimal n s → s ≡ decimal n) (alone n h) s d.some d

    more : (n : ℕ) → 10 ≤ n → ((s : List ℕ) → InDecimal (n / 10) s → s ≡ decimal (n / 10)) → (s : List ℕ) → InDecimal n s → s ≡ decimal n
    more n h rest s d = by_last (λ (s : List ℕ). InDecimal n s → s ≡ decimal n) (behind n h rest) s d.some d

-- a number below a power of ten has no more digits than that power
decimal_room : (k n : ℕ) → n < 10 ^ suc k → length (decimal n) ≤ suc k
decimal_room zero n h = rw (decimal_one n h) (omega arith)
decimal_room (suc k) n h = go (ltb n 10) refl (decimal_room k (n / 10) ((div-lt_iff_lt-mul (omega arith)).1 (rw pow-suc at h)))
  where
    go : (b : Bool) → ltb n 10 ≡ b → length (decimal (n / 10)) ≤ suc k → length (decimal n) ≤ suc (suc k)
    go true e l = let q = ltb-true n 10 e in rw (decimal_one n q) (omega arith)
    go false e l = omega (arith, decimal_longer n (ltb-false n 10 e))

-- a number of 32 bits
pub decimal_ten : (n : ℕ) → n < 2 ^ 32 → length (decimal n) ≤ 10
decimal_ten n h = decimal_room 9 n (omega arith)
