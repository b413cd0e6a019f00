-- Numbers in decimal, as ASCII text.
use Rattle.std.specs.Prelude.{ℕ, zero, suc, ◌+◌, ◌*◌, ◌-◌, ◌/◌, ◌%◌, Bool, true, false, List, [], ◌∷◌, ◌++◌, ltb}

-- the byte of a digit: `0` is 48
abbrev pub digit_byte : ℕ → ℕ
digit_byte d = 48 + d

-- the digits of a number, at most so many: one where it is below 10, else those of its tenth part and the last
unfoldable pub spelled : ℕ → Bool → ℕ → List ℕ
spelled zero below n = []
spelled (suc most) true n = digit_byte n ∷ []
spelled (suc most) false n = spelled most (ltb (n / 10) 10) (n / 10) ++ (digit_byte (n % 10) ∷ [])

-- all of them: no number n has more than n + 1
abbrev pub decimal : ℕ → List ℕ
decimal n = spelled (suc n) (ltb n 10) n

-- digits read in base ten, behind a number read already
abbrev pub read_tens : ℕ → List ℕ → ℕ
read_tens n [] = n
read_tens n (b ∷ s) = read_tens (n * 10 + (b - 48)) s
