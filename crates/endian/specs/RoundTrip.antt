-- Numbers and their bytes are the same thing, as long as the number fits.
use Rattle.std.specs.Prelude.{ℕ, zero, suc, ◌+◌, ◌/◌, ◌^◌, ◌<◌, ◌≡◌, refl, List, [], ◌∷◌, ◌++◌, length, take, drop, get_or}
use Rattle.std.proofs.Common.{pow-suc, arith, sym, ap, ap₂, ◌∙◌, get_or-drop, drop-cons, take-add, drop-drop, add-one}
use Rattle.std.proofs.Math.Arith.{lt-one}
use Rattle.endian.specs.Little.{bytes, value, Bytes}

pub length-bytes : (k n : ℕ) → length (bytes k n) ≡ k
unfolding bytes
length-bytes zero n = refl
length-bytes (suc k) n = ap suc (length-bytes k (n / 256))

pub bytes_are : (k n : ℕ) → Bytes (bytes k n)
unfolding bytes
bytes_are zero n i = omega arith
bytes_are (suc k) n zero = omega arith
bytes_are (suc k) n (suc i) = bytes_are k (n / 256) i

-- a number that fits in k bytes is read back from them
pub value-bytes : (k n : ℕ) → n < 256 ^ k → value (bytes k n) ≡ n
unfolding bytes value
value-bytes zero n h = sym (lt-one h)
value-bytes (suc k) n h =
    let p = pow-suc 256 k in
    let e : value (bytes k (n / 256)) ≡ n / 256 = value-bytes k (n / 256) (omega arith) in
    omega arith

-- bytes are written back from the number that they stand for
pub bytes-value : (l : List ℕ) → Bytes l → bytes (length l) (value l) ≡ l
unfolding bytes value
bytes-value [] h = refl
bytes-value (b ∷ l) h =
    let s : b < 256 = h 0 in
    ap₂ ◌∷◌ (omega arith) (ap (bytes (length l)) (omega arith) ∙ bytes-value l (λ i. h (suc i)))

-- a part of bytes is bytes
pub bytes_take : (n : ℕ) (l : List ℕ) → Bytes l → Bytes (take n l)
bytes_take zero l h i = omega arith
bytes_take (suc n) [] h i = omega arith
bytes_take (suc n) (b ∷ l) h zero = h 0
bytes_take (suc n) (b ∷ l) h (suc i) = bytes_take n l (λ j. h (suc j)) i

pub bytes_drop : (n : ℕ) (l : List ℕ) → Bytes l → Bytes (drop n l)
bytes_drop n l h i = rw get_or-drop (h (n + i))

-- two bytes from an offset on
pub two_at : (s : List ℕ) (k : ℕ) → k + 1 < length s → take 2 (drop k s) ≡ get_or s k 0 ∷ get_or s (k + 1) 0 ∷ []
two_at s k h =
    let one : k < length s = omega arith in
    let more : suc k < length s = omega arith in
    rw (drop-cons s k 0, drop-cons s (suc k) 0, add-one)

-- and four
pub four_at : (s : List ℕ) (k : ℕ) → k + 3 < length s
    → take 4 (drop k s) ≡ get_or s k 0 ∷ get_or s (k + 1) 0 ∷ get_or s (k + 2) 0 ∷ get_or s (k + 3) 0 ∷ []
four_at s k h =
    let next : k + 2 + 1 ≡ k + 3 = omega arith in
    take-add 2 2 (drop k s)
    ∙ ap₂ ◌++◌ (two_at s k (omega arith)) (ap (take 2) (drop-drop 2 k s) ∙ two_at s (k + 2) (omega arith))
    ∙ ap (λ (j : ℕ). get_or s k 0 ∷ get_or s (k + 1) 0 ∷ get_or s (k + 2) 0 ∷ get_or s j 0 ∷ []) next
