-- The marks of a place by its four bytes.
use Prim.Native.Nat.{ℕ, ◌+◌, ◌*◌, ◌≤◌}
use mathlib.Core.Path.{◌≡◌, ap}
use mathlib.Core.List.{List, [], ◌∷◌}
use native.Mathlib.Omega.{arith}
use lib.ListN.{get_or, length, take, drop}
use Rattle.endian.specs.Little.{value}
use Rattle.endian.specs.RoundTrip.{four_at}
use Rattle.marks.specs.Bears.{marks_of}

pub marks_bytes : (floor : List ℕ) (q : ℕ) → 8 * q + 8 ≤ length floor
    → marks_of floor q ≡ value (get_or floor (q * 8 + 4) 0 ∷ get_or floor (q * 8 + 5) 0 ∷ get_or floor (q * 8 + 6) 0 ∷ get_or floor (q * 8 + 7) 0 ∷ [])
unfolding marks_of
marks_bytes floor q p =
    let at = 8 * q + 4 in
    let byte : (j k : ℕ) → j ≡ k → get_or floor j 0 ≡ get_or floor k 0 = λ j k d. ap (λ (i : ℕ). get_or floor i 0) d in
    let four = four_at floor at (omega arith) in
    let a = byte at (q * 8 + 4) (omega arith) in
    let b = byte (at + 1) (q * 8 + 5) (omega arith) in
    let c = byte (at + 2) (q * 8 + 6) (omega arith) in
    let d = byte (at + 3) (q * 8 + 7) (omega arith) in
    let same : take 4 (drop at floor) ≡ get_or floor (q * 8 + 4) 0 ∷ get_or floor (q * 8 + 5) 0 ∷ get_or floor (q * 8 + 6) 0 ∷ get_or floor (q * 8 + 7) 0 ∷ [] = cc in
    ap value same
