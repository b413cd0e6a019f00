-- Any bound on the number of records or parts that is large enough gives the same ones.
use Rattle.std.specs.Prelude.{ℕ, zero, suc, ◌+◌, ◌≤◌, ◌<◌, ◌≡◌, refl, List, [], ◌∷◌, length, take, drop}
use Rattle.std.proofs.Common.{arith, ap, length-drop}
use Rattle.record.specs.Record.{ended, joined, whole, front, behind, size_in, split, records_in}
use Rattle.record.specs.Parts.{parts_in, parts}

-- what is left behind something is shorter
shorter : (b : ℕ) (l : List ℕ) (n k : ℕ) → 0 < k → length (b ∷ l) ≤ suc n → length (drop k (b ∷ l)) ≤ n
shorter b l n k p h = omega (arith, length-drop k (b ∷ l))

split_fuel : (n m : ℕ) (l : List ℕ) → length l ≤ n → length l ≤ m → split n l ≡ split m l
unfolding split
split_fuel zero zero [] h k = refl
split_fuel zero (suc m) [] h k = refl
split_fuel (suc n) zero [] h k = refl
split_fuel (suc n) (suc m) [] h k = refl
split_fuel zero zero (b ∷ l) h k = refl
split_fuel zero (suc m) (b ∷ l) h k = absurd (omega arith)
split_fuel (suc n) zero (b ∷ l) h k = absurd (omega arith)
split_fuel (suc n) (suc m) (b ∷ l) h k =
    ap (joined (whole (b ∷ l)) (front (b ∷ l)))
    (split_fuel n m (behind (b ∷ l)) (shorter b l n (4 + size_in (b ∷ l)) (omega arith) h) (shorter b l m (4 + size_in (b ∷ l)) (omega arith) k))

pub records_none : records_in [] ≡ ended
unfolding records_in split
records_none = refl

-- a file is its first record and what is behind it
pub records_open : (b : ℕ) (l : List ℕ) → records_in (b ∷ l) ≡ joined (whole (b ∷ l)) (front (b ∷ l)) (records_in (behind (b ∷ l)))
unfolding records_in split
records_open b l =
    ap (joined (whole (b ∷ l)) (front (b ∷ l)))
    (split_fuel (length l) (length (behind (b ∷ l))) (behind (b ∷ l)) (shorter b l (length l) (4 + size_in (b ∷ l)) (omega arith) (omega arith)) (omega arith))

parts_fuel : (size n m : ℕ) (l : List ℕ) → 0 < size → length l ≤ n → length l ≤ m → parts_in n size l ≡ parts_in m size l
unfolding parts_in
parts_fuel size zero zero [] p h k = refl
parts_fuel size zero (suc m) [] p h k = refl
parts_fuel size (suc n) zero [] p h k = refl
parts_fuel size (suc n) (suc m) [] p h k = refl
parts_fuel size zero zero (b ∷ l) p h k = refl
parts_fuel size zero (suc m) (b ∷ l) p h k = absurd (omega arith)
parts_fuel size (suc n) zero (b ∷ l) p h k = absurd (omega arith)
parts_fuel size (suc n) (suc m) (b ∷ l) p h k =
    ap (λ (t : List (List ℕ)). take size (b ∷ l) ∷ t)
    (parts_fuel size n m (drop size (b ∷ l)) p (shorter b l n size p h) (shorter b l m size p k))

pub parts_none : (size : ℕ) → parts size [] ≡ []
unfolding parts parts_in
parts_none zero = refl
parts_none (suc size) = refl

pub parts_open : (size b : ℕ) (l : List ℕ) → 0 < size → parts size (b ∷ l) ≡ take size (b ∷ l) ∷ parts size (drop size (b ∷ l))
unfolding parts parts_in
parts_open zero b l p = absurd (omega arith)
parts_open (suc size) b l p =
    ap (λ (t : List (List ℕ)). take (suc size) (b ∷ l) ∷ t)
    (parts_fuel (suc size) (length l) (length (drop (suc size) (b ∷ l))) (drop (suc size) (b ∷ l)) p
    (shorter b l (length l) (suc size) p (omega arith)) (omega arith))
