-- What holds of every element of a list.
use Rattle.std.specs.Prelude.{ℕ, zero, suc, ◌<◌, ◌≡◌, List, [], ◌∷◌, length, get_or}
use Rattle.std.proofs.Common.{arith}

abbrev pub All : {A : Type 0} → (A → Type 0) → List A → Type 0
All P [] = Unit {0}
All P (x ∷ xs) = P x × All P xs

-- bodies of one length
abbrev pub AllOf : ℕ → List (List ℕ) → Type 0
AllOf size xs = All (λ (x : List ℕ). length x ≡ size) xs

-- so it holds of the i-th
pub each : {A : Type 0} (P : A → Type 0) (d : A) (xs : List A) (i : ℕ) → All P xs → i < length xs → P (get_or xs i d)
each P d [] i h l = absurd (omega arith)
each P d (x ∷ xs) zero h l = h.0
each P d (x ∷ xs) (suc i) h l = each P d xs i h.1 (omega arith)

-- and what holds of each holds of all
pub all_of : {A : Type 0} (P : A → Type 0) (d : A) (xs : List A) → ((i : ℕ) → i < length xs → P (get_or xs i d)) → All P xs
all_of P d [] h = tt
all_of P d (x ∷ xs) h = (h 0 (omega arith), all_of P d xs (λ i l. h (suc i) (omega arith)))

-- what follows from it, and from two such
pub all_map : {A : Type 0} {Q R : A → Type 0} → ((x : A) → Q x → R x) → (xs : List A) → All Q xs → All R xs
all_map f [] a = tt
all_map f (x ∷ xs) a = (f x a.0, all_map f xs a.1)

pub all_both : {A : Type 0} {Q R S : A → Type 0} → ((x : A) → Q x → R x → S x) → (xs : List A) → All Q xs → All R xs → All S xs
all_both f [] a b = tt
all_both f (x ∷ xs) a b = (f x a.0 b.0, all_both f xs a.1 b.1)
