-- Standings: where the carts' counters may be at one moment, and the run that gets there.
use Rattle.std.specs.Prelude.{ℕ, zero, suc, ◌+◌, ◌-◌, ◌≤◌, ◌<◌, min, max, ◌≡◌, ◌⊎◌}
use Rattle.std.proofs.Common.{ap, inl, inr, ⊎_elim, arith, eq-or-lt_of_le}
use Rattle.cltl.specs.Meaning.{Run}
use Rattle.cltl.proofs.Basics.{lt_or_le}

-- counters of spread at most d, the hindmost at s
pub record Standing (carts d s : ℕ) : Type 0 where
  pub counter : ℕ → ℕ
  pub behind : (i : ℕ) → i < carts → s ≤ counter i
  pub ahead : (i : ℕ) → i < carts → counter i ≤ s + d
  pub last : (i : ℕ) × (i < carts) × (counter i ≡ s)

-- the highest of the first n numbers
abbrev pub highest : (ℕ → ℕ) → ℕ → ℕ
highest K zero = 0
highest K (suc n) = max (K n) (highest K n)

highest_le : (K : ℕ → ℕ) (n i : ℕ) → i < n → K i ≤ highest K n
highest_le K zero i p = absurd (omega arith)
highest_le K (suc n) i p =
    ⊎_elim (λ e. let h : K i ≡ K n = ap K e in omega arith) (λ q. let h = highest_le K n i q in omega arith) (eq-or-lt_of_le {n = i} {m = n} (omega arith))

-- Each cart goes to its counter and waits there until all have come; then all go on together: min(t, K_i) + max(0, t − max K).
abbrev pub going : (ℕ → ℕ) → ℕ → ℕ → ℕ → ℕ
going K carts t i = min t (K i) + (t - highest K carts)

module _ (carts d : ℕ) (K : ℕ → ℕ) (spread : (i j : ℕ) → i < carts → j < carts → K i ≤ K j + d) where
  pub moves : (t i : ℕ) → i < carts → (going K carts (suc t) i ≡ going K carts t i) ⊎ (going K carts (suc t) i ≡ suc (going K carts t i))
  moves t i p =
      let h = highest_le K carts i p in
      ⊎_elim (λ q. inr (omega arith)) (λ q. ⊎_elim (λ r. inl (omega arith)) (λ r. inr (omega arith)) (lt_or_le t (highest K carts))) (lt_or_le t (K i))

  pub moves_on : (t i : ℕ) → i < carts → (u : ℕ) × (t < u) × (going K carts (suc u) i ≡ suc (going K carts u i))
  moves_on t i p = let h = highest_le K carts i p in let u : ℕ = suc t + highest K carts in (u, omega arith, omega arith)

  abbrev pub gather : Run carts d
  gather = record {
    at = going K carts;
    start = λ i p. omega arith;
    tick = moves;
    again = moves_on;
    near = λ t i j p q. let h = spread i j p q in omega arith;
  }

  pub gathered : (i : ℕ) → i < carts → gather.at (highest K carts) i ≡ K i
  gathered i p = let h = highest_le K carts i p in omega arith
