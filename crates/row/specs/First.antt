-- The first of n that fails a test.
use Rattle.std.specs.Prelude.{ℕ, zero, suc, ◌≤◌, ◌<◌, ◌≡◌, Bool, true, false, cond}

-- of n numbers from s on, what the first that fails the test gives, or, if all pass, what the number behind the last gives
abbrev pub first_failing : {A : Type 0} → (ℕ → Bool) → (ℕ → A) → (ℕ → A) → ℕ → ℕ → A
first_failing ok fault done zero s = done s
first_failing ok fault done (suc n) s = cond (ok s) (first_failing ok fault done n (suc s)) (fault s)

-- k is the first from s on and below top that fails the test
pub record FailsFirst (ok : ℕ → Bool) (s top k : ℕ) : Type 0 where
  pub from : s ≤ k
  pub below : k < top
  pub fails : ok k ≡ false
  pub before : (j : ℕ) → s ≤ j → j < k → ok j ≡ true
