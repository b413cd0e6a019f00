-- A count that a run has otherwise than it should be.
use Rattle.std.specs.Prelude.{ℕ, ◌≤◌, ◌<◌, ◌≡◌, Bool, true, false, not}
use Rattle.grammar.specs.Grammar.{leaf, neg, Counted, Clause}
use Rattle.cltl.specs.Meaning.{Rows, Run, Counts}

-- a count (true) or its negation
abbrev pub count_or : Bool → Counted → Clause
count_or true x = leaf x
count_or false x = neg (leaf x)

-- a statement itself, or its negation
abbrev pub Val : Bool → Type 0 → Type 0
Val true A = A
Val false A = A → ⊥

-- a run within d and a moment at which the hindmost cart is at counter s, and the count does not hold (p true) or does (p false)
pub record Broken (P : Rows) (d : ℕ) (p : Bool) (x : Counted) (s : ℕ) : Type 0 where
  pub run : Run P.carts d
  pub moment : ℕ
  pub behind : (i : ℕ) → i < P.carts → s ≤ run.at moment i
  pub last : (i : ℕ) × (i < P.carts) × (run.at moment i ≡ s)
  pub other : Val (not p) (Counts P run.at x moment)
