-- Straight on, without the lap's turn.
use Rattle.std.specs.Prelude.{ℕ, zero, suc, Bool}
use Rattle.cltl.specs.Rules.{mix}

-- "until" (p) or "release" over n steps from s on, with what is true behind them
unfoldable pub straight : Bool → (a b : ℕ → Bool) → Bool → ℕ → ℕ → Bool
straight p a b rest zero s = rest
straight p a b rest (suc n) s = mix p (a s) (b s) (straight p a b rest n (suc s))
