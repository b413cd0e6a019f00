-- Tallies: how many carts satisfy a text all along a window, a byte a step.
use Rattle.std.specs.Prelude.{ℕ, ◌+◌, ◌<◌, ◌≡◌, Bool, List, get_or}
use Rattle.cltl.specs.Rules.{throughout}

-- byte s from an offset on is the number of carts that satisfy a text at all of counters s to s + d
abbrev pub Tallied : (h l carts d : ℕ) → (ℕ → ℕ → Bool) → (at : ℕ) → List ℕ → Type 0
Tallied h l carts d f at tallies = (s : ℕ) → s < h → get_or tallies (at + s) 0 ≡ throughout h l carts d f s
