-- A lent buffer to which bytes are written.
use Rattle.std.specs.Prelude.{ℕ, ◌+◌, List, ◌++◌, length, take, drop}

-- a buffer with other bytes from an offset on, as many as those are; every byte before and behind them stays
abbrev pub stored : List ℕ → ℕ → List ℕ → List ℕ
stored out at s = take at out ++ (s ++ drop (at + length s) out)
