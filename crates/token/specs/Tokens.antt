-- What the tokens' readers give, at an offset of a text.
use Rattle.std.specs.Prelude.{ℕ, min, ◌≡◌, List, drop, Result, Ok, Err}
use Rattle.grammar.specs.Reader.{Got, got, no}
use Rattle.token.specs.declared.Fault.{Fault}
use Rattle.token.specs.declared.Num.{Num}

-- a number's value, or 1,000 if it is more, and what is left behind it; or 13 and what is left from the refused byte on
abbrev pub NumIs : List ℕ → Result Num Fault → Got ℕ → Type 0
NumIs s (Ok r) (got k n t) = (drop r.at s ≡ t) × (r.value ≡ min k 1000)
NumIs s (Err f) (no w t) = (f.number ≡ 13) × (drop f.at s ≡ t)
NumIs s (Ok r) (no w t) = ⊥
NumIs s (Err f) (got k n t) = ⊥
