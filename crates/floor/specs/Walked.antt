-- Records judged behind records already judged.
use Rattle.std.specs.Prelude.{ℕ, ◌+◌, ◌≤◌, List, Result, Ok, Err}
use Rattle.refusal.specs.Codes.{at_offset}
use Rattle.refusal.specs.declared.Refusal.{Refusal}
use Rattle.record.specs.Record.{Record}
use Rattle.floor.specs.Floor.{walk, Walked}
use Rattle.floor.specs.declared.Floor.{Floor}

-- what a record gives, and its refusal at its offset
abbrev pub refused_at : ℕ → Result Floor ℕ → Result Floor Refusal
refused_at at (Ok g) = Ok g
refused_at at (Err n) = Err (at_offset n at)

-- further records behind those judged
abbrev pub walk_on : Walked → List Record → Walked
walk_on (Ok (f, at)) rs = walk f at rs
walk_on (Err r) rs = Err r

-- so many bytes more stay below a limit
abbrev pub UpTo : ℕ → Walked → ℕ → Type 0
UpTo most (Ok (f, at)) n = at + n ≤ most
UpTo most (Err r) n = Unit {0}
