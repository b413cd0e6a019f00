-- What a clause's part is, with no walk: a line of the sheet, by the bytes 10 in it, behind it and before it.
use Rattle.std.specs.Prelude.{ℕ, ◌+◌, ◌-◌, ◌<◌, ◌≡◌, cond, List, [], ◌∷◌, length, take, drop, get_or}
use Rattle.clause.specs.Clause.{is_end}
use Rattle.clause.specs.declared.Span.{Span}

-- how many bytes 10 a text has: so many of its lines are ended
unfoldable pub line_ends : List ℕ → ℕ
line_ends [] = 0
line_ends (b ∷ s) = cond (is_end b) 1 0 + line_ends s

-- a part of a sheet that is its clause k, "first byte to last before the line end"
pub record IsClause (sheet : List ℕ) (k : ℕ) (p : Span) : Type 0 where
  -- it begins at 0 or right behind a byte 10
  pub begins : 0 < p.offset → get_or sheet (p.offset - 1) 0 ≡ 10
  -- k lines end before it
  pub before : line_ends (take p.offset sheet) ≡ k
  -- no line ends in it
  pub unbroken : line_ends (take p.length (drop p.offset sheet)) ≡ 0
  -- byte 10 stands right behind it
  pub within : p.offset + p.length < length sheet
  pub ended : get_or sheet (p.offset + p.length) 0 ≡ 10
