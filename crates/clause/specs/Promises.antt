-- What picking a clause's part promises.
use Rattle.std.specs.Prelude.{ℕ, ◌+◌, ◌≤◌, ◌<◌, ◌≡◌, true, false, List, length}
use Rattle.refusal.specs.Codes.{code_in}
use Rattle.clause.specs.Clause.{picks, empty_span, span, part}
use Rattle.clause.specs.Meaning.{line_ends, IsClause}
use Rattle.clause.specs.declared.Span.{Span}

pub record Picked (sheet verdict : List ℕ) (p : Span) : Type 0 where
  -- the part's place, for every sheet and all bytes of a verdict
  pub answer : p ≡ span sheet verdict
  pub inside : p.offset + p.length ≤ length sheet
  -- a clause refused by its number, which the sheet has: its own part and no other
  pub clause : picks verdict ≡ true → (code_in verdict).first < line_ends sheet → IsClause sheet (code_in verdict).first p
  pub only : picks verdict ≡ true → (q : Span) → IsClause sheet (code_in verdict).first q → q ≡ p
  -- "Any other verdict, or a clause the sheet lacks, gives the empty part at offset 0."
  pub other : picks verdict ≡ false → p ≡ empty_span
  pub lacking : line_ends sheet ≤ (code_in verdict).first → p ≡ empty_span

-- the bytes shown are those there
pub record Shown (sheet verdict shown : List ℕ) : Type 0 where
  pub answer : shown ≡ part sheet verdict
  pub place : Picked sheet verdict (span sheet verdict)
