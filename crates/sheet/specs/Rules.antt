-- Reading a rule sheet: the verdict on it.
use Rattle.std.specs.Prelude.{ℕ, ◌-◌, List, length, Result, Ok, Err}
use Rattle.refusal.specs.Codes.{at_offset}
use Rattle.token.specs.declared.Fault.{Fault}
use Rattle.refusal.specs.declared.Verdict.{Verdict}
use Rattle.refusal.specs.declared.Verdict.TheVariants.{Accepted, Rules as AboutRules}
use Rattle.grammar.specs.Grammar.{Clause}
use Rattle.grammar.specs.Reader.{Got, got, no, Read, accepted, refused, read_sheet}

-- "for files and sheets these are a byte offset and 0"
abbrev pub read_verdict : Read → Verdict
read_verdict (accepted cs) = Accepted
read_verdict (refused w k) = AboutRules (at_offset w k)

unfoldable pub rules_verdict : List ℕ → Verdict
rules_verdict s = read_verdict (read_sheet s)

-- by what reading the lines told
abbrev pub told_verdict : Result (Unit {0}) Fault → Verdict
told_verdict (Ok u) = Accepted
told_verdict (Err f) = AboutRules (at_offset f.number f.at)

-- by the lines: an offset is what stands before the refused byte
abbrev pub lines_verdict : ℕ → Got (List Clause) → Verdict
lines_verdict size (got cs m r) = Accepted
lines_verdict size (no w r) = AboutRules (at_offset w (size - length r))
