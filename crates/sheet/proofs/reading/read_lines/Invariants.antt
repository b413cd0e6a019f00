use Rattle.std.proofs.Common.{◌≡◌, ◌≤◌, ◌-◌, length}
use Rattle.sheet.specs.Rules.{rules_verdict}
use Rattle.sheet.specs.Lines.{from_line}
use Rattle.sheet.proofs.reading.read_lines.Given as goal

abbrev pub invariant-loop-line : goal.invariant-loop-line
invariant-loop-line l = (l.at ≤ length l.s) × (rules_verdict l.s ≡ from_line l.s (32 - l._line) l.at)
