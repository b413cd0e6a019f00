-- What was read lies within the buffer.
use Rattle.std.proofs.Common.{◌≤◌, length}
use Rattle.report.proofs.fill.Given as goal

abbrev pub invariant-loop : goal.invariant-loop
invariant-loop g l = l.done ≤ length l.buf
