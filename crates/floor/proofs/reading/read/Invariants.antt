use Prim.Native.Nat.{◌+◌, ◌-◌, ◌≤◌}
use mathlib.Core.Path.{◌≡◌}
use lib.ListN.{length, drop}
use Rattle.record.specs.Record.{records_in}
use Rattle.floor.specs.Floor.{read_on, read_floor}
use Rattle.floor.proofs.reading.read.Given as goal

abbrev pub invariant-loop-kind : goal.invariant-loop-kind
invariant-loop-kind l = (l.at ≤ length l.s) × (length l.s ≤ 65536) × (read_on l.f l.at (records_in (drop l.at l.s)) ≡ read_floor l.s)

abbrev pub decreases-loop-kind : goal.decreases-loop-kind
decreases-loop-kind l = length l.s + 1 - l.at
