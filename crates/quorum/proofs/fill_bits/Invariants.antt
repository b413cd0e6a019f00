use Prim.Native.Nat.{◌^◌}
use mathlib.Core.Path.{◌≡◌}
use Rattle.table.specs.Table.{Stored}
use Rattle.quorum.proofs.fill_bits.Given as goal

abbrev pub invariant-loop-j : goal.invariant-loop-j
invariant-loop-j l = Stored (λ j' x. x ≡ 2 ^ j') 0 0 l.j l.initial.bits l.bits
