use Prim.Native.Nat.{◌-◌}
use mathlib.Core.Path.{◌≡◌}
use Rattle.drift.specs.Lacking.{groups_from, first_lacked}
use Rattle.drift.proofs.refused.lacking_group.Given as goal

-- the groups from here on lack what all of them do
abbrev pub invariant-loop-k : goal.invariant-loop-k
invariant-loop-k l = first_lacked l.many (groups_from l.nodes (l.n - l.k) l.k) ≡ first_lacked l.many (groups_from l.nodes l.n 0)
