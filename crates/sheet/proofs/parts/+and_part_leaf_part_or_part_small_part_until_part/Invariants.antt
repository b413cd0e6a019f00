use Rattle.std.proofs.Common.{◌+◌, ◌*◌}
use Rattle.sheet.proofs.Cycle.{conj, disj, Turn}
use Rattle.sheet.proofs.parts.+and_part_leaf_part_or_part_small_part_until_part.Given as goal

abbrev pub decreases-and_part : goal.decreases-and_part
decreases-and_part l = l.level * 5 + 3

abbrev pub decreases-leaf_part : goal.decreases-leaf_part
decreases-leaf_part l = l.level * 5

abbrev pub decreases-or_part : goal.decreases-or_part
decreases-or_part l = l.level * 5 + 4

abbrev pub decreases-small_part : goal.decreases-small_part
decreases-small_part l = l.level * 5 + 1

abbrev pub decreases-until_part : goal.decreases-until_part
decreases-until_part l = l.level * 5 + 2

abbrev pub invariant-and_part-loop-i : goal.invariant-and_part-loop-i
invariant-and_part-loop-i l = Turn l.inner conj l.level l.s l.fn.p.at l.fn.p.n l.fn.p.left l.fn.nodes l.r l.nodes

abbrev pub decreases-and_part-loop-i : goal.decreases-and_part-loop-i
decreases-and_part-loop-i l = l.r.left

abbrev pub invariant-or_part-loop-i : goal.invariant-or_part-loop-i
invariant-or_part-loop-i l = Turn l.inner disj l.level l.s l.fn.p.at l.fn.p.n l.fn.p.left l.fn.nodes l.r l.nodes

abbrev pub decreases-or_part-loop-i : goal.decreases-or_part-loop-i
decreases-or_part-loop-i l = l.r.left
