use Rattle.std.proofs.Common.{◌≡◌, length, take}
use Rattle.floor.specs.Numbers.{numbers_of}
use Rattle.conflict.specs.Table.{Flags}
use Rattle.conflict.specs.OfPlan.{named}
use Rattle.conflict.proofs.narrow.marked.Given as goal

abbrev pub invariant-loop-i : goal.invariant-loop-i
invariant-loop-i l = record {
  size : length l.bays ≡ 256;
  flags : Flags l.bays (named (take l.i (numbers_of l.floor).narrow));
}
