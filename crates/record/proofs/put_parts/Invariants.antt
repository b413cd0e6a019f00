use Rattle.std.proofs.Common.{◌≡◌, map}
use Rattle.std.specs.Slice.Iter.{chunks_rest, chunks_size}
use Rattle.record.specs.Parts.{of_kind, parts}
use Rattle.record.specs.Putting.{Putting}
use Rattle.record.proofs.put_parts.Given as goal

abbrev pub invariant-loop-body : goal.invariant-loop-body
invariant-loop-body l = record {
  size : chunks_size l.body-iterator ≡ l.size;
  putting : Putting l.initial.out l.at (map (of_kind l.kind) (parts l.size l.bodies)) l.out l.next (map (of_kind l.kind) (parts l.size (chunks_rest l.body-iterator)));
}
