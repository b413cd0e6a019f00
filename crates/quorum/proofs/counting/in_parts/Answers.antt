use Rattle.std.proofs.Common.{◌+◌, ◌-◌, arith}
use Rattle.quorum.specs.BitByBit.{halves}
use Rattle.quorum.proofs.counting.in_parts.Goals as goal

pub returns-then-h-le32 : goal.returns-then-h-le32
returns-then-h-le32 g c = λ f made.
    rw c.from.ensures (made c.args.from c.args.h c.part.result (omega arith) (omega arith) (omega arith) c.part.ensures)

pub returns : goal.returns
returns g c = λ f made. let a = c.args in
    let low = made a.from 32 c.part-2.result (omega arith) (omega arith) (omega arith) c.part-2.ensures in
    let high = made (a.from + 32) (a.h - 32) c.part-3.result (omega arith) (omega arith) (omega arith) c.part-3.ensures in
    halves a.h c.from-low.result c.from-high.result _ a.from f (omega arith) (omega arith)
    (rw c.from-low.ensures low) (rw c.from-high.ensures high)
