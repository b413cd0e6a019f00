use Rattle.std.proofs.Common.{arith}
use Rattle.line.specs.Putting.{laid_done}
use Rattle.line.proofs.done_line.Goals as goal

pub returns : goal.returns
returns c =
    let e = c.put_bytes.ensures.end in
    laid_done c.args.n c.args.out.now _ _ _ _ _ _ (omega arith) c.put_bytes-word.ensures c.put_number-end.ensures.put_at c.put_bytes.ensures
