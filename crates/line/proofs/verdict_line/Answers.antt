use Rattle.std.proofs.Common.{arith}
use Rattle.line.specs.Putting.{laid_refused}
use Rattle.line.proofs.verdict_line.Goals as goal

pub returns : goal.returns
returns c =
    let e = c.put_bytes-2.ensures.end in
    laid_refused c.args.c c.args.out.now _ _ _ _ _ _ _ _ _ _ c.if-c-eq0.false (omega arith) c.put_refused-file.ensures.put_at
    c.put_number-number.ensures.put_at c.put_number-first.ensures.put_at c.put_number-second.ensures.put_at c.put_bytes-2.ensures
