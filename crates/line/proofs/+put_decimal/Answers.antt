use Rattle.std.proofs.Common.{arith}
use Rattle.line.specs.Tens.{decimal_some, decimal_longer}
use Rattle.line.specs.Putting.{put_digit, put_digits}
use Rattle.line.proofs.+put_decimal.Goals as goal

pub put_bytes-requires : goal.put_bytes-requires
put_bytes-requires t c = omega (arith, decimal_some c.args.n)

pub returns-then-n-lt10 : goal.returns-then-n-lt10
returns-then-n-lt10 t c =
    put_digit c.args.n _ c.args.out.now _ c.args.at _ c.if-n-lt10.true c.digit_byte.ensures c.put_bytes.ensures

pub put_decimal-end-requires : goal.put_decimal-end-requires
put_decimal-end-requires t c = (omega arith, omega (arith, decimal_longer c.args.n c.if-n-lt10.false))

pub put_bytes-requires-2 : goal.put_bytes-requires-2
put_bytes-requires-2 t c = let e = c.put_decimal-end.ensures.end in omega (arith, decimal_longer c.args.n c.if-n-lt10.false)

pub returns : goal.returns
returns t c =
    put_digits c.args.n _ c.args.out.now _ _ c.args.at _ _ c.if-n-lt10.false c.requires c.digit_byte-2.ensures c.put_decimal-end.ensures c.put_bytes-2.ensures
