use Rattle.std.proofs.Common.{[], ◌∷◌, arith}
use Rattle.line.specs.Decimal.{decimal}
use Rattle.line.specs.Tens.{decimal_ten}
use Rattle.line.specs.Putting.{put_more}
use Rattle.line.proofs.put_number.Goals as goal

pub put_decimal-requires : goal.put_decimal-requires
put_decimal-requires c = let e = c.put_bytes-from.ensures.end in omega (arith, decimal_ten c.args.n c.ranges.n.fits)

pub returns-clause-put_at : goal.returns-clause-put_at
returns-clause-put_at c =
    put_more (32 ∷ []) (decimal c.args.n) c.args.out.now _ _ c.args.at _ _ (let e = c.put_bytes-from.ensures.end in omega arith)
    c.put_bytes-from.ensures c.put_decimal.ensures

pub returns-clause-upper_bound : goal.returns-clause-upper_bound
returns-clause-upper_bound c =
    let e = c.put_bytes-from.ensures.end in
    let f = c.put_decimal.ensures.end in
    omega (arith, decimal_ten c.args.n c.ranges.n.fits)
