use Rattle.std.proofs.Common.{◌<◌, length, arith}
use Rattle.token.proofs.Grouping.{digit_end, digit_low, digit_high, digit_read}
use Rattle.token.proofs.counts.group_digit.Goals.{then-b-lt48-via-then-b-lt48, then-b-lt48-via-else-b-lt48+then-b-gt55}
use Rattle.token.proofs.counts.group_digit.Goals as goal

pub returns-then-s-j : goal.returns-then-s-j
returns-then-s-j c = digit_end c.args.s.now c.args.j c.if-s-j.true

pub returns-then-b-lt48 : goal.returns-then-b-lt48
returns-then-b-lt48 c = let a = c.args in
    let l : a.j < length a.s.now = omega (arith, c.if-s-j.false) in
    elim c.then-b-lt48.branch [
      | then-b-lt48-via-then-b-lt48 w ↦ digit_low a.s.now a.j l (omega (arith, w.if-b-lt48.true))
      | then-b-lt48-via-else-b-lt48+then-b-gt55 w ↦ digit_high a.s.now a.j l (omega (arith, w.if-b-gt55.true))
    ]

pub returns : goal.returns
returns c =
    rw c.from.ensures
    (digit_read c.args.s.now c.args.j (omega (arith, c.if-s-j.false)) (omega (arith, c.if-b-lt48.false)) (omega (arith, c.if-b-gt55.false)))
