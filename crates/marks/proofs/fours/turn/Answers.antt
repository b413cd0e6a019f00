use native.Mathlib.Omega.{arith}
use Rattle.marks.proofs.Turning.{even_pairs, lower_side, upper_side}
use Rattle.marks.proofs.Packing.{one_step}
use Rattle.marks.proofs.fours.turn.Goals as goal

pub returns : goal.returns
returns c = let a = c.args in
    let p = even_pairs _ _ _ c.evens-even.ensures in
    let q = even_pairs _ _ _ c.evens-even_later.ensures in
    let u = c.odds-odd.ensures in
    let v = c.odds-odd_later.ensures in
    one_step a.words.now a.s _ _ _ _ (omega arith) c.requires.s_bound
    (lower_side 0 _ _ _ _ _ _ _ _ _ p q c.lower.ensures (omega arith))
    (lower_side 1 _ _ _ _ _ _ _ _ _ u v c.lower-2.ensures (omega arith))
    (upper_side 0 _ _ _ _ _ _ _ _ _ p q c.upper.ensures (omega arith))
    (upper_side 1 _ _ _ _ _ _ _ _ _ u v c.upper-2.ensures (omega arith))
