use native.Mathlib.Omega.{arith}
use Rattle.drift.specs.Tallying.{there, tallied_too}
use Rattle.drift.proofs.tallies.fill_if_none.Goals as goal

pub returns : goal.returns
returns c = let s = c in
    let a = s.args in
    let of = c.fleet.ensures in
    let made = rw (of.0, of.1, of.2, s.requires.h_in_bounds.1) at c.fill_tallies.ensures.stored in record {
      tallies_2 = (
        tallied_too a.g a.t.now a.from a.p a.at s.requires.tallies.1 a.tallies.now _ made s.requires.tallies.0,
        λ j q. made.each j (omega arith) q,
      );
    }

pub returns-then-tallies-at-lt255 : goal.returns-then-tallies-at-lt255
returns-then-tallies-at-lt255 c =
    let a = c.args in
    let all = c.requires.tallies.0 in
    record { tallies_2 = (all, there a.g a.t.now a.from a.p a.at c.requires.tallies.1 a.tallies.now all c.if-tallies-at-lt255.true) }
