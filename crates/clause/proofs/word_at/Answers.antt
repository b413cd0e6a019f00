use Rattle.endian.specs.RoundTrip.{four_at}
use Rattle.endian.specs.Little.{value}
use mathlib.Core.Path.{sym, ap, ◌∙◌}
use native.Mathlib.Omega.{arith}
use Rattle.clause.proofs.word_at.Goals as goal

pub returns : goal.returns
returns c = let a = c.args in
    c.number32.ensures ∙ sym (ap value (four_at a.s.now a.at (omega arith)))
