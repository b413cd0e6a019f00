use Prim.Native.Nat.{ℕ, suc}
use mathlib.Core.Path.{sym}
use native.Mathlib.Omega.{arith}
use borrow.Author.Tests.{lt-leb}
use Rattle.cltl.specs.Rules.{window, throughout}
use Rattle.cltl.proofs.Tally.{tally_le}
use Rattle.mask.specs.Combined.{all_false}
use Rattle.table.specs.Table.{told}
use Rattle.quorum.specs.Words.{within}
use Rattle.drift.specs.OperatorRows.{row_of}
use Rattle.drift.proofs.counts.together.Goals as goal

-- as many carts as there are, or more, are never more than there are
pub returns-then-g-few : goal.returns-then-g-few
returns-then-g-few c = let s = c in
    let g = s.args.g in
    let n : ℕ → ℕ = throughout g.lasso.h g.lasso.l g.carts g.drift (within s.args.who (told s.args.t.now s.args.at)) in record {
      row = row_of g.lasso.h 0 _ _
          (λ j _. sym (lt-leb (suc s.args.slack) (n j)
          (let few = tally_le (λ i. window g.lasso.h g.lasso.l (within s.args.who (told s.args.t.now s.args.at) i) g.drift j) g.carts in
          omega (arith, c.if-g-few.true, c.from-few.ensures))))
          (all_false g.lasso.h);
    }
