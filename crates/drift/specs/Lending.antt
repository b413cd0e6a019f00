-- What is lent stays fit to judge further clauses.
use Rattle.std.specs.Prelude.{ℕ, List}
use Rattle.std.proofs.Common.{arith}
use Rattle.table.specs.Table.{Kept}
use Rattle.table.specs.Layout.{pairs_at}
use Rattle.table.specs.Keeping.{kept_constants}
use Rattle.drift.specs.declared.Ground.{Ground}
use Rattle.drift.specs.Lent.{Lent}

pub still_lent : (g : Ground) (t b t' : List ℕ) → Lent g t b → Kept (pairs_at g.marks g.lasso.h) t t' → Lent g t' b
still_lent g t b t' l kept = record {
  constants = kept_constants g.marks g.lasso.h t t' kept l.constants;
  pairs = omega (arith, l.pairs, kept.size);
  bits = l.bits;
  fleet = l.fleet;
  groups = l.groups;
}
