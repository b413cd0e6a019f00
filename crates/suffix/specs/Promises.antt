-- What is claimed of clauses on a plan that is moved on.
use Rattle.std.specs.Prelude.{ℕ, List, ◌↔◌}
use Rattle.record.specs.All.{All}
use Rattle.grammar.specs.Grammar.{Clause}
use Rattle.cltl.specs.Meaning.{Rows, TrueInStep}
use Rattle.cltl.specs.Suffix.{TrueOnStep}

-- P are the rows of a plan, and Q those of the plan moved on by s
pub record TrueLater (P Q : Rows) (s : ℕ) : Type 0 where
  -- document 02, 7): "A clause is true in step at the start of the moved plan exactly when it was true at the step on which counter s stood."
  pub clause : (c : Clause) → TrueInStep Q c ↔ TrueOnStep P s c
  -- and so are all clauses of a sheet
  pub sheet : (cs : List Clause) → All (TrueInStep Q) cs ↔ All (TrueOnStep P s) cs
