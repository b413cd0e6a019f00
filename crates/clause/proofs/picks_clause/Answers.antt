use Rattle.clause.proofs.Finding.{other_length, other_file, by_number}
use Rattle.clause.specs.Clause.{names_clause}
use mathlib.Core.Path.{ap, ◌∙◌}
use native.Mathlib.Omega.{arith}
use Rattle.clause.proofs.picks_clause.Goals as goal

pub returns-then-verdict-ne16 : goal.returns-then-verdict-ne16
returns-then-verdict-ne16 c = other_length c.args.verdict.now (λ e. omega arith)

pub returns-then-word_at-ne3 : goal.returns-then-word_at-ne3
returns-then-word_at-ne3 c = let w = c.word_at.ensures in
    other_file c.args.verdict.now (λ e. omega arith)

pub returns : goal.returns
returns c = let w = c.word_at.ensures in
    c.names_clause.ensures ∙ ap names_clause c.word_at-2.ensures
    ∙ by_number c.args.verdict.now (omega arith) (omega arith)
