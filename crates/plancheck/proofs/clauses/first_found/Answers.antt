use native.Mathlib.Omega.{arith}
use Rattle.std.proofs.Common.{sym, ap, ◌∙◌}
use Rattle.refusal.specs.Stages.{is_accepted}
use Rattle.refusal.specs.Results.{checked}
use Rattle.refusal.specs.Accepting.{goes_on}
use Rattle.refusal.specs.declared.Verdict.TheVariants.{Rules as AboutRules}
use Rattle.cltl.specs.Rules.{rules}
use Rattle.table.specs.Keeping.{kept_shown}
use Rattle.drift.specs.Tree.{clause_tree}
use Rattle.drift.specs.Answer.{rows_on}
use Rattle.drift.specs.Lending.{still_lent}
use Rattle.plancheck.proofs.Turns.{clause_kept, clause_fails}
use Rattle.plancheck.proofs.clauses.first_found.Goals as goal

pub returns-then-row-eq1-clause-by_index : goal.returns-then-row-eq1-clause-by_index
unfolding rules
returns-then-row-eq1-clause-by_index c = let a = c.args in
    let g = a.g in λ bears shown m q.
    clause_kept (rows_on g.carts g.lasso.h g.lasso.l bears a.bits.now) g.drift a.n (clause_tree a.nodes.now m a.k) c.clause_row-row.result
    (omega (arith, g.lasso.lap)) (c.clause_row-row.ensures.by_index bears shown m q) c.if-row-eq1.true
    ∙ sym (goes_on (checked a.found) _ (ap (λ r. is_accepted (checked r)) c.in_ok-found.was))

pub failing_step-step-requires-clause-lent : goal.failing_step-step-requires-clause-lent
failing_step-step-requires-clause-lent c = let a = c.args in
    still_lent a.g a.t.now a.bits.now _ c.requires.lent c.clause_row-row.ensures.kept.0

pub failing_step-step-requires-clause-clause_nodes : goal.failing_step-step-requires-clause-clause_nodes
failing_step-step-requires-clause-clause_nodes c = let r = c.requires.ordered in
    let needed = c.fill_needs.ensures.0 in record { ordered = r.0; needed = needed; few = r.2 _ needed }

pub returns-clause-by_index : goal.returns-clause-by_index
unfolding rules
returns-clause-by_index c = let a = c.args in
    let g = a.g in
    let r = c.clause_row-row.ensures in
    let f = c.failing_step-step in λ bears shown m q. ap AboutRules c.refuse.ensures
    ∙ clause_fails (rows_on g.carts g.lasso.h g.lasso.l bears a.bits.now) g.drift a.n (clause_tree a.nodes.now m a.k) c.clause_row-row.result
    (omega (arith, g.lasso.lap)) (r.by_index bears shown m q) c.if-row-eq1.false f.result
    (f.ensures.by_index.0 bears (kept_shown g.marks g.lasso.h a.t.now _ r.kept.0 g.carts bears shown) m q)
    ∙ sym (goes_on (checked a.found) _ (ap (λ x. is_accepted (checked x)) c.in_ok-found.was))
