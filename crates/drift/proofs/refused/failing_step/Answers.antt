use mathlib.Core.Path.{sym, subst, ◌∙◌}
use Rattle.cltl.specs.Rules.{rules}
use Rattle.cltl.proofs.Agree.{lowest_agrees}
use Rattle.table.specs.Keeping.{kept_all}
use Rattle.drift.specs.Answer.{rows_on}
use Rattle.drift.specs.Lent.{ClauseNodes}
use Rattle.drift.specs.NodeTruth.{first_low}
use Rattle.drift.specs.Order.{one_need}
use Rattle.drift.specs.Needing.{operand_nodes}
use Rattle.drift.specs.Trees.{globally_step, other_step}
use native.Mathlib.Omega.{arith}
use Rattle.std.proofs.lemmas.Option.{MatchOption-at_none}
use Rattle.drift.proofs.refused.failing_step.Goals as goal

pub clause_row-body-requires-clause-clause_nodes : goal.clause_row-body-requires-clause-clause_nodes
clause_row-body-requires-clause-clause_nodes c =
    let a = c.args in
    let n = c.requires.clause_nodes in
    let e = c.in-Some.ensures.0 in
    subst (ClauseNodes a.c.nodes.now a.c.needs.now) (sym c.in-Some.ensures.1)
    (operand_nodes a.c.nodes.now a.c.needs.now a.k n _ (first_low a.c.nodes.now a.k n.ordered (omega arith))
    (one_need a.c.nodes.now a.c.needs.now a.k n.needed (omega arith) (omega arith)).0)

pub returns-clause-by_index : goal.returns-clause-by_index
unfolding rules
returns-clause-by_index c =
    let a = c.args in
    let g = a.g in
    let m = c.clause_row-body.ensures in
    let few = c.args.g.lasso.short in (
      λ bears shown. globally_step (rows_on g.carts g.lasso.h g.lasso.l bears a.bits.now) g.drift a.c.nodes.now a.k
          c.requires.clause_nodes.ordered c.in-Some.ensures.0
          c.lowest_off.result _ c.in-Some.ensures.1
          (λ n q. c.lowest_off.ensures.0 ∙ lowest_agrees _ _ g.lasso.h 0 g.lasso.h (m.by_index bears shown n q).at (omega arith)),
      omega (arith, c.lowest_off.ensures.1),
    )

pub returns-in_default : goal.returns-in_default
returns-in_default c =
    let a = c.args in
    let g = a.g in
    record {
      kept = (kept_all _ a.t.now, c.requires.tallies);
      by_index = (
        λ bears shown. other_step (rows_on g.carts g.lasso.h g.lasso.l bears a.bits.now) g.drift a.c.nodes.now a.k
            (MatchOption-at_none _ _ c.in_default.is c.globally_at.ensures),
        omega arith,
      );
    }
