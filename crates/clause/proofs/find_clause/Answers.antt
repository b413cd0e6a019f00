use Rattle.clause.proofs.Finding.{line_ended, line_unended}
use mathlib.Core.Path.{◌∙◌}
use Rattle.clause.proofs.find_clause.Goals as goal

pub returns-then-end-s : goal.returns-then-end-s
returns-then-end-s c = let a = c.args in
    line_ended a.k a.s.now _ _ c.line_start-start.ensures c.line_end-end.ensures c.if-end-s.true

pub returns-else-end-s : goal.returns-else-end-s
returns-else-end-s c = let a = c.args in
    c.empty_span.ensures
    ∙ line_unended a.k a.s.now _ _ c.line_start-start.ensures c.line_end-end.ensures c.if-end-s.false
