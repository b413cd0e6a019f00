use Rattle.line.specs.Putting.{laid_same, answer_refused, answer_accepted, answer_done}
use Rattle.line.proofs.answer_line.Goals as goal

pub returns-then-c-ne0 : goal.returns-then-c-ne0
returns-then-c-ne0 c = let s = c in
    laid_same _ _ s.args.out.now _ _
    (answer_refused s.args.c c.if-c-ne0.true) c.verdict_line.ensures

pub returns-then-c-eq0 : goal.returns-then-c-eq0
returns-then-c-eq0 c = let s = c in
    laid_same _ _ s.args.out.now _ _
    (answer_accepted s.args.c c.if-c-ne0.false c.if-c-eq0.true) c.verdict_line-then-c-eq0.ensures

pub returns : goal.returns
returns c = let s = c in
    laid_same _ _ s.args.out.now _ _
    (answer_done s.args.c c.if-c-ne0.false c.if-c-eq0.false) c.done_line.ensures
