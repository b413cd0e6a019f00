use borrow.Author.Rules.{rules}
use Rattle.mask.specs.Combined.{negated}
use Rattle.mask.proofs.complement.Goals as goal

pub returns : goal.returns
returns c = negated c.args.h c.args.a c.full.result (search rules) c.full.ensures
