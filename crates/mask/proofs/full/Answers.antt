use borrow.Author.Rules.{rules}
use Rattle.mask.specs.Combined.{all_true}
use Rattle.mask.proofs.full.Goals as goal

pub returns : goal.returns
returns c = all_true c.args.h (search rules)
