use mathlib.Core.Path.{sym, ◌∙◌}
use Rattle.marks.proofs.Reading.{marks_bytes}
use Rattle.marks.proofs.words.marks_of.Goals as goal

pub returns : goal.returns
returns c = let s = c in
    c.number32.ensures ∙ sym (marks_bytes s.args.floor.now s.args.place s.requires)
