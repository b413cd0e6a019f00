use mathlib.Core.Path.{sym, ap, ◌∙◌}
use Rattle.refusal.specs.Codes.{code_of}
use Rattle.refusal.proofs.code_of.Goals as goal

pub returns-in-Accepted : goal.returns-in-Accepted
returns-in-Accepted c = sym (ap code_of c.in-Accepted.is)

pub returns-in-Written : goal.returns-in-Written
returns-in-Written c = sym (ap code_of c.in-Written.is)

pub returns-in-Floor : goal.returns-in-Floor
returns-in-Floor c = c.code_about.ensures ∙ sym (ap code_of c.in-Floor.is)

pub returns-in-Plan : goal.returns-in-Plan
returns-in-Plan c = c.code_about-in-Plan.ensures ∙ sym (ap code_of c.in-Plan.is)

pub returns-in-Rules : goal.returns-in-Rules
returns-in-Rules c = c.code_about-in-Rules.ensures ∙ sym (ap code_of c.in-Rules.is)
