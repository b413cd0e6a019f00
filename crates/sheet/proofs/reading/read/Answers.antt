use Rattle.std.specs.Prelude.{Result, Ok, Err}
use Rattle.std.specs.Result.{MatchResult, IsErrAnd}
use Rattle.std.proofs.lemmas.Result.{err_from_is_err_and}
use Rattle.std.proofs.Common.{rules, ◌≡◌, ap, ◌∙◌}
use Rattle.refusal.specs.Codes.{at_offset}
use Rattle.refusal.specs.Results.{told, checked}
use Rattle.refusal.specs.declared.Refused.{Refused}
use Rattle.refusal.specs.declared.Refused.TheVariants.{Rules as RefusedRules}
use Rattle.sheet.specs.Reading.{rules_read_lem}
use Rattle.sheet.specs.Rules.{told_verdict}
use Rattle.token.specs.declared.Fault.{Fault}
use Rattle.sheet.proofs.reading.read.Goals as goal

-- what `map_err` gives, as a verdict
module _ (W : Fault → Refused → Type 0) (x : Result (Unit {0}) Refused) (says : (f : Fault) (e : Refused) → W f e → told e ≡ told_verdict (Err f)) where
  as_told : (r : Result (Unit {0}) Fault) → MatchResult r (λ u. x ≡ Ok u) (λ f. IsErrAnd x (W f)) → checked x ≡ told_verdict r
  as_told (Ok u) w = ap checked w
  as_told (Err f) w = let p = err_from_is_err_and x w in ap checked p.1 ∙ says f p.0 p.2

pub returns : goal.returns
returns c =
    rules_read_lem c.args.s.now _ (as_told _ c.map_err.result (λ f e h. let q : e ≡ RefusedRules (at_offset f.number f.at) = search rules in ap told q) c.read_lines.result c.map_err.ensures.cases ∙ c.read_lines.ensures.answer)
