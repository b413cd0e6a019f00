-- The definition keeps what reading a sheet promises.
use Rattle.std.specs.Prelude.{ℕ, ◌≡◌, refl, List}
use Rattle.std.proofs.Common.{sym, subst, inl, inr}
use Rattle.refusal.specs.Given.{OneOf, sheet_numbers, Given, reading_sheet}
use Rattle.refusal.specs.declared.Verdict.{Verdict}
use Rattle.grammar.specs.Answers.{RefusedBy}
use Rattle.grammar.specs.Reader.{Read, accepted, refused, read_sheet}
use Rattle.grammar.proofs.Promised.{promises}
use Rattle.sheet.specs.Rules.{read_verdict, rules_verdict}
use Rattle.sheet.specs.Promises.{RulesRead}

one_of_these : (s : List ℕ) (w k : ℕ) → RefusedBy s w k → OneOf sheet_numbers w
one_of_these s w k (inl e) = inl e.0
one_of_these s w k (inr (inl e)) = inr (inr (inr (inr (inl e.0))))
one_of_these s w k (inr (inr (inl e))) = inr (inl e)
one_of_these s w k (inr (inr (inr (inl e)))) = inr (inr (inl e))
one_of_these s w k (inr (inr (inr (inr e)))) = inr (inr (inr (inl e)))

numbered : (s : List ℕ) → Given reading_sheet (rules_verdict s)
unfolding rules_verdict
numbered s = go (read_sheet s) refl
  where
    go : (r : Read) → read_sheet s ≡ r → Given reading_sheet (read_verdict r)
    go (accepted cs) e = refl
    go (refused w k) e = one_of_these s w k ((promises s).codes w k e)

pub rules_read_lem : (s : List ℕ) (v : Verdict) → v ≡ rules_verdict s → RulesRead s v
rules_read_lem s v e = record { answer = e; numbers = subst (Given reading_sheet) (sym e) (numbered s); meaning = promises s }
