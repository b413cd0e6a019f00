-- What reading a rule sheet promises.
use Rattle.std.specs.Prelude.{ℕ, ◌≡◌, List}
use Rattle.refusal.specs.Given.{Given, reading_sheet}
use Rattle.refusal.specs.declared.Verdict.{Verdict}
use Rattle.grammar.specs.Promises.{Promises}
use Rattle.sheet.specs.Rules.{rules_verdict}

pub record RulesRead (s : List ℕ) (v : Verdict) : Type 0 where
  -- the answer, for every sheet
  pub answer : v ≡ rules_verdict s
  -- accepted, or refused by one of the numbers of reading a sheet
  pub numbers : Given reading_sheet v
  -- and what that reader means in the words of the grammar and the limits
  pub meaning : Promises s
