-- A replacement judged before anything is written.
use Rattle.std.specs.Prelude.{ℕ, ◌+◌, ◌≤◌, ◌≡◌, cond, List, leb, length, Result, Ok, Err}
use Rattle.refusal.specs.Codes.{refused}
use Rattle.refusal.specs.Results.{checked}
use Rattle.refusal.specs.declared.Refused.{Refused}
use Rattle.refusal.specs.declared.Verdict.{Verdict}
use Rattle.refusal.specs.declared.Verdict.TheVariants.{Plan as AboutPlan}
use Rattle.record.specs.Buffer.{stored}
use Rattle.floor.specs.declared.Floor.{Floor}
use Rattle.plan.specs.Plan.{judged_row}
use Rattle.plan.specs.declared.Head.{Head}
use Rattle.edit.specs.Replaced.{places_verdict, replace_row}

-- 19, 4 and 9: what is refused of a row for cart c before its moves are judged
abbrev pub fit_verdict : Floor → Head → ℕ → List ℕ → Verdict
fit_verdict f h c row = cond (leb f.carts c) (AboutPlan (refused 19 c 0)) (places_verdict c (judged_row row h.steps f.places))

-- its verdict, what becomes of the plan, and that the row's bytes lie in it
pub record ReplacementJudged (floor plan : List ℕ) (c : ℕ) (row : List ℕ) (r : Result ℕ Refused) : Type 0 where
  pub answer : checked r ≡ (replace_row floor plan c row).answer
  pub kept : (e : Refused) → r ≡ Err e → (replace_row floor plan c row).out ≡ plan
  pub changed : (at : ℕ) → r ≡ Ok at → (replace_row floor plan c row).out ≡ stored plan at row
  pub inside : (at : ℕ) → r ≡ Ok at → at + length row ≤ length plan
