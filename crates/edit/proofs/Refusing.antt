-- A refusal of moving on or of replacing a row has one of the numbers that document 01 lists.
use Rattle.std.specs.Prelude.{ℕ, refl, Bool, true, false, cond, List, leb, Result, Ok, Err}
use Rattle.refusal.specs.Results.{told}
use Rattle.refusal.specs.Codes.{refused}
use Rattle.refusal.specs.Given.{Refusals, Given, moving_on, replacing_row}
use Rattle.refusal.specs.Numbered.{one_among}
use Rattle.refusal.specs.Held.{given_written}
use Rattle.refusal.specs.Stages.{is_accepted, and_then}
use Rattle.refusal.specs.Outcome.{Outcome, unchanged}
use Rattle.refusal.specs.declared.Verdict.{Verdict}
use Rattle.refusal.specs.declared.Verdict.TheVariants.{Plan as AboutPlan}
use Rattle.floor.specs.declared.Floor.{Floor}
use Rattle.plan.specs.Plan.{PlanNumbers, judged_row}
use Rattle.plan.specs.Numbers.{plan_file}
use Rattle.plan.specs.Refusing.{given_after}
use Rattle.moves.specs.Carts.{cart_verdict, moves_verdict}
use Rattle.moves.specs.Refusing.{row_given, carts_given}
use Rattle.edit.specs.Moved.{moved, move_on}
use Rattle.edit.specs.Replaced.{places_verdict, new_row_verdict, cart_row_verdict, replace_verdict, replace_row}
use Rattle.plan.specs.declared.RowFault.TheVariants.{Absent, WrongLength}
use Rattle.plan.specs.declared.RowFault.{RowFault}

-- moving on: reading's, and 18
pub moving_given : (floor plan : List ℕ) (s : ℕ) (out : List ℕ) → Given moving_on (move_on floor plan s out).answer
unfolding move_on
moving_given floor plan s out =
    given_after moving_on refl refl (λ (o : Outcome). o.answer) (λ e. unchanged (told e) out) (λ e. refl) _ floor plan
    (λ f p w. given_written moving_on AboutPlan (plan_file (moved s p)) out refl (one_among moving_on.plan 18 refl))

-- stages: either's
both_given : (t : Refusals) (v next : Verdict) → Given t v → Given t next → Given t (and_then v next)
both_given t v next g h = go (is_accepted v)
  where
    go : (b : Bool) → Given t (cond b next v)
    go true = h
    go false = g

places_given : (c : ℕ) (a : Result (Unit {0}) RowFault) → Given replacing_row (places_verdict c a)
places_given c (Ok tt) = refl
places_given c (Err WrongLength) = one_among replacing_row.plan 4 refl
places_given c (Err (Absent s)) = one_among replacing_row.plan 9 refl

-- replacing: the moves', 19, 4, 9, 10 and 11
module _ (floor : List ℕ) (f : Floor) (p : PlanNumbers) (c : ℕ) (row : List ℕ) where
  row_verdict_given : Given replacing_row (cart_row_verdict floor f p c row)
  row_verdict_given = go (leb f.carts c)
    where
      go : (b : Bool) → Given replacing_row (cond b (AboutPlan (refused 19 c 0)) (new_row_verdict floor f p.head c row))
      go true = one_among replacing_row.plan 19 refl
      go false =
          both_given replacing_row (places_verdict c (judged_row row p.head.steps f.places)) (cart_verdict floor c row p.head.steps p.head.stem)
          (places_given c (judged_row row p.head.steps f.places)) (row_given replacing_row refl refl floor c row p.head.steps p.head.stem)

  verdict_given : Given replacing_row (replace_verdict floor f p c row)
  verdict_given =
      both_given replacing_row (moves_verdict floor f p) (cart_row_verdict floor f p c row)
      (carts_given replacing_row refl refl floor p f.carts 0) row_verdict_given

pub replacing_given : (floor plan : List ℕ) (c : ℕ) (row : List ℕ) → Given replacing_row (replace_row floor plan c row).answer
unfolding replace_row
replacing_given floor plan c row =
    given_after replacing_row refl refl (λ (o : Outcome). o.answer) (λ e. unchanged (told e) plan) (λ e. refl) _ floor plan
    (λ f p w. verdict_given floor f p c row)
