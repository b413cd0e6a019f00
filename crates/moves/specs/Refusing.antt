-- A refusal of the moves has one of the numbers that document 01 lists.
use Rattle.std.specs.Prelude.{ℕ, ◌≡◌, refl, true, List, [], ◌∷◌, get_or, Result, Ok, Err}
use Rattle.std.proofs.Common.{inl, inr}
use Rattle.refusal.specs.Results.{told}
use Rattle.refusal.specs.Given.{accepts, Refusals, Given, checking_moves}
use Rattle.refusal.specs.Numbered.{all_among, one_of_more}
use Rattle.refusal.specs.declared.Verdict.{Verdict}
use Rattle.refusal.specs.declared.Verdict.TheVariants.{Accepted}
use Rattle.plan.specs.Plan.{PlanNumbers}
use Rattle.plan.specs.Refusing.{given_after}
use Rattle.row.specs.Firsts.{each_answer}
use Rattle.row.specs.declared.MoveFault.{MoveFault}
use Rattle.row.specs.declared.MoveFault.TheVariants.{Elsewhere, Shut}
use Rattle.moves.specs.Carts.{verdict_of, cart_answer, cart_verdict, row_verdict, row_accepted, judged_carts, moves_verdict, checked_moves}

-- of any operation that refuses with 10 and 11 and says no more than accepted
module _ (t : Refusals) (done : t.done ≡ accepts) (numbers : all_among t.plan (10 ∷ 11 ∷ []) ≡ true) where
  answer_given : (c : ℕ) (a : Result (Unit {0}) MoveFault) → Given t (verdict_of c a)
  answer_given c (Ok u) = done
  answer_given c (Err Elsewhere) = one_of_more (10 ∷ 11 ∷ []) t.plan 10 numbers (inl refl)
  answer_given c (Err (Shut s)) = one_of_more (10 ∷ 11 ∷ []) t.plan 11 numbers (inr (inl refl))

  pub row_given : (floor : List ℕ) (c : ℕ) (row : List ℕ) (h l : ℕ) → Given t (cart_verdict floor c row h l)
  row_given floor c row h l = answer_given c (cart_answer floor c row h l)

  pub carts_given : (floor : List ℕ) (p : PlanNumbers) (n c : ℕ) → Given t (judged_carts floor p n c)
  unfolding judged_carts
  carts_given floor p n c =
      each_answer (row_accepted floor p) (row_verdict floor p) (λ end. Accepted) n c (Given t)
      (λ k. row_given floor k (get_or p.rows k []) p.head.steps p.head.stem) (λ end. done)

pub moves_given : (floor plan : List ℕ) → Given checking_moves (checked_moves floor plan)
unfolding checked_moves
moves_given floor plan =
    given_after checking_moves refl refl (λ (v : Verdict). v) told (λ e. refl) (moves_verdict floor) floor plan
    (λ f p w. carts_given checking_moves refl refl floor p f.carts 0)
