-- Narrow places: the search for the lowest cart in a conflict, and its earliest counter in one.
use Rattle.std.specs.Prelude.{ℕ, suc, ◌+◌, ◌-◌, Bool, true, false, not, ◌&&◌, ◌||◌, eqb}
use Rattle.refusal.specs.Codes.{refused}
use Rattle.refusal.specs.Stages.{is_accepted}
use Rattle.refusal.specs.declared.Verdict.{Verdict}
use Rattle.refusal.specs.declared.Verdict.TheVariants.{Accepted, Plan as AboutPlan}
use Rattle.row.specs.First.{first_failing}
use Rattle.row.specs.Lasso.{step_of}
use Rattle.conflict.specs.Meaning.{Routes, stands_on}

-- all n numbers from s on pass a test
abbrev pub all_from : (ℕ → Bool) → ℕ → ℕ → Bool
all_from ok n s = first_failing ok (λ k. false) (λ end. true) n s

module _ (P : Routes) where
  -- cart a at counter v and cart b at counter w: in one narrow place, or exchanged between two by their next moves
  abbrev pub meets : ℕ → ℕ → ℕ → ℕ → Bool
  meets a v b w =
      P.narrow (stands_on P a v)
      && (eqb (stands_on P a v) (stands_on P b w)
      || (P.narrow (stands_on P b w) && (eqb (stands_on P a (suc v)) (stands_on P b w) && eqb (stands_on P b (suc w)) (stands_on P a v))))

  module _ (d : ℕ) where
    -- cart a at counter v meets cart b at none of the counters that are at most d away
    abbrev pub passes : ℕ → ℕ → ℕ → Bool
    passes a v b = all_from (λ w. not (meets a v b w)) (suc (v + d) - (v - d)) (v - d)

    -- and so no other cart
    unfoldable pub clear : ℕ → ℕ → Bool
    clear a v = all_from (λ b. eqb a b || passes a v b) P.carts 0

    -- the earliest counter of cart a in a conflict: it is below h + d if there is one
    unfoldable pub earliest_verdict : ℕ → Verdict
    earliest_verdict a = first_failing (clear a) (λ v. AboutPlan (refused 20 a (step_of P.h P.l v))) (λ end. Accepted) (P.h + d) 0

    -- "lowest cart in any conflict": carts in order
    unfoldable pub narrow_verdict : Verdict
    narrow_verdict = first_failing (λ a. is_accepted (earliest_verdict a)) earliest_verdict (λ end. Accepted) P.carts 0
