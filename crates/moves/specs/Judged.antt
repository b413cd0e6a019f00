-- Carts judged one after another.
use Rattle.std.specs.Prelude.{ℕ, suc, ◌-◌, ◌<◌, ◌≡◌, true, false, List}
use Rattle.refusal.specs.declared.Verdict.TheVariants.{Accepted}
use Rattle.plan.specs.Plan.{PlanNumbers}
use Rattle.row.specs.Firsts.{passes_on, stops_at, passed_all}
use Rattle.moves.specs.Carts.{row_verdict, row_accepted, judged_carts}

module _ (floor : List ℕ) (p : PlanNumbers) (n : ℕ) where
  pub cart_passed : (c : ℕ) → c < n → row_accepted floor p c ≡ true → judged_carts floor p (n - c) c ≡ judged_carts floor p (n - suc c) (suc c)
  unfolding judged_carts
  cart_passed = passes_on (row_accepted floor p) (row_verdict floor p) (λ end. Accepted) n

  pub cart_refused : (c : ℕ) → c < n → row_accepted floor p c ≡ false → judged_carts floor p (n - c) c ≡ row_verdict floor p c
  unfolding judged_carts
  cart_refused = stops_at (row_accepted floor p) (row_verdict floor p) (λ end. Accepted) n

  pub carts_passed : (c : ℕ) → n - c ≡ 0 → judged_carts floor p (n - c) c ≡ Accepted
  unfolding judged_carts
  carts_passed = passed_all (row_accepted floor p) (row_verdict floor p) (λ end. Accepted) n
