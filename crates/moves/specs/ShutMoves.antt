-- Where 11 is given, its step is the lowest that the cart leaves by a move that is not open.
use Rattle.std.specs.Prelude.{ℕ, ◌≡◌, List, [], get_or}
use Rattle.std.proofs.Common.{arith, sym, ◌∙◌}
use Rattle.std.proofs.Math.Path.{ap, subst}
use Rattle.refusal.specs.Codes.{refused, code_of}
use Rattle.refusal.specs.declared.Verdict.{Verdict}
use Rattle.refusal.specs.declared.Verdict.TheVariants.{Accepted, Plan as AboutPlan}
use Rattle.plan.specs.Plan.{PlanNumbers}
use Rattle.row.specs.Firsts.{each_answer}
use Rattle.row.specs.Meaning.{Lowest}
use Rattle.row.specs.Moves.{lanes_in}
use Rattle.row.specs.Unending.{refused_step}
use Rattle.moves.specs.Carts.{class_of, start_of, cart_answer, cart_verdict, row_verdict, row_accepted, judged_carts}
use Rattle.moves.specs.Unending.{only_shut, same_cart}
use Rattle.moves.specs.Promises.{LowestLeft}

module _ (floor : List ℕ) (n k : ℕ) where
  -- of a row as cart c's
  pub row-11 : (c : ℕ) (row : List ℕ) (h l : ℕ) → cart_verdict floor c row h l ≡ AboutPlan (refused 11 n k)
      → (c ≡ n) × Lowest (lanes_in floor) (class_of floor c) row h l k
  row-11 c row h l e =
      let q = same_cart c n 11 k (cart_answer floor c row h l) e in
      let shut = only_shut c k (cart_answer floor c row h l) (e ∙ ap (λ (i : ℕ). AboutPlan (refused 11 i k)) (sym q)) in
      (q, (refused_step _ _ _ _ _ (start_of floor c) k shut).1)

  -- of the carts in order
  pub carts_11 : (p : PlanNumbers) (m c : ℕ) → judged_carts floor p m c ≡ AboutPlan (refused 11 n k) → LowestLeft floor p n k
  unfolding judged_carts
  carts_11 p m c =
      each_answer (row_accepted floor p) (row_verdict floor p) (λ end. Accepted) m c (λ (v : Verdict). v ≡ AboutPlan (refused 11 n k) → LowestLeft floor p n k)
      (λ i e. let w = row-11 i (get_or p.rows i []) p.head.steps p.head.stem e in subst (λ (j : ℕ). LowestLeft floor p j k) w.0 w.1)
      (λ end e. let z = ap (λ (v : Verdict). (code_of v).number) e in absurd (omega arith))
