-- A further row, by whether it has steps.
use Rattle.std.specs.Prelude.{ℕ, ◌≡◌, refl, Bool, true, false, cond, List, length}
use Rattle.std.proofs.Common.{sym, ap, ◌∙◌, eq-eqb, ne_eqb}
use Rattle.refusal.specs.Accepting.{accepted_is, stops, goes_on}
use Rattle.refusal.specs.Stages.{is_accepted, and_then}
use Rattle.refusal.specs.declared.Verdict.TheVariants.{Accepted}
use Rattle.floor.specs.declared.Floor.{Floor}
use Rattle.plan.specs.Plan.{PlanNumbers}
use Rattle.moves.specs.Carts.{cart_verdict, moves_verdict}
use Rattle.moves.specs.Further.{further_verdict, with_further}

module _ (floor : List ℕ) (c : ℕ) (row : List ℕ) where
  pub no_steps : (l : ℕ) → length row ≡ 0 → further_verdict floor c row l ≡ Accepted
  no_steps l e = ap (λ (b : Bool). cond b Accepted (cart_verdict floor c row (length row) l)) (eq-eqb _ _ e)

  pub some_steps : (l : ℕ) → (length row ≡ 0 → ⊥) → further_verdict floor c row l ≡ cart_verdict floor c row (length row) l
  some_steps l n = ap (λ (b : Bool). cond b Accepted (cart_verdict floor c row (length row) l)) (ne_eqb _ _ n)

  -- without one, the plan's rows alone are judged
  pub none_further : (f : Floor) (p : PlanNumbers) → length row ≡ 0 → with_further floor f p c row ≡ moves_verdict floor f p
  none_further f p e = ap (and_then (moves_verdict floor f p)) (no_steps p.head.stem e) ∙ go (is_accepted (moves_verdict floor f p)) refl
    where
      go : (b : Bool) → is_accepted (moves_verdict floor f p) ≡ b → and_then (moves_verdict floor f p) Accepted ≡ moves_verdict floor f p
      go true q = goes_on (moves_verdict floor f p) Accepted q ∙ sym (accepted_is (moves_verdict floor f p) q)
      go false q = stops (moves_verdict floor f p) Accepted q
