-- Where replacing gives 11, its step is the lowest left by a move that is not open: in the plan as it is, or else of the cart with the new row.
use Rattle.std.specs.Prelude.{ℕ, ◌≡◌, refl, Bool, true, false, cond, ◌⊎◌, List, [], leb, Result, Ok, Err}
use Rattle.std.proofs.Common.{arith, sym, ap, subst, inl, inr, ⊎_elim, get_or-set_same, leb-false}
use Rattle.refusal.specs.Codes.{refused, code_of}
use Rattle.refusal.specs.Stages.{is_accepted, and_then}
use Rattle.refusal.specs.Accepting.{accepted_is}
use Rattle.refusal.specs.declared.Verdict.{Verdict}
use Rattle.refusal.specs.declared.Verdict.TheVariants.{Accepted, Plan as AboutPlan}
use Rattle.floor.specs.declared.Floor.{Floor}
use Rattle.plan.specs.Plan.{PlanNumbers, judged_row}
use Rattle.plan.specs.Valid.{ValidPlan}
use Rattle.row.specs.Meaning.{Lowest}
use Rattle.row.specs.Moves.{lanes_in}
use Rattle.moves.specs.Carts.{class_of, cart_verdict, moves_verdict}
use Rattle.moves.specs.Promises.{AllUnending, LowestLeft}
use Rattle.moves.specs.Unending.{all_unending}
use Rattle.moves.specs.ShutMoves.{row-11, carts_11}
use Rattle.edit.specs.Replaced.{replaced, places_verdict, new_row_verdict, cart_row_verdict, replace_verdict}
use Rattle.plan.specs.declared.RowFault.TheVariants.{Absent, WrongLength}
use Rattle.plan.specs.declared.RowFault.{RowFault}

module _ (n k : ℕ) where
  abbrev Is11 : Verdict → Type 0
  Is11 v = v ≡ AboutPlan (refused 11 n k)

  -- it comes from the first of two stages, or from the second behind an accepted one
  either_stage : (v next : Verdict) → Is11 (and_then v next) → Is11 v ⊎ ((v ≡ Accepted) × Is11 next)
  either_stage v next = go (is_accepted v) refl
    where
      go : (b : Bool) → is_accepted v ≡ b → Is11 (cond b next v) → Is11 v ⊎ ((v ≡ Accepted) × Is11 next)
      go true q e = inr (accepted_is v q, e)
      go false q e = inl e

  -- neither 4 nor 9
  not_places : (c : ℕ) (a : Result (Unit {0}) RowFault) → Is11 (places_verdict c a) → ⊥
  not_places c (Ok tt) e = let z = ap (λ (v : Verdict). (code_of v).number) e in omega arith
  not_places c (Err WrongLength) e = let z = ap (λ (v : Verdict). (code_of v).number) e in omega arith
  not_places c (Err (Absent s)) e = let z = ap (λ (v : Verdict). (code_of v).number) e in omega arith

  module _ (floor : List ℕ) (f : Floor) (p : PlanNumbers) (v : ValidPlan p f) (c : ℕ) (row : List ℕ) where
    -- of the new row
    abbrev Its11 : Type 0
    Its11 = (n ≡ c) × LowestLeft floor (replaced c row p) n k

    new_11 : leb f.carts c ≡ false → Is11 (new_row_verdict floor f p.head c row) → Its11
    new_11 q e =
        ⊎_elim (λ u. absurd (not_places c (judged_row row h f.places) u)) (λ u. by_row u.1)
        (either_stage (places_verdict c (judged_row row h f.places)) (cart_verdict floor c row h l) e)
      where
        h : ℕ
        h = p.head.steps

        l : ℕ
        l = p.head.stem

        by_row : Is11 (cart_verdict floor c row h l) → Its11
        by_row u =
            let w = row-11 floor n k c row h l u in
            let there = get_or-set_same p.rows c row [] (omega (arith, leb-false f.carts c q, v.carts)) in
            let lowest = subst (λ (x : List ℕ). Lowest (lanes_in floor) (class_of floor c) x h l k) (sym there) w.1 in
            (sym w.0, subst (λ (i : ℕ). LowestLeft floor (replaced c row p) i k) w.0 lowest)

    pub replaced_11 : Is11 (replace_verdict floor f p c row)
        → LowestLeft floor p n k ⊎ (AllUnending floor f p × (n ≡ c) × LowestLeft floor (replaced c row p) n k)
    replaced_11 e =
        ⊎_elim (λ u. inl (carts_11 floor n k p f.carts 0 u))
        (λ u. let w = go (leb f.carts c) refl u.1 in inr (all_unending floor p v.head.stem f u.0, w.0, w.1))
        (either_stage (moves_verdict floor f p) (cart_row_verdict floor f p c row) e)
      where
        go : (b : Bool) → leb f.carts c ≡ b → Is11 (cond b (AboutPlan (refused 19 c 0)) (new_row_verdict floor f p.head c row)) → Its11
        go true q u = let z = ap (λ (v : Verdict). (code_of v).number) u in absurd (omega arith)
        go false q u = new_11 q u
