-- Moves are accepted exactly if they are open at every counter, without end; a refused step is the lowest.
use Rattle.std.specs.Prelude.{ℕ, suc, ◌+◌, ◌<◌, Bool, List, get_or, Result, Ok, Err}
use native.Mathlib.Omega.{arith}
use Rattle.std.proofs.Math.Path.{◌≡◌, refl, ap, ap₂, subst}
use Rattle.std.proofs.Common.{sym, ◌∙◌}
use Rattle.std.proofs.Math.Bool.{true, false, cond}
use Rattle.std.proofs.Math.Dec.{eqb}
use borrow.Author.Tests.{eq-eqb, eqb-true}
use Rattle.row.specs.First.{FailsFirst}
use Rattle.row.specs.Firsts.{all_pass, none_fails, first_fault_lem, each_answer}
use Rattle.row.specs.Lasso.{next_step, step_of}
use Rattle.row.specs.Moves.{is_open, open_at, lowest_shut, judged_moves}
use Rattle.row.specs.Meaning.{Unending, Lowest}
use Rattle.row.specs.Judged.{at_start}
use Rattle.row.specs.Parking.{shut_apart}
use Rattle.row.specs.Round.{step_low, step_below, step_next}
use Rattle.row.specs.declared.MoveFault.{MoveFault}
use Rattle.row.specs.declared.MoveFault.TheVariants.{Elsewhere, Shut}

module _ (lanes : List (List ℕ)) (class : ℕ) (row : List ℕ) (h l : ℕ) where
  abbrev whole : Result (Unit {0}) MoveFault
  whole = lowest_shut lanes class row h l h 0

  -- no step refused: every one is left by an open move
  all_open : whole ≡ Ok tt → (k : ℕ) → k < h → open_at lanes class row h l k ≡ true
  unfolding lowest_shut
  all_open e k q =
      all_pass (open_at lanes class row h l) (λ k. Err (Shut k)) (λ end. Ok tt) h 0 (λ k f u. let z : ◌≡◌ {A = ℕ} 0 1 = cc in absurd (omega arith)) e k
      (omega arith) (omega arith)

  none_shut : ((k : ℕ) → k < h → open_at lanes class row h l k ≡ true) → whole ≡ Ok tt
  unfolding lowest_shut
  none_shut f = none_fails (open_at lanes class row h l) (λ k. Err (Shut k)) (λ end. Ok tt) h 0 (λ k p q. f k (omega arith))

  lowest : (k : ℕ) → whole ≡ Err (Shut k) → Lowest lanes class row h l k
  unfolding lowest_shut
  lowest k e =
      let other : whole ≡ Ok tt → ⊥ = λ u. let z : ◌≡◌ {A = ℕ} 0 1 = cc in omega arith in
      let w = first_fault_lem (open_at lanes class row h l) (λ k. Err (Shut k)) (λ end. Ok tt) h 0 other in
      let s = w.is in
      let z : w.at ≡ k = cc in
      let top : 0 + h ≡ h = omega arith in
      let f : FailsFirst (open_at lanes class row h l) 0 h w.at = subst (λ (n : ℕ). FailsFirst (open_at lanes class row h l) 0 n w.at) top w.first in
      subst (Lowest lanes class row h l) z (record { first = f; departs = shut_apart lanes class _ _ f.fails })

  -- only such moves are accepted
  pub unending : (start : ℕ) → l < h → judged_moves lanes class start row h l ≡ Ok tt → Unending lanes class start row h l
  unfolding judged_moves
  unending start some e = go (eqb (get_or row 0 0) start) refl e
    where
      go : (b : Bool) → eqb (get_or row 0 0) start ≡ b → cond b whole (Err Elsewhere) ≡ Ok tt → Unending lanes class start row h l
      go false q e = let z : ◌≡◌ {A = ℕ} 0 1 = cc in absurd (omega arith)
      go true q e = record {
        begins = eqb-true _ _ q;
        open_at_lem = λ v.
            ap (λ (x : ℕ). is_open lanes class (get_or row (step_of h l v) 0) (get_or row x 0)) (step_next h l some v)
            ∙ all_open e (step_of h l v) (step_below h l some v);
      }

  -- and all such moves are
  pub accepts_all : (start : ℕ) → l < h → Unending lanes class start row h l → judged_moves lanes class start row h l ≡ Ok tt
  unfolding judged_moves
  accepts_all start some w =
      ap (λ (b : Bool). cond b whole (Err Elsewhere)) (eq-eqb _ _ w.begins)
      ∙ none_shut (λ k p.
      let here : step_of h l k ≡ k = step_low h l k p in
      let then : step_of h l (suc k) ≡ next_step h l k = step_next h l some k ∙ ap (next_step h l) here in
      ap₂ (λ (x y : ℕ). is_open lanes class (get_or row x 0) (get_or row y 0)) (sym here) (sym then) ∙ w.open_at_lem k)

  -- 10: it begins elsewhere
  pub refused_start : (start : ℕ) → judged_moves lanes class start row h l ≡ Err Elsewhere → get_or row 0 0 ≡ start → ⊥
  unfolding lowest_shut
  refused_start start e q =
      each_answer (open_at lanes class row h l) (λ k. Err (Shut k)) (λ end. Ok tt) h 0 (λ (a : Result (Unit {0}) MoveFault). a ≡ Err Elsewhere → ⊥)
      (λ k u. let z : ◌≡◌ {A = ℕ} 0 1 = cc in omega arith) (λ k u. let z : ◌≡◌ {A = ℕ} 0 1 = cc in omega arith)
      (sym (at_start lanes class row h l start q) ∙ e)

  -- 11: it begins at the start, and the step is the lowest
  pub refused_step : (start k : ℕ) → judged_moves lanes class start row h l ≡ Err (Shut k) → (get_or row 0 0 ≡ start) × Lowest lanes class row h l k
  unfolding judged_moves
  refused_step start k e = go (eqb (get_or row 0 0) start) refl e
    where
      go : (b : Bool) → eqb (get_or row 0 0) start ≡ b → cond b whole (Err Elsewhere) ≡ Err (Shut k) → (get_or row 0 0 ≡ start) × Lowest lanes class row h l k
      go false q e = let z : ◌≡◌ {A = ℕ} 0 1 = cc in absurd (omega arith)
      go true q e = (eqb-true _ _ q, lowest k e)
