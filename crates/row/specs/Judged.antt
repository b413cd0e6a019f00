-- A row judged: its first place, and then its steps one after another.
use Rattle.std.specs.Prelude.{ℕ, suc, ◌-◌, ◌<◌, ◌≡◌, Bool, true, false, List, get_or, Ok, Err}
use Rattle.std.proofs.Math.Path.{ap}
use Rattle.std.proofs.Math.Bool.{cond}
use Rattle.std.proofs.Common.{eq-eqb, ne_eqb}
use Rattle.row.specs.Firsts.{passes_on, stops_at, passed_all}
use Rattle.row.specs.Moves.{open_at, lowest_shut, judged_moves}
use Rattle.row.specs.declared.MoveFault.TheVariants.{Elsewhere, Shut}

module _ (lanes : List (List ℕ)) (c : ℕ) (row : List ℕ) (h l : ℕ) where
  pub open_on : (i : ℕ) → i < h → open_at lanes c row h l i ≡ true
      → lowest_shut lanes c row h l (h - i) i ≡ lowest_shut lanes c row h l (h - suc i) (suc i)
  unfolding lowest_shut
  open_on = passes_on (open_at lanes c row h l) (λ k. Err (Shut k)) (λ end. Ok tt) h

  pub shut_here : (i : ℕ) → i < h → open_at lanes c row h l i ≡ false → lowest_shut lanes c row h l (h - i) i ≡ Err (Shut i)
  unfolding lowest_shut
  shut_here = stops_at (open_at lanes c row h l) (λ k. Err (Shut k)) (λ end. Ok tt) h

  pub open_all : (i : ℕ) → h - i ≡ 0 → lowest_shut lanes c row h l (h - i) i ≡ Ok tt
  unfolding lowest_shut
  open_all = passed_all (open_at lanes c row h l) (λ k. Err (Shut k)) (λ end. Ok tt) h

  pub at_start : (start : ℕ) → get_or row 0 0 ≡ start → judged_moves lanes c start row h l ≡ lowest_shut lanes c row h l h 0
  unfolding judged_moves
  at_start start e = ap (λ (b : Bool). cond b (lowest_shut lanes c row h l h 0) (Err Elsewhere)) (eq-eqb _ _ e)

  pub elsewhere : (start : ℕ) → (get_or row 0 0 ≡ start → ⊥) → judged_moves lanes c start row h l ≡ Err Elsewhere
  unfolding judged_moves
  elsewhere start n = ap (λ (b : Bool). cond b (lowest_shut lanes c row h l h 0) (Err Elsewhere)) (ne_eqb _ _ n)
