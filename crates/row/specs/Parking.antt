-- A move judged: a cart may park on any place, and between two places the lanes decide.
use Rattle.std.specs.Prelude.{ℕ, ◌≡◌, Bool, true, false, ◌||◌, List}
use Rattle.std.proofs.Common.{sym, ◌∙◌, arith, eq-eqb, ne_eqb}
use Rattle.std.proofs.Math.Path.{ap}
use Rattle.row.specs.Moves.{some_lane_opens, is_open}

module _ (lanes : List (List ℕ)) (c a b : ℕ) where
  pub parked_open : a ≡ b → is_open lanes c a b ≡ true
  unfolding is_open
  parked_open e = ap (λ (t : Bool). t || some_lane_opens lanes c a b) (eq-eqb a b e)

  pub by_lanes : (a ≡ b → ⊥) → (t : Bool) → t ≡ some_lane_opens lanes c a b → t ≡ is_open lanes c a b
  unfolding is_open
  by_lanes n t e = e ∙ ap (λ (same : Bool). same || some_lane_opens lanes c a b) (sym (ne_eqb a b n))

  -- only a move between two different places is shut
  pub shut_apart : is_open lanes c a b ≡ false → a ≡ b → ⊥
  shut_apart s e = let z : true ≡ false = sym (parked_open e) ∙ s in let y : ◌≡◌ {A = ℕ} 0 1 = cc in absurd (omega arith)
