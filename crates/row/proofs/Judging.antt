-- The moves of a row judged from its first step on: what holds before each turn.
use Prim.Native.Nat.{ℕ, suc, ◌-◌, ◌≤◌, ◌<◌}
use Rattle.std.specs.Prelude.{Err}
use native.Mathlib.Omega.{arith}
use mathlib.Core.Path.{◌≡◌, sym, ap, ◌∙◌}
use mathlib.Core.Bool.{Bool, true, false, not}
use mathlib.Core.List.{List}
use lib.ListN.{length, get_or}
use Rattle.refusal.specs.Faults.{not_is}
use Rattle.row.specs.Lasso.{next_step}
use Rattle.row.specs.Moves.{is_open, lowest_shut, judged_moves}
use Rattle.row.specs.Judged.{open_on, shut_here, at_start}
use Rattle.row.specs.declared.MoveFault.TheVariants.{Shut}

-- the steps from i on decide
pub record Judging (lanes : List (List ℕ)) (c start : ℕ) (row : List ℕ) (l i : ℕ) : Type 0 where
  pub within : i ≤ length row
  pub same : judged_moves lanes c start row (length row) l ≡ lowest_shut lanes c row (length row) l (length row - i) i

module _ (lanes : List (List ℕ)) (c start : ℕ) (row : List ℕ) (l : ℕ) where
  pub begun : get_or row 0 0 ≡ start → Judging lanes c start row l 0
  begun e =
      let h = length row in
      let q : h ≡ h - 0 = omega arith in
      record { within = omega arith; same = at_start lanes c row h l start e ∙ ap (λ (n : ℕ). lowest_shut lanes c row h l n 0) q }

  -- the move out of step i, judged by where the next step is
  module _ (i : ℕ) (w : Judging lanes c start row l i) (m : i < length row) (n : ℕ) (at : n ≡ next_step (length row) l i) (t : Bool)
      (e : t ≡ is_open lanes c (get_or row i 0) (get_or row n 0)) where
    move : (b : Bool) → t ≡ b → is_open lanes c (get_or row i 0) (get_or row (next_step (length row) l i) 0) ≡ b
    move b z = ap (λ (s : ℕ). is_open lanes c (get_or row i 0) (get_or row s 0)) (sym at) ∙ sym e ∙ z

    pub shut : not t ≡ true → Err (Shut i) ≡ judged_moves lanes c start row (length row) l
    shut z = sym (w.same ∙ shut_here lanes c row (length row) l i m (move false (not_is t true z)))

    pub onward : not t ≡ false → Judging lanes c start row l (suc i)
    onward z = record { within = m; same = w.same ∙ open_on lanes c row (length row) l i m (move true (not_is t false z)) }
