-- Moves: which are open, and what is refused of a row.
use Rattle.std.specs.Prelude.{ℕ, ◌/◌, ◌%◌, ◌^◌, Bool, false, cond, ◌&&◌, ◌||◌, List, [], ◌∷◌, eqb, get_or, Result, Ok, Err}
use Rattle.record.specs.Parts.{parts}
use Rattle.floor.specs.Numbers.{numbers_of}
use Rattle.row.specs.First.{first_failing}
use Rattle.row.specs.Lasso.{next_step}
use Rattle.row.specs.declared.MoveFault.{MoveFault}
use Rattle.row.specs.declared.MoveFault.TheVariants.{Elsewhere, Shut}

-- "classes (a byte each; bit c opens it to class c)"
abbrev pub bit : ℕ → ℕ → Bool
bit c n = eqb (n / 2 ^ c % 2) 1

-- the lanes of a floor's file, from, to and classes of each
abbrev pub lanes_in : List ℕ → List (List ℕ)
lanes_in floor = parts 3 (numbers_of floor).lanes

-- its carts, "class 0 to 7, start place" of each
abbrev pub carts_in : List ℕ → List (List ℕ)
carts_in floor = parts 2 (numbers_of floor).carts

-- a lane (from, to, classes) opens the move from a to b to class c
abbrev pub opens : List ℕ → ℕ → ℕ → ℕ → Bool
opens lane c a b = eqb (get_or lane 0 0) a && (eqb (get_or lane 1 0) b && bit c (get_or lane 2 0))

-- "The same lane may stand twice; either opens it."
unfoldable pub some_lane_opens : List (List ℕ) → ℕ → ℕ → ℕ → Bool
some_lane_opens [] c a b = false
some_lane_opens (lane ∷ lanes) c a b = opens lane c a b || some_lane_opens lanes c a b

-- document 02, 1): "A move from a place to the same place is open to every class, lane or not." Any other needs a lane.
unfoldable pub is_open : List (List ℕ) → ℕ → ℕ → ℕ → Bool
is_open lanes c a b = eqb a b || some_lane_opens lanes c a b

-- the move that leaves step s of a row of h steps whose lap begins at l, "the move from h − 1 to l included"
abbrev pub open_at : List (List ℕ) → ℕ → List ℕ → ℕ → ℕ → ℕ → Bool
open_at lanes class row h l s = is_open lanes class (get_or row s 0) (get_or row (next_step h l s) 0)

-- the lowest of n steps from s on that is left by a move that is not open
unfoldable pub lowest_shut : List (List ℕ) → ℕ → List ℕ → ℕ → ℕ → ℕ → ℕ → Result (Unit {0}) MoveFault
lowest_shut lanes class row h l n s = first_failing (open_at lanes class row h l) (λ k. Err (Shut k)) (λ end. Ok tt) n s

-- "10 first place is not the start .., then 11 no open lane", which document 02, 1) gives only between two different places
unfoldable pub judged_moves : List (List ℕ) → ℕ → ℕ → List ℕ → ℕ → ℕ → Result (Unit {0}) MoveFault
judged_moves lanes class start row h l = cond (eqb (get_or row 0 0) start) (lowest_shut lanes class row h l h 0) (Err Elsewhere)
