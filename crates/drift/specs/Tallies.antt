-- The tallies of single marks, kept from count to count.
use Rattle.std.specs.Prelude.{ℕ, ◌+◌, ◌-◌, ◌*◌, ◌^◌, ◌≤◌, ◌<◌, ◌≡◌, Bool, cond, List, ◌⊎◌, get_or, length}
use Rattle.mask.specs.Mask.{signed}
use Rattle.table.specs.Table.{told}
use Rattle.quorum.specs.Words.{within}
use Rattle.quorum.specs.Tallies.{Tallied}
use Rattle.drift.specs.declared.Ground.{Ground}

-- A mark's tallies are kept where its table lies, a byte for a word; those of its negation as far behind as the tables of all marks reach.
abbrev pub tally_at : Ground → (from : ℕ) → Bool → ℕ
tally_at g from p = cond p from (from + g.marks * g.lasso.h)

-- where, if the table at an offset is a mark's and there is room
pub record KeptAt (g : Ground) (from : ℕ) (p : Bool) (at : ℕ) : Type 0 where
  pub mark : ℕ
  pub few : mark < g.marks
  pub table : from ≡ mark * g.lasso.h
  pub place : at ≡ tally_at g from p
  pub room : at + g.lasso.h ≤ 2048

-- the tallies from an offset on are those of all carts, of the text, or of its negation, whose table begins at another
abbrev pub TalliesOf : Ground → (t : List ℕ) (from : ℕ) → Bool → (at : ℕ) → List ℕ → Type 0
TalliesOf g t from p at tallies = Tallied g.lasso.h g.lasso.l g.carts g.drift (within (2 ^ g.carts - 1) (λ i s. signed p (told t from i s))) at tallies

-- What is kept: of each mark and of its negation nothing yet, which 255 in the first byte says (no tally is above 32), or the tallies of all steps.
pub record Tallies (g : Ground) (t tallies : List ℕ) : Type 0 where
  pub size : length tallies ≡ 2048
  pub each : (from : ℕ) (p : Bool) (at : ℕ) → KeptAt g from p at → (get_or tallies at 0 ≡ 255) ⊎ TalliesOf g t from p at tallies
