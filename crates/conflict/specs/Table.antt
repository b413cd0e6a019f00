-- Narrow places by a table, and the routes of a block of rows.
use Rattle.std.specs.Prelude.{ℕ, suc, ◌+◌, ◌*◌, ◌<◌, ◌≡◌, Bool, not, List, eqb, get_or}
use Rattle.plan.specs.Plan.{place_on_step, held_numbers}
use Rattle.plan.specs.declared.Head.{Head}
use Rattle.row.specs.Lasso.{step_of}
use Rattle.conflict.specs.Meaning.{Routes}
use Rattle.conflict.specs.Columns.{Latest}

-- whether a place is marked in a table of numbers
abbrev pub flag : List ℕ → ℕ → Bool
flag bays p = not (eqb (get_or bays p 0) 0)

-- the place on step s of cart i: "cart n's row beginning at 64 times n"
abbrev pub block_place : List ℕ → ℕ → ℕ → ℕ
block_place block i s = get_or block (64 * i + s) 0

-- cart b is on q on a step and on p on the next
pub record Goes (block : List ℕ) (step next q p b : ℕ) : Type 0 where
  pub here : block_place block b step ≡ q
  pub then : block_place block b next ≡ p

-- the routes that the search of the code walks
abbrev pub table_routes : List ℕ → ℕ → Head → List ℕ → Routes
table_routes bays carts h block = record { carts = carts; h = h.steps; l = h.stem; place = block_place block; narrow = flag bays }

-- the routes of the rows that a block holds
abbrev pub held_routes : (ℕ → Bool) → ℕ → Head → List ℕ → Routes
held_routes narrow carts h block = record {
  carts = carts;
  h = h.steps;
  l = h.stem;
  place = place_on_step (held_numbers carts h block);
  narrow = narrow;
}

-- the place of cart i at counter v
abbrev pub counter_place : Head → List ℕ → ℕ → ℕ → ℕ
counter_place h block i v = block_place block i (step_of h.steps h.stem v)

-- by a table, where the carts above a were latest at the counters below w
abbrev pub LatestAbove : List ℕ → ℕ → Head → ℕ → ℕ → List ℕ → Type 0
LatestAbove block carts h a w last = Latest (suc a) carts (counter_place h block) w last

-- the table has the narrow places; places are bytes
abbrev pub Flags : List ℕ → (ℕ → Bool) → Type 0
Flags bays narrow = (p : ℕ) → p < 256 → flag bays p ≡ narrow p
