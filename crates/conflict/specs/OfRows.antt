-- The code's rows in the words of the definitions.
use Rattle.std.specs.Prelude.{ℕ, List}
use Rattle.row.specs.Lasso.{step_of}
use Rattle.conflict.specs.Meaning.{Routes}
use Rattle.conflict.specs.Table.{table_routes, LatestAbove}
use Rattle.conflict.specs.declared.rows.Rows.{Rows}

-- the routes that they are
abbrev pub routes_of : Rows → Routes
routes_of r = table_routes r.bays.now r.carts r.head r.block.now

-- the step of a counter
abbrev pub step_at : Rows → ℕ → ℕ
step_at r v = step_of r.head.steps r.head.stem v

-- by a table, where the carts above a were latest at the counters below w
abbrev pub LatestOf : Rows → ℕ → ℕ → List ℕ → Type 0
LatestOf r a w last = LatestAbove r.block.now r.carts r.head a w last
