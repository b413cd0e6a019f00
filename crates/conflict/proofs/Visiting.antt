-- A cart that stands on no narrow place meets no other.
use Prim.Native.Nat.{ℕ, ◌<◌}
use native.Mathlib.Omega.{arith}
use mathlib.Core.Logic.{⊎_elim}
use mathlib.Core.List.{List}
use lib.Dec.{T}
use Rattle.row.specs.Lasso.{step_of}
use Rattle.row.specs.Round.{step_below}
use Rattle.plan.specs.declared.Head.{Head}
use Rattle.conflict.specs.Met.{meets_cases}
use Rattle.conflict.specs.Table.{flag, block_place, table_routes}
use Rattle.conflict.specs.Columns.{Some}
use Rattle.conflict.specs.Above.{Above}

pub never_there : (bays block : List ℕ) (carts : ℕ) (h : Head) (a : ℕ) → h.stem < h.steps
    → (Some 0 h.steps (λ s. T (flag bays (block_place block a s))) → ⊥) → (v : ℕ) → Above (table_routes bays carts h block) h.drift a v → ⊥
never_there bays block carts h a lap none v m =
    let P = table_routes bays carts h block in
    let s = step_of h.steps h.stem v in
    let there : T (flag bays (block_place block a s)) → ⊥ =
    λ t. none (record { cart = s; low = omega arith; high = step_below h.steps h.stem lap v; has = t }) in
    ⊎_elim (λ x. there x.narrow) (λ x. there x.1.narrow) (meets_cases P a v m.other m.counter m.meeting.meeting)
