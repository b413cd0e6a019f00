-- The numbers of a readable plan for a floor: the table of 'Files' in document 01.
use Rattle.std.specs.Prelude.{ℕ, ◌≤◌, ◌<◌, ◌≡◌, List, [], length, get_or}
use Rattle.floor.specs.declared.Floor.{Floor}
use Rattle.plan.specs.Plan.{PlanNumbers}
use Rattle.plan.specs.declared.Head.{Head}

-- "steps 1 to 64, first step of the lap (below h), drift 0 to 16"
pub record HeadInRange (h : Head) : Type 0 where
  pub some : 0 < h.steps
  pub steps : h.steps ≤ 64
  pub stem : h.stem < h.steps
  pub drift : h.drift ≤ 16

-- "h bytes, one place a step": a row by itself has h steps, and its places are on the floor
pub record RowFits (steps places : ℕ) (row : List ℕ) : Type 0 where
  pub size : length row ≡ steps
  pub there : (s : ℕ) → s < length row → get_or row s 0 < places

pub record ValidPlan (n : PlanNumbers) (f : Floor) : Type 0 where
  pub head : HeadInRange n.head
  -- rows: "one a cart", "h bytes, one place a step"
  pub carts : length n.rows ≡ f.carts
  pub steps : (c : ℕ) → c < f.carts → length (get_or n.rows c []) ≡ n.head.steps
  pub places : (c s : ℕ) → c < f.carts → s < n.head.steps → get_or (get_or n.rows c []) s 0 < f.places
