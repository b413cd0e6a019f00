-- The routes of a plan on its floor, and the verdict on them.
use Rattle.std.specs.Prelude.{ℕ, Bool, false, ◌||◌, List, [], ◌∷◌, eqb}
use Rattle.refusal.specs.declared.Verdict.{Verdict}
use Rattle.floor.specs.Numbers.{numbers_of}
use Rattle.floor.specs.declared.Floor.{Floor}
use Rattle.plan.specs.Plan.{PlanNumbers, place_on_step}
use Rattle.conflict.specs.Meaning.{Routes, Free}
use Rattle.conflict.specs.Search.{narrow_verdict}

-- p is one of these
unfoldable pub named : List ℕ → ℕ → Bool
named [] p = false
named (n ∷ ns) p = eqb n p || named ns p

-- document 02, 2): "Floor record kind 6 .. has a one-byte body naming such a place"
abbrev pub is_narrow : List ℕ → ℕ → Bool
is_narrow floor p = named (numbers_of floor).narrow p

-- "Rows .. are those of the files"
abbrev pub plan_routes : List ℕ → Floor → PlanNumbers → Routes
plan_routes floor f p = record { carts = f.carts; h = p.head.steps; l = p.head.stem; place = place_on_step p; narrow = is_narrow floor }

abbrev pub conflict_verdict : List ℕ → Floor → PlanNumbers → Verdict
conflict_verdict floor f p = narrow_verdict (plan_routes floor f p) p.head.drift

-- no run within the plan's drift has a conflict
abbrev pub ConflictFree : List ℕ → Floor → PlanNumbers → Type 0
ConflictFree floor f p = Free (plan_routes floor f p) p.head.drift
