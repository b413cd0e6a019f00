-- What is claimed of a verdict on narrow places, for any routes with a lap and any drift.
use Rattle.std.specs.Prelude.{ℕ, ◌<◌, ◌≡◌, ◌⊎◌, ◌↔◌}
use Rattle.refusal.specs.Codes.{refused}
use Rattle.refusal.specs.declared.Verdict.{Verdict}
use Rattle.refusal.specs.declared.Verdict.TheVariants.{Accepted, Plan as AboutPlan}
use Rattle.conflict.specs.Meaning.{Routes, Conflict, Free, Earliest}
use Rattle.conflict.specs.Search.{narrow_verdict}

pub record Judged (P : Routes) (d : ℕ) (v : Verdict) : Type 0 where
  -- the answer, for all routes with a lap
  pub answer : v ≡ narrow_verdict P d
  -- "a plan is refused on this ground exactly if such a run exists"
  pub free : (v ≡ Accepted) ↔ Free P d
  -- "20 (lowest cart in any conflict, the step of its earliest counter in one, for an exchange the counter before the tick)"
  pub told : (a s : ℕ) → (v ≡ AboutPlan (refused 20 a s)) ↔ Earliest P d a s
  -- refused at all: exactly if some run within the drift has a conflict
  pub exists : ((a : ℕ) × (s : ℕ) × (v ≡ AboutPlan (refused 20 a s))) ↔ ((a : ℕ) × (k : ℕ) × Conflict P d a k)
  -- there is no third answer
  pub forms : (v ≡ Accepted) ⊎ ((a : ℕ) × (s : ℕ) × (a < P.carts) × (s < P.h) × (v ≡ AboutPlan (refused 20 a s)))
