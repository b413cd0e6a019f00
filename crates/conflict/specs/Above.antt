-- A cart's meetings with those above it.
use Rattle.std.specs.Prelude.{ℕ, ◌+◌, ◌<◌, ◌≡◌, Option, Some, None}
use Rattle.row.specs.Lasso.{step_of}
use Rattle.refusal.specs.Codes.{refused}
use Rattle.refusal.specs.declared.Verdict.{Verdict}
use Rattle.refusal.specs.declared.Verdict.TheVariants.{Accepted, Plan as AboutPlan}
use Rattle.conflict.specs.Meaning.{Routes}
use Rattle.conflict.specs.Met.{Met}

module _ (P : Routes) (d a : ℕ) where
  pub record Above (v : ℕ) : Type 0 where
    pub other : ℕ
    pub counter : ℕ
    pub higher : a < other
    pub meeting : Met P d a v other counter

  -- the first of them, by the step of its counter
  pub record FirstAbove (s : ℕ) : Type 0 where
    pub counter : ℕ
    pub step : s ≡ step_of P.h P.l counter
    pub above : Above counter
    pub before : (u : ℕ) → u < counter → Above u → ⊥

  abbrev pub FirstMet : Option ℕ → Type 0
  FirstMet None = (v : ℕ) → v < P.h + d → Above v → ⊥
  FirstMet (Some s) = FirstAbove s

-- as a verdict
abbrev pub verdict_of : ℕ → Option ℕ → Verdict
verdict_of a None = Accepted
verdict_of a (Some s) = AboutPlan (refused 20 a s)
