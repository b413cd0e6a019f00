-- Which verdict accepts.
use Rattle.std.specs.Prelude.{ℕ, ◌≡◌, refl, Bool, true, false, cond, Result, Ok, Err}
use Rattle.std.proofs.Common.{arith, sym, ap, ◌∙◌}
use Rattle.refusal.specs.Stages.{is_accepted, and_then}
use Rattle.refusal.specs.Results.{told, checked}
use Rattle.refusal.specs.declared.Refused.{Refused}
use Rattle.refusal.specs.declared.Refused.TheVariants.{Floor as RefusedFloor, Plan as RefusedPlan, Rules as RefusedRules}
use Rattle.refusal.specs.declared.Verdict.{Verdict}
use Rattle.refusal.specs.declared.Verdict.TheVariants.{Accepted, Written, Floor, Plan, Rules}

pub accepted_is : (v : Verdict) → is_accepted v ≡ true → v ≡ Accepted
accepted_is Accepted e = refl
accepted_is (Written n) e = let z : ◌≡◌ {A = ℕ} 0 1 = cc in absurd (omega arith)
accepted_is (Floor r) e = let z : ◌≡◌ {A = ℕ} 0 1 = cc in absurd (omega arith)
accepted_is (Plan r) e = let z : ◌≡◌ {A = ℕ} 0 1 = cc in absurd (omega arith)
accepted_is (Rules r) e = let z : ◌≡◌ {A = ℕ} 0 1 = cc in absurd (omega arith)

-- stages accept if each does
pub both_accepted : (v next : Verdict) → and_then v next ≡ Accepted → (v ≡ Accepted) × (next ≡ Accepted)
both_accepted v next e = go (is_accepted v) refl e
  where
    go : (b : Bool) → is_accepted v ≡ b → cond b next v ≡ Accepted → (v ≡ Accepted) × (next ≡ Accepted)
    go true q e = (accepted_is v q, e)
    go false q e = let z : true ≡ false = sym (ap is_accepted e) ∙ q in let y : ◌≡◌ {A = ℕ} 0 1 = cc in absurd (omega arith)

-- a stage that does not accept is the last
pub stops : (v next : Verdict) → is_accepted v ≡ false → and_then v next ≡ v
stops v next e = ap (λ (b : Bool). cond b next v) e

pub goes_on : (v next : Verdict) → is_accepted v ≡ true → and_then v next ≡ next
goes_on v next e = ap (λ (b : Bool). cond b next v) e

-- what is checked and accepted gave something
pub accepted_gives : {A : Type 0} (r : Result A Refused) → checked r ≡ Accepted → (a : A) × (r ≡ Ok a)
accepted_gives (Ok a) e = (a, refl)
accepted_gives (Err (RefusedFloor r)) e = let z : ◌≡◌ {A = ℕ} 0 1 = cc in absurd (omega arith)
accepted_gives (Err (RefusedPlan r)) e = let z : ◌≡◌ {A = ℕ} 0 1 = cc in absurd (omega arith)
accepted_gives (Err (RefusedRules r)) e = let z : ◌≡◌ {A = ℕ} 0 1 = cc in absurd (omega arith)

-- a refusal does not accept, and is no result that was written
pub refused_stops : (e : Refused) → is_accepted (told e) ≡ false
refused_stops (RefusedFloor r) = refl
refused_stops (RefusedPlan r) = refl
refused_stops (RefusedRules r) = refl
