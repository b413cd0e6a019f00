-- What moving on writes, and what it promises of a second move.
use Rattle.std.specs.Prelude.{ℕ, ◌+◌, ◌≤◌, ◌≡◌, List, take}
use Rattle.std.proofs.Common.{arith, sym, ◌∙◌}
use Rattle.std.proofs.Math.Path.{ap, subst}
use Rattle.std.proofs.Math.ListN.{length}
use Rattle.endian.specs.Little.{Bytes}
use Rattle.refusal.specs.Results.{told}
use Rattle.refusal.specs.Outcome.{Outcome, Gives, unchanged, written}
use Rattle.refusal.specs.Held.{about_floor, about_plan, written_front, written-length, written_if}
use Rattle.refusal.specs.declared.Verdict.{Verdict}
use Rattle.refusal.specs.declared.Verdict.TheVariants.{Written, Plan as AboutPlan}
use Rattle.floor.specs.declared.Floor.{Floor}
use Rattle.plan.specs.Plan.{PlanNumbers}
use Rattle.plan.specs.Numbers.{plan_file}
use Rattle.plan.specs.After.{ReadAs}
use Rattle.plan.specs.RoundTrip.{valid, bytes_back}
use Rattle.plan.specs.Read.{ReadingCases, floor_refused, plan_refused, both_read, reading_cases, read_on_lem}
use Rattle.edit.specs.Moved.{moved, move_on}
use Rattle.edit.specs.Promises.{Later, MovesAddUp}
use Rattle.edit.proofs.MovedReads.{promise}
use Rattle.edit.proofs.AddedUp.{moved_added, moved_by_0}

-- with floor and plan read the outcome is that of putting the moved plan
pub read_moves : (floor plan : List ℕ) (s : ℕ) (out : List ℕ) (f : Floor) (p : PlanNumbers) → ReadAs floor plan f p
    → move_on floor plan s out ≡ written AboutPlan (plan_file (moved s p)) out
unfolding move_on
read_moves floor plan s out f p r = read_on_lem (λ e. unchanged (told e) out) (λ f p. written AboutPlan (plan_file (moved s p)) out) floor plan f p r

module _ (floor plan : List ℕ) (s : ℕ) (before : List ℕ) (v : Verdict) (after : List ℕ) (g : Gives (move_on floor plan s before) v after)
    (k : ℕ) (e : v ≡ Written k) where
  -- what is written is the file of a plan that was read, moved on
  written_file : (f : Floor) × (p : PlanNumbers) × ReadAs floor plan f p × (k ≡ length (plan_file (moved s p))) × (take k after ≡ plan_file (moved s p))
  unfolding move_on
  written_file = go (reading_cases (λ e. unchanged (told e) before) (λ f p. written AboutPlan (plan_file (moved s p)) before) floor plan)
    where
      go : ReadingCases (λ e. unchanged (told e) before) (λ f p. written AboutPlan (plan_file (moved s p)) before) floor plan
          → (f : Floor) × (p : PlanNumbers) × ReadAs floor plan f p × (k ≡ length (plan_file (moved s p))) × (take k after ≡ plan_file (moved s p))
      go (floor_refused x q) = absurd (about_floor x k (sym (g.answer ∙ ap (λ (o : Outcome). o.answer) q) ∙ e))
      go (plan_refused x q) = absurd (about_plan x k (sym (g.answer ∙ ap (λ (o : Outcome). o.answer) q) ∙ e))
      go (both_read f p r q) =
          let put = subst (λ (o : Outcome). Gives o v after) q g in
          let file = plan_file (moved s p) in
          (f, p, r, written-length AboutPlan about_plan file before v after k put e, written_front AboutPlan about_plan file before v after k put e)

  -- and what is put into any other buffer
  pub any_buffer : (k ≡ length (take k after)) × ((out : List ℕ) → move_on floor plan s out ≡ written AboutPlan (take k after) out)
  any_buffer =
      let x = written_file in
      let front = sym x.4 in
      (x.3 ∙ ap length front, λ out. read_moves floor plan s out x.0 x.1 x.2 ∙ ap (λ (file : List ℕ). written AboutPlan file out) front)

-- the result reads as the moved plan
pub result_read : (floor plan : List ℕ) (s k : ℕ) (after : List ℕ) (x : Later floor plan s k after)
    → ReadAs floor (take k after) x.floor_is (moved s x.numbers)
result_read floor plan s k after x = record { floor_read = x.read.floor_read; plan_read_lem = x.reads }

-- two moves that have one outcome in every buffer, each with a buffer of its own, the second of them written
module _ (floor plan plan' : List ℕ) (s s' : ℕ) (same : (out : List ℕ) → move_on floor plan s out ≡ move_on floor plan' s' out)
    (before : List ℕ) (v : Verdict) (after : List ℕ) (g : Gives (move_on floor plan s before) v after)
    (before' : List ℕ) (v' : Verdict) (after' : List ℕ) (g' : Gives (move_on floor plan' s' before') v' after') (n : ℕ) (e' : v' ≡ Written n) where
  size : n ≡ length (take n after')
  size = (any_buffer floor plan' s' before' v' after' g' n e').0

  puts : Gives (written AboutPlan (take n after') before) v after
  puts = subst (λ (o : Outcome). Gives o v after) (same before ∙ (any_buffer floor plan' s' before' v' after' g' n e').1 before) g

  -- both written: the same bytes
  pub one_result : (k : ℕ) → v ≡ Written k → (k ≡ n) × (take k after ≡ take n after')
  one_result k e = (
    written-length AboutPlan about_plan (take n after') before v after k puts e ∙ sym size,
    written_front AboutPlan about_plan (take n after') before v after k puts e,
  )

  -- and the first is, where its buffer holds them
  pub held_too : n ≤ length before → v ≡ Written n
  held_too enough = written_if AboutPlan (take n after') before v after puts (omega (arith, size)) ∙ ap Written (sym size)

module _ (floor plan : List ℕ) (floor-bytes : Bytes floor) (plan-bytes : Bytes plan) (s : ℕ) (before : List ℕ) (v : Verdict) (after : List ℕ)
    (g : Gives (move_on floor plan s before) v after) where
  writes : (f : Floor) (n : PlanNumbers) → ReadAs floor plan f n → Gives (written AboutPlan (plan_file (moved s n)) before) v after
  writes f n w = subst (λ (o : Outcome). Gives o v after) (read_moves floor plan s before f n w) g

  by_0 : s ≡ 0 → (f : Floor) (p : PlanNumbers) → ReadAs floor plan f p → Gives (written AboutPlan plan before) v after
  by_0 z f p w =
      let back : plan_file (moved s p) ≡ plan =
      ap (λ (i : ℕ). plan_file (moved i p)) z ∙ ap plan_file (moved_by_0 f p (valid f plan p w.plan_read_lem)) ∙ bytes_back f plan p plan-bytes w.plan_read_lem in
      subst (λ (file : List ℕ). Gives (written AboutPlan file before) v after) back (writes f p w)

  adds_up : (k : ℕ) → v ≡ Written k → (u : ℕ) (out : List ℕ) → move_on floor (take k after) u out ≡ move_on floor plan (s + u) out
  adds_up k e u out =
      let x = (promise floor plan floor-bytes s before v after g).later k e in
      let f = x.floor_is in
      let p = x.numbers in
      read_moves floor (take k after) u out f (moved s p) (result_read floor plan s k after x)
      ∙ ap (λ (q : PlanNumbers). written AboutPlan (plan_file q) out) (moved_added f p (valid f plan p x.read.plan_read_lem) s u)
      ∙ sym (read_moves floor plan (s + u) out f p x.read)

  pub added_up : MovesAddUp floor plan s before v after
  added_up = record { by_0 = by_0; adds_up = adds_up }
