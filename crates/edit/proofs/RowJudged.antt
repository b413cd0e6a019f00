-- A replacement judged before anything is written.
use Prim.Native.Nat.{ℕ}
use native.Mathlib.Omega.{arith}
use mathlib.Core.Path.{◌≡◌, refl, sym, ap, ◌∙◌}
use mathlib.Core.Bool.{Bool, true, false, cond}
use mathlib.Core.List.{List}
use lib.ListN.{length}
use Rattle.std.specs.Prelude.{Result, Ok, Err}
use Rattle.refusal.specs.Results.{told}
use Rattle.refusal.specs.Stages.{is_accepted}
use Rattle.refusal.specs.Accepting.{refused_stops}
use Rattle.refusal.specs.Outcome.{Outcome, unchanged}
use Rattle.refusal.specs.declared.Refused.{Refused}
use Rattle.refusal.specs.declared.Verdict.{Verdict}
use Rattle.refusal.specs.declared.Verdict.TheVariants.{Accepted}
use Rattle.record.specs.Buffer.{stored}
use Rattle.floor.specs.declared.Floor.{Floor}
use Rattle.plan.specs.Plan.{PlanNumbers, held_numbers, read_both}
use Rattle.plan.specs.Numbers.{row_at}
use Rattle.plan.specs.Promises.{AcceptedPlan}
use Rattle.plan.specs.Read.{after_accepted, after_refused, held_head, held_numbers_lem}
use Rattle.plan.specs.declared.Head.{Head}
use Rattle.plan.specs.declared.PlanRead.{PlanRead}
use Rattle.edit.specs.Replaced.{replace_verdict, replaced_in, replace_row}
use Rattle.edit.proofs.ReplacedReads.{replaces, stored_inside}
use Rattle.edit.specs.Judgement.{ReplacementJudged}

module _ (floor plan : List ℕ) (c : ℕ) (row : List ℕ) where
  step : Floor → PlanNumbers → Outcome
  step f p = replaced_in plan p.head.steps c row (replace_verdict floor f p c row)

  -- nothing is written
  stays : (e : Refused) → replace_row floor plan c row ≡ unchanged (told e) plan → ReplacementJudged floor plan c row (Err e)
  stays e o = record {
    answer = ap (λ (x : Outcome). x.answer) (sym o);
    kept = λ x z. ap (λ (x : Outcome). x.out) o;
    changed = λ at z. let y : ◌≡◌ {A = ℕ} 0 1 = cc in absurd (omega arith);
    inside = λ at z. let y : ◌≡◌ {A = ℕ} 0 1 = cc in absurd (omega arith);
  }

  -- reading refuses
  pub refused : (e : Refused) → Err e ≡ read_both floor plan → ReplacementJudged floor plan c row (Err e)
  unfolding replace_row step
  refused e q = stays e (after_refused (λ e. unchanged (told e) plan) step floor plan e q)

  module _ (r : PlanRead) (w : AcceptedPlan floor plan r) where
    abbrev n : PlanNumbers
    n = w.numbers

    abbrev judging : Verdict
    judging = replace_verdict floor r.floor (held_numbers r.floor.carts r.plan.head r.plan.block) c row

    module _ (v : Verdict) (e : v ≡ judging) where
      same : v ≡ replace_verdict floor r.floor n c row
      same = e ∙ ap (λ (p : PlanNumbers). replace_verdict floor r.floor p c row) (held_numbers_lem floor plan r w)

      outcome : replace_row floor plan c row ≡ replaced_in plan n.head.steps c row v
      unfolding replace_row step
      outcome = after_accepted (λ e. unchanged (told e) plan) step floor plan r w ∙ ap (replaced_in plan n.head.steps c row) (sym same)

      by : (b : Bool) → is_accepted v ≡ b
          → replace_row floor plan c row ≡ record { answer = v; out = cond b (stored plan (row_at n.head.steps c) row) plan }
      by b q = outcome ∙ ap (λ (t : Bool). record { answer = v; out = cond t (stored plan (row_at n.head.steps c) row) plan }) q

    -- the moves or the row are refused
    pub refused_after : (e : Refused) → told e ≡ judging → ReplacementJudged floor plan c row (Err e)
    refused_after e q = stays e (by (told e) q false (refused_stops e))

    -- both are accepted
    pub judged : Accepted ≡ judging → (at : ℕ) → at ≡ row_at r.plan.head.steps c → ReplacementJudged floor plan c row (Ok at)
    judged e at is = record {
      answer = ap (λ (x : Outcome). x.answer) (sym done);
      kept = λ x z. let y : ◌≡◌ {A = ℕ} 0 1 = cc in absurd (omega arith);
      changed = λ i z. ap (λ (x : Outcome). x.out) done ∙ ap (λ (k : ℕ). stored plan k row) (sym here ∙ index i z);
      inside = λ i z.
          let s = replaces floor r.floor n c row (sym (same Accepted e)) in
          let k = stored_inside floor r.floor n c row w.valid s in
          omega (arith, here, index i z, ap length w.writes_back);
    }
      where
        done : replace_row floor plan c row ≡ record { answer = Accepted; out = stored plan (row_at n.head.steps c) row }
        done = by Accepted e true refl

        here : at ≡ row_at n.head.steps c
        here = is ∙ ap (λ (h : Head). row_at h.steps c) (held_head floor plan r w)

        index : (i : ℕ) → ◌≡◌ {A = Result ℕ Refused} (Ok at) (Ok i) → at ≡ i
        index i z = cc
