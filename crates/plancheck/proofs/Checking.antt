-- From the reading of a plan to the promise of its check.
use Rattle.std.specs.Prelude.{ℕ, ◌<◌, ◌≡◌, List, Err}
use Rattle.std.proofs.Common.{sym, ap, subst, ◌∙◌}
use Rattle.endian.specs.Little.{Bytes}
use Rattle.refusal.specs.Results.{told}
use Rattle.refusal.specs.declared.Refused.{Refused}
use Rattle.refusal.specs.declared.Verdict.{Verdict}
use Rattle.floor.specs.Located.{accepts}
use Rattle.plan.specs.Plan.{PlanNumbers, place_on_step, read_both}
use Rattle.plan.specs.Read.{held_numbers_lem, held_range, after_accepted, after_refused}
use Rattle.plan.specs.Promises.{AcceptedPlan}
use Rattle.plan.specs.declared.PlanRead.{PlanRead}
use Rattle.plancheck.specs.Check.{stages, checked}
use Rattle.plancheck.specs.Readable.{held, Readable}
use Rattle.plancheck.specs.Promises.{PlanChecked}
use Rattle.plancheck.proofs.Claims.{claims}

module _ (floor plan : List ℕ) (fb : Bytes floor) where
  -- what was read can be judged
  pub readable : (r : PlanRead) → AcceptedPlan floor plan r → Readable floor r
  readable r w =
      let on_floor : (n : PlanNumbers) → (c s : ℕ) → Type 0 = λ n c s. s < n.head.steps → place_on_step n c s < r.floor.places in record {
        accepted_floor = accepts floor r.floor fb w.floor_read;
        head_in_range = held_range floor plan r w;
        on_floor = λ c s p q. subst (λ (n : PlanNumbers). on_floor n c s) (sym (held_numbers_lem floor plan r w)) (w.valid.places c s p) q;
      }

  module _ (pb : Bytes plan) (sheet : List ℕ) where
    -- judged in stages
    pub promised : (r : PlanRead) → AcceptedPlan floor plan r → (v : Verdict) → v ≡ stages floor sheet r.floor (held r) → PlanChecked floor plan sheet v
    unfolding checked
    promised r w v e =
        claims floor plan sheet fb pb v
        (e ∙ ap (stages floor sheet r.floor) (held_numbers_lem floor plan r w) ∙ sym (after_accepted told (stages floor sheet) floor plan r w))

    -- refused as reading is
    pub not_read : (e : Refused) → Err e ≡ read_both floor plan → PlanChecked floor plan sheet (told e)
    unfolding checked
    not_read e q = claims floor plan sheet fb pb (told e) (sym (after_refused told (stages floor sheet) floor plan e q))
