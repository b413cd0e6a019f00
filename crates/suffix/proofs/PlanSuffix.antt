-- A plan that is moved on goes on where the plan is after s moves, so that its run in step is the suffix of the plan's.
use Rattle.std.specs.Prelude.{ℕ, ◌≡◌, refl, List, take}
use Rattle.std.proofs.Common.{sym, ap, subst, ◌∙◌}
use Rattle.endian.specs.Little.{Bytes}
use Rattle.record.specs.All.{all_map}
use Rattle.floor.specs.declared.Floor.{Floor}
use Rattle.plan.specs.Plan.{PlanNumbers}
use Rattle.plan.specs.After.{ReadAs}
use Rattle.plan.specs.RoundTrip.{valid}
use Rattle.row.specs.Moves.{bit}
use Rattle.moves.specs.Demands.{read_once}
use Rattle.edit.specs.Moved.{moved}
use Rattle.edit.specs.Promises.{Later}
use Rattle.edit.proofs.MovedReads.{place_moved}
use Rattle.edit.proofs.MovedWritten.{result_read}
use Rattle.cltl.specs.Suffix.{Suffix}
use Rattle.cltl.proofs.Promises.{suffix_start}
use Rattle.plancheck.specs.Check.{marks_at, plan_rows}
use Rattle.plancheck.proofs.Stages.{proper}
use Rattle.suffix.specs.Promises.{TrueLater}

module _ (floor plan : List ℕ) (f : Floor) (p : PlanNumbers) (files : ReadAs floor plan f p) (s : ℕ) where
  rows_suffix : Suffix (plan_rows floor f p) (plan_rows floor f (moved s p)) s
  rows_suffix = record {
    carts = refl;
    member = λ g i l. refl;
    bears = λ i k v l. ap (λ (q : ℕ). bit k (marks_at floor q)) (place_moved f p (valid f plan p files.plan_read_lem) s i v l);
  }

  true_later : Bytes floor → TrueLater (plan_rows floor f p) (plan_rows floor f (moved s p)) s
  true_later b =
      let clause = suffix_start (plan_rows floor f p) (plan_rows floor f (moved s p)) s rows_suffix (proper floor plan b f p files) in
      record { clause = clause; sheet = λ cs. (all_map (λ c. (clause c).0) cs, all_map (λ c. (clause c).1) cs) }

-- so it is of the result of moving on, which reads as the moved plan
pub true_of_result : (floor plan : List ℕ) → Bytes floor → (s k : ℕ) (after : List ℕ) → Later floor plan s k after → (f : Floor) (p q : PlanNumbers)
    → ReadAs floor plan f p → ReadAs floor (take k after) f q → TrueLater (plan_rows floor f p) (plan_rows floor f q) s
true_of_result floor plan b s k after x f p q files again =
    let result = result_read floor plan s k after x in
    let e : q ≡ moved s p =
    (read_once floor (take k after) f x.floor_is q (moved s x.numbers) again result).1
    ∙ ap (moved s) (read_once floor plan x.floor_is f x.numbers p x.read files).1 in
    subst (λ (r : PlanNumbers). TrueLater (plan_rows floor f p) (plan_rows floor f r) s) (sym e) (true_later floor plan f p files s b)
