-- The definition keeps what picking a clause's part promises.
use Rattle.std.specs.Prelude.{ℕ, ◌+◌, ◌≤◌, ◌≡◌, refl, Bool, true, false, List, length}
use Rattle.std.proofs.Common.{arith, sym, ◌∙◌}
use Rattle.std.proofs.Math.Path.{ap}
use Rattle.std.proofs.Math.Bool.{cond}
use Rattle.refusal.specs.Codes.{code_in}
use Rattle.clause.specs.Clause.{picks, empty_span, clause_in, span}
use Rattle.clause.specs.Meaning.{line_ends}
use Rattle.clause.specs.Promises.{Picked}
use Rattle.clause.specs.Lines.{clause_found, clause_lacking, clause_inside}
use Rattle.clause.specs.Only.{clause_only}
use Rattle.clause.specs.declared.Span.{Span}

module _ (sheet verdict : List ℕ) where
  -- the span by whether the verdict picks a clause
  span_by : (t : Bool) → picks verdict ≡ t → span sheet verdict ≡ cond t (clause_in (code_in verdict).first sheet) empty_span
  unfolding span
  span_by t e = ap (λ (b : Bool). cond b (clause_in (code_in verdict).first sheet) empty_span) e

  pub span_picked : picks verdict ≡ true → span sheet verdict ≡ clause_in (code_in verdict).first sheet
  span_picked = span_by true

  pub span_other : picks verdict ≡ false → span sheet verdict ≡ empty_span
  span_other = span_by false

  span_inside : (span sheet verdict).offset + (span sheet verdict).length ≤ length sheet
  span_inside = go (picks verdict) refl
    where
      go : (t : Bool) → picks verdict ≡ t → (span sheet verdict).offset + (span sheet verdict).length ≤ length sheet
      go true e = rw (span_picked e) (clause_inside (code_in verdict).first sheet)
      go false e = rw (span_other e) (omega arith)

  span_lacking : line_ends sheet ≤ (code_in verdict).first → span sheet verdict ≡ empty_span
  span_lacking h = go (picks verdict) refl
    where
      go : (t : Bool) → picks verdict ≡ t → span sheet verdict ≡ empty_span
      go true e = span_picked e ∙ clause_lacking (code_in verdict).first sheet h
      go false e = span_other e

  pub picked : Picked sheet verdict (span sheet verdict)
  picked = record {
    answer = refl;
    inside = span_inside;
    clause = λ e h. rw (span_picked e) (clause_found (code_in verdict).first sheet h);
    only = λ e q c. clause_only (code_in verdict).first sheet q c ∙ sym (span_picked e);
    other = span_other;
    lacking = span_lacking;
  }

-- a place that is the definition's
pub picked_at : (sheet verdict : List ℕ) (p : Span) → p ≡ span sheet verdict → Picked sheet verdict p
picked_at sheet verdict p e = rw e (picked sheet verdict)
