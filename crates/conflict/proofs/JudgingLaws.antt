-- The search's answer has all that is claimed of it.
use Rattle.std.specs.Prelude.{ℕ, ◌<◌, ◌≡◌, ◌⊎◌}
use Rattle.std.proofs.Common.{sym, ap₂, subst, ◌∙◌, inl, inr}
use Rattle.refusal.specs.declared.Verdict.{Verdict}
use Rattle.refusal.specs.declared.Verdict.TheVariants.{Accepted}
use Rattle.conflict.specs.Meaning.{Routes, Conflict, Free, Earliest}
use Rattle.conflict.specs.Search.{narrow_verdict}
use Rattle.conflict.proofs.Outcomes.{refusal20, Outcome, unique, not_both, not_accepted, numbers_of_lem}
use Rattle.conflict.proofs.Found.{found}
use Rattle.conflict.specs.Promises.{Judged}

module _ (P : Routes) (d : ℕ) (v : Verdict) where
  accepted_free : Outcome P d v → v ≡ Accepted → Free P d
  accepted_free (inl w) e = w.0
  accepted_free (inr w) e = absurd (not_accepted w.cart w.step (sym e ∙ w.is))

  free_accepted : Outcome P d v → Free P d → v ≡ Accepted
  free_accepted (inl w) f = w.1
  free_accepted (inr w) f = absurd (not_both P d w.cart w.step f w.earliest)

  told_earliest : Outcome P d v → (a s : ℕ) → v ≡ refusal20 a s → Earliest P d a s
  told_earliest (inl w) a s e = absurd (not_accepted a s (sym w.1 ∙ e))
  told_earliest (inr w) a s e =
      let n = numbers_of_lem w.cart w.step a s (sym w.is ∙ e) in
      subst (λ (i : ℕ). Earliest P d i s) n.0 (subst (Earliest P d w.cart) n.1 w.earliest)

  earliest_told : Outcome P d v → (a s : ℕ) → Earliest P d a s → v ≡ refusal20 a s
  earliest_told (inl w) a s e = absurd (not_both P d a s w.0 e)
  earliest_told (inr w) a s e =
      let u = unique P d w.cart w.step a s w.earliest e in
      w.is ∙ ap₂ refusal20 u.0 u.1

  forms : Outcome P d v → (v ≡ Accepted) ⊎ ((a : ℕ) × (s : ℕ) × (a < P.carts) × (s < P.h) × (v ≡ refusal20 a s))
  forms (inl w) = inl w.1
  forms (inr w) = inr (w.cart, w.step, w.there, w.below, w.is)

  some_conflict : Outcome P d v → (a : ℕ) × (s : ℕ) × (v ≡ refusal20 a s) → (a : ℕ) × (k : ℕ) × Conflict P d a k
  some_conflict o (a, s, e) = let w = told_earliest o a s e in (a, w.counter, w.conflict)

  conflict_told : Outcome P d v → (a : ℕ) × (k : ℕ) × Conflict P d a k → (a : ℕ) × (s : ℕ) × (v ≡ refusal20 a s)
  conflict_told (inl w) (a, k, c) =
      absurd (w.0 c.run c.moment a c.other c.cart_there c.other_there c.two c.conflicting)
  conflict_told (inr w) x = (w.cart, w.step, w.is)

  pub judged : P.l < P.h → v ≡ narrow_verdict P d → Judged P d v
  judged lap e =
      let o : Outcome P d v = subst (Outcome P d) (sym e) (found P lap d) in
      record {
        answer = e;
        free = (accepted_free o, free_accepted o);
        told = λ a s. (told_earliest o a s, earliest_told o a s);
        exists = (some_conflict o, conflict_told o);
        forms = forms o;
      }
