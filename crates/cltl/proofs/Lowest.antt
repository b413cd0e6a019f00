-- The step that a G which is not kept gives: it is below h, its body fails there and at no step before it.
use Rattle.std.specs.Prelude.{ℕ, ◌+◌, ◌≤◌, ◌<◌, ◌≡◌, Bool, false, not, T}
use Rattle.std.proofs.Common.{arith, sym, subst, ⊎_elim}
use Rattle.grammar.specs.Grammar.{gl, Clause}
use Rattle.row.specs.First.{first_failing}
use Rattle.row.specs.Firsts.{FirstAnswer, searched}
use Rattle.row.specs.Lasso.{step_of}
use Rattle.row.specs.Round.{step_low, step_below}
use Rattle.cltl.specs.Meaning.{Rows, Proper}
use Rattle.cltl.specs.Rules.{fix, judge, rules}
use Rattle.cltl.specs.Step.{lowest, failing}
use Rattle.cltl.proofs.Lap.{forever}

-- of n steps from s on: all pass, or the lowest that does not
pub record Found (f : ℕ → Bool) (s top k : ℕ) : Type 0 where
  pub from : s ≤ k
  pub below : k < top
  pub fails : T (not (f k))
  pub before : (j : ℕ) → s ≤ j → j < k → T (f j)

pub found : (f : ℕ → Bool) (n s : ℕ) → (((j : ℕ) → s ≤ j → j < s + n → T (f j)) → ⊥) → Found f s (s + n) (lowest f n s)
unfolding lowest
found f n s missing = ⊎_elim (λ w. absurd (missing (λ j p q. subst T (sym (w.0 j p q)) tt))) one (searched f (λ k. k) (λ end. end) n s)
  where
    one : FirstAnswer f (λ k. k) (λ end. end) s (s + n) (first_failing f (λ k. k) (λ end. end) n s)
        → Found f s (s + n) (first_failing f (λ k. k) (λ end. end) n s)
    one w =
        let k = w.first in
        subst (Found f s (s + n)) (sym w.is) (record {
          from = k.from;
          below = k.below;
          fails = subst (λ (b : Bool). T (not b)) (sym k.fails) tt;
          before = λ j p q. subst T (sym (k.before j p q)) tt;
        })

pub globally_fails : (P : Rows) (d : ℕ) (a : Clause) → Proper P → (T (rules P d (gl a) 0) → ⊥) → Found (λ s. rules P d a s) 0 P.h (failing P d (gl a))
unfolding failing rules judge
globally_fails P d a proper missing =
    let e : 0 + P.h ≡ P.h = omega arith in
    subst (λ (n : ℕ). Found (λ s. rules P d a s) 0 n (failing P d (gl a))) e
    (found (λ s. rules P d a s) P.h 0
    (λ all.
    missing
    (subst (λ (s : ℕ). T (fix P.h P.l false (λ s. false) (λ s. rules P d a s) P.h s)) (step_low P.h P.l 0 (omega (arith, proper.lap)))
    (forever P.h P.l proper.lap (λ s. false) (λ s. rules P d a s) P.h 0
    (λ u q. all (step_of P.h P.l u) (omega arith) (let x = step_below P.h P.l proper.lap u in omega arith))))))
