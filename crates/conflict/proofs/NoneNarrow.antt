-- Where nothing is narrow there is no conflict.
use Rattle.std.specs.Prelude.{ℕ, ◌<◌, ◌≡◌, refl, false, List, [], ◌∷◌, T, length}
use Rattle.std.proofs.Common.{arith, subst, inl, inr}
use Rattle.refusal.specs.declared.Verdict.TheVariants.{Accepted}
use Rattle.conflict.specs.Meaning.{Routes, Conflicting, Free}
use Rattle.conflict.specs.Search.{narrow_verdict}
use Rattle.conflict.specs.OfPlan.{named}
use Rattle.conflict.proofs.JudgingLaws.{judged}

module _ (P : Routes) (d : ℕ) (none : (p : ℕ) → P.narrow p ≡ false) where
  free : Free P d
  free r t a b p q two c = by c
    where
      by : Conflicting P r.at t a b → ⊥
      by (inl v) = subst T (none _) v.narrow
      by (inr s) = subst T (none _) s.narrow

  pub none_narrow : P.l < P.h → narrow_verdict P d ≡ Accepted
  none_narrow lap = (judged P d (narrow_verdict P d) lap refl).free.1 free

pub none_named : (ns : List ℕ) → length ns ≡ 0 → (p : ℕ) → named ns p ≡ false
unfolding named
none_named [] e p = refl
none_named (n ∷ ns) e p = absurd (omega arith)
