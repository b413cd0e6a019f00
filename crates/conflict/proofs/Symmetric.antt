-- Whom a cart meets meets it.
use Rattle.std.specs.Prelude.{ℕ, T}
use Rattle.std.proofs.Common.{sym, subst, ⊎_elim}
use Rattle.conflict.specs.Meaning.{Routes, Narrow}
use Rattle.conflict.specs.Search.{meets}
use Rattle.conflict.specs.Met.{Met, same_meets, exchange_meets, meets_cases}

module _ (P : Routes) (a v b w : ℕ) where
  meets_turned : T (meets P a v b w) → T (meets P b w a v)
  meets_turned m =
      ⊎_elim (λ s. same_meets P b w a v (record { narrow = subst (Narrow P) s.one s.narrow; one = sym s.one }))
      (λ x. exchange_meets P b w a v
      (record { narrow = x.1.other_narrow; other_narrow = x.1.narrow; there = x.1.back; back = x.1.there })) (meets_cases P a v b w m)

  pub met_turned : (d : ℕ) → Met P d a v b w → Met P d b w a v
  met_turned d m = record {
    cart_there = m.other_there;
    other_there = m.cart_there;
    two = λ e. m.two (sym e);
    behind = m.ahead;
    ahead = m.behind;
    meeting = meets_turned m.meeting;
  }
