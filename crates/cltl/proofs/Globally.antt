-- A G over one count, or over its negation, that the rules do not keep is false of some run within the drift.
use Rattle.std.specs.Prelude.{ℕ, Bool, T}
use Rattle.std.proofs.Common.{arith, T_not}
use Rattle.std.proofs.Math.Bool.{true, false}
use Rattle.grammar.specs.Grammar.{leaf, neg, gl, Counted}
use Rattle.cltl.specs.Meaning.{Rows, Proper, Run, TrueOf}
use Rattle.cltl.specs.Rules.{judge, count, rules}
use Rattle.cltl.specs.Step.{failing}
use Rattle.cltl.specs.Broken.{count_or, Broken}
use Rattle.cltl.proofs.Lowest.{globally_fails}
use Rattle.cltl.proofs.Complete.{count_complete}

module _ (P : Rows) (proper : Proper P) (d : ℕ) (x : Counted) where
  -- the count at the step where the body of G fails first
  broken_there : (p : Bool) → (T (rules P d (gl (count_or p x)) 0) → ⊥) → Broken P d p x (failing P d (gl (count_or p x)))
  unfolding rules judge
  broken_there true broken =
      let w = globally_fails P d (leaf x) proper broken in count_complete P proper d true x _ w.below (T_not (count P d true x _) w.fails)
  broken_there false broken =
      let w = globally_fails P d (neg (leaf x)) proper broken in count_complete P proper d false x _ w.below (T_not (count P d false x _) w.fails)

  pub globally_broken : (p : Bool) → (T (rules P d (gl (count_or p x)) 0) → ⊥) → (r : Run P.carts d) × (TrueOf P r (gl (count_or p x)) → ⊥)
  globally_broken true broken = let b = broken_there true broken in (b.run, λ holds. holds (b.moment, omega arith, b.other, λ u p q. tt))
  globally_broken false broken = let b = broken_there false broken in (b.run, λ holds. holds (b.moment, omega arith, (λ no. no b.other), λ u p q. tt))
