-- With a smaller drift the rules keep no less.
use Rattle.std.specs.Prelude.{ℕ, suc, ◌≤◌, Bool, List, T}
use Rattle.std.proofs.Math.Bool.{true}
use Rattle.std.proofs.Common.{arith, le→leb}
use Rattle.std.proofs.Math.Dec.{leb→le}
use Rattle.grammar.specs.Grammar.{Counted, Clause}
use Rattle.cltl.specs.Meaning.{Rows}
use Rattle.cltl.specs.Rules.{throughout, leaves, count, slack, some_text, uniform, joint, joined, rules}
use Rattle.cltl.proofs.Basics.{and_l, and_r, and_i}
use Rattle.cltl.proofs.Operators.{judge_mono}
use Rattle.cltl.proofs.Quorum.{throughout_mono, quorum_mono}

module _ (P : Rows) (d d' : ℕ) (less : d' ≤ d) where
  count_mono : (p : Bool) (x : Counted) (s : ℕ) → T (count P d p x s) → T (count P d' p x s)
  unfolding count
  count_mono p x s y = quorum_mono P.h P.l P.carts _ _ d d' s less y

  joint_mono : (xs : List (Bool × Counted)) (s : ℕ) → T (joint P d xs s) → T (joint P d' xs s)
  unfolding joint
  joint_mono xs s y =
      let fewer = throughout_mono P.h P.l P.carts (some_text P xs) d d' s less in
      let many = leb→le (suc (slack P xs)) (throughout P.h P.l P.carts d (some_text P xs) s) (and_r (uniform P xs) _ y) in
      and_i (uniform P xs) _ (and_l (uniform P xs) _ y) (le→leb (suc (slack P xs)) (throughout P.h P.l P.carts d' (some_text P xs) s) (omega arith))

  pub rules_mono : (c : Clause) (s : ℕ) → T (rules P d c s) → T (rules P d' c s)
  unfolding rules joined
  rules_mono c s x = judge_mono P.h P.l (count P d) (count P d') (joined P d) (joined P d') count_mono (λ p c. joint_mono (leaves p c)) true c s x
