-- Without drift the rules are exactly truth in step, "next" included.
use Prim.Native.Nat.{ℕ, ◌+◌, ◌-◌, ◌≤◌, ◌<◌}
use Rattle.std.specs.Prelude.{◌≡◌, not, ◌⊎◌, ◌↔◌}
use Rattle.std.proofs.Math.Path.{refl}
use Rattle.std.proofs.Common.{sym, ap, subst, ◌∙◌, ⊎_elim, arith}
use Rattle.std.proofs.Math.Bool.{Bool, true, false, not-not}
use Rattle.std.proofs.Math.Dec.{T}
use Rattle.grammar.specs.Grammar.{amount, Counted, counted, Clause}
use Rattle.row.specs.Lasso.{step_of}
use Rattle.row.specs.Round.{step_low, step_below}
use Rattle.cltl.specs.Threshold.{threshold, quota}
use Rattle.cltl.specs.Meaning.{Rows, Proper, run_in_step, size, Counts, InStepAt}
use Rattle.cltl.specs.Suffix.{TrueOnStep}
use Rattle.cltl.specs.Counting.{tally}
use Rattle.cltl.specs.Rules.{judge, nothing, leaves, asked, text, count, some_text, joined, rules, plain_rules}
use Rattle.cltl.proofs.Basics.{lt_or_le, bool_opp}
use Rattle.cltl.specs.Broken.{Val}
use Rattle.cltl.proofs.Operators.{judge_plain, exact_sound, exact_complete}
use Rattle.cltl.proofs.Members.{text_split}
use Rattle.cltl.proofs.Quorum.{throughout_none, quorum_none, none_quorum}
use Rattle.cltl.proofs.Joint.{some_map, leaf_ruled, pigeonhole, joint_more}
use Rattle.cltl.proofs.Hindmost.{least_at}
use Rattle.cltl.proofs.Sound.{count_sound}

module _ (P : Rows) (proper : Proper P) where
  -- the carts that satisfy a count's text, or its negation, at a step
  abbrev having : Bool → Counted → ℕ → ℕ
  having p x s = tally (λ i. text P i (p, x) s) P.carts

  count_none : (p : Bool) (x : Counted) (s : ℕ) → s < P.h → T (count P 0 p x s) ↔ (asked P (p, x) ≤ having p x s)
  unfolding count
  count_none p x s q = (
    λ y. quorum_none P.h P.l P.carts (asked P (p, x)) (λ i. text P i (p, x)) s proper.some y q,
    λ y. none_quorum P.h P.l P.carts (asked P (p, x)) (λ i. text P i (p, x)) s q y,
  )

  count_opp : (x : Counted) (s : ℕ) → s < P.h → count P 0 false x s ≡ not (count P 0 true x s)
  unfolding quota
  count_opp (counted a (amount k percent o)) s q =
      let x : Counted = counted a (amount k percent o) in
      let m : ℕ = threshold k percent (size P o) in
      let e : having false x s + having true x s ≡ size P o = rw (step_low P.h P.l s q) at (text_split P proper x a k percent o refl (λ i. s)) in
      let yes = count_none true x s q in
      let no = count_none false x s q in
      bool_opp (count P 0 false x s) (count P 0 true x s)
      (λ x y. let x' = no.0 x in let y' = yes.0 y in omega arith)
      (λ f. no.1 (⊎_elim (λ g. omega arith) (λ g. absurd (f (yes.1 g))) (lt_or_le (having true x s) m)))

  count_opps : (p : Bool) (x : Counted) (s : ℕ) → s < P.h → count P 0 (not p) x s ≡ not (count P 0 p x s)
  count_opps true x s q = count_opp x s q
  count_opps false x s q = sym (not-not (count P 0 true x s)) ∙ ap not (sym (count_opp x s q))

  step_sound : (p : Bool) (x : Counted) (t : ℕ) → T (count P 0 p x (step_of P.h P.l t)) → Val p (Counts P (run_in_step P.carts).at x t)
  step_sound p x t y =
      let b = least_at P.carts 0 proper.some (run_in_step P.carts) t in
      count_sound P proper 0 (run_in_step P.carts) p x t (subst (λ (v : ℕ). T (count P 0 p x (step_of P.h P.l v))) b.2 y)

  -- a count of those that are joined is true by itself, by the pigeonhole
  joined_none : (p : Bool) (c : Clause) (s : ℕ) → s < P.h → T (joined P 0 p c s) → T (judge P.h P.l (count P 0) nothing p c s)
  unfolding joined count
  joined_none p c s q z =
      let xs = leaves p c in
      let many = joint_more P 0 xs s z in
      let there = throughout_none P.h P.l P.carts (some_text P xs) s q in
      leaf_ruled P.h P.l (count P 0) nothing s p c (some_map _ _ reached xs (pigeonhole P (λ i. s) P.carts xs (omega arith)))
    where
      reached : (x : Bool × Counted) → asked P x ≤ tally (λ i. text P i x s) P.carts → T (count P 0 x.0 x.1 s)
      reached x z = none_quorum P.h P.l P.carts (asked P x) (λ i. text P i x) s q z

  -- so without drift joining makes no difference
  pub joining_plain : (p : Bool) (c : Clause) (s : ℕ) → s < P.h
      → judge P.h P.l (count P 0) (joined P 0) p c s ≡ judge P.h P.l (count P 0) nothing p c s
  joining_plain p c s q = judge_plain P.h P.l proper.lap (count P 0) (joined P 0) joined_none p c s q

  -- "Drift 0 gives the old verdicts."
  pub rules_plain : (c : Clause) (s : ℕ) → s < P.h → rules P 0 c s ≡ plain_rules P 0 c s
  unfolding rules plain_rules
  rules_plain c s q = joining_plain true c s q

  plain_exact : (c : Clause) (t : ℕ) → T (plain_rules P 0 c (step_of P.h P.l t)) ↔ InStepAt P c t
  unfolding plain_rules
  plain_exact c t = (
    λ x. exact_sound P.h P.l proper.lap (count P 0) (Counts P (run_in_step P.carts).at) step_sound count_opps true c t x,
    λ v. exact_complete P.h P.l proper.lap (count P 0) (Counts P (run_in_step P.carts).at) step_sound count_opps true c t v,
  )

  -- at every moment
  pub rules_exact : (c : Clause) (t : ℕ) → T (rules P 0 c (step_of P.h P.l t)) ↔ InStepAt P c t
  rules_exact c t = rw (rules_plain c (step_of P.h P.l t) (step_below P.h P.l proper.lap t)) (plain_exact c t)

  -- so a moment is as its step is
  pub moment_step : (c : Clause) (t : ℕ) → InStepAt P c t ↔ TrueOnStep P t c
  moment_step c t =
      let s : ℕ = step_of P.h P.l t in
      let e : step_of P.h P.l s ≡ s = step_low P.h P.l s (step_below P.h P.l proper.lap t) in
      let x = rules_exact c t in
      let y = rules_exact c s in
      (λ z. y.0 (subst (λ (v : ℕ). T (rules P 0 c v)) (sym e) (x.1 z)), λ z. x.0 (subst (λ (v : ℕ). T (rules P 0 c v)) e (y.1 z)))
