-- The carts that a count is over.
use Rattle.std.specs.Prelude.{ℕ, ◌+◌, ◌<◌, ◌≡◌, refl, Bool, true, false, ◌&&◌, ◌↔◌, T}
use Rattle.std.proofs.Common.{sym, subst, ◌∙◌, arith}
use Rattle.std.proofs.Math.Path.{ap}
use Rattle.grammar.specs.Grammar.{Inner, Over, fleet, group, amount, Counted, counted}
use Rattle.row.specs.Lasso.{step_of}
use Rattle.row.specs.Round.{step_below}
use Rattle.cltl.specs.Counting.{tally}
use Rattle.cltl.specs.Threshold.{threshold, quota}
use Rattle.cltl.specs.Meaning.{Rows, Proper, AtLeast, Satisfies, among, size, Counts}
use Rattle.cltl.specs.Rules.{quorum, inner, asked, text, count}
use Rattle.cltl.specs.Broken.{Val}
use Rattle.cltl.proofs.Basics.{and_l, and_r, and_i}
use Rattle.cltl.proofs.Inner.{inner_sound, inner_complete, inner_opp}
use Rattle.cltl.proofs.Tally.{tally_all, tally_split, at_least_map}
use Rattle.cltl.proofs.Agree.{tally_agrees, quorum_agrees}

module _ (P : Rows) where
  pub size-tally : (o : Over) → size P o ≡ tally (among P o) P.carts
  size-tally fleet = sym (tally_all (λ i. true) P.carts (λ i p. tt))
  size-tally (group g) = refl

  -- the whole fleet is as many as there are carts
  pub whole_size : (o : Over) → ((i : ℕ) → i < P.carts → T (among P o i)) → size P o ≡ P.carts
  whole_size o all = size-tally o ∙ tally_all (among P o) P.carts all

  -- cart i satisfies the text of a count, or of its negation, at counter v
  abbrev pub Text : ℕ → Bool × Counted → ℕ → Type 0
  Text i (p, counted a (amount k percent o)) v = T (among P o i) × Val p (Satisfies P i a v)

  module _ (proper : Proper P) where
    pub text_exact : (i : ℕ) (x : Bool × Counted) (v : ℕ) → T (text P i x (step_of P.h P.l v)) ↔ Text i x v
    text_exact i (p, counted a (amount k percent o)) v =
        let s : ℕ = step_of P.h P.l v in (
          λ x. (and_l (among P o i) (inner P i p a s) x, inner_sound P proper i p a v (and_r (among P o i) (inner P i p a s) x)),
          λ x. and_i (among P o i) (inner P i p a s) x.0 (inner_complete P proper i p a v x.1),
        )

    -- those that satisfy it and those that satisfy its negation are all of them, each at a counter of its own
    pub text_split : (x : Counted) (a : Inner) (k : ℕ) (percent : Bool) (o : Over) → x ≡ counted a (amount k percent o) → (K : ℕ → ℕ)
        → tally (λ i. text P i (false, x) (step_of P.h P.l (K i))) P.carts + tally (λ i. text P i (true, x) (step_of P.h P.l (K i))) P.carts
        ≡ size P o
    text_split x a k percent o e K =
        rw e
        (tally_split (among P o) (λ i. inner P i false a (step_of P.h P.l (K i))) (λ i. inner P i true a (step_of P.h P.l (K i)))
        (λ i. inner_opp P proper i a (step_of P.h P.l (K i)) (step_below P.h P.l proper.lap (K i))) P.carts ∙ sym (size-tally o))

-- Counts over the same carts are the same, and so are their thresholds.
module _ (P : Rows) where
  abbrev pub SameCarts : Over → Over → Type 0
  SameCarts o o' = (i : ℕ) → i < P.carts → among P o i ≡ among P o' i

  pub same_size : (o o' : Over) → SameCarts o o' → size P o ≡ size P o'
  same_size o o' e = size-tally P o ∙ tally_agrees (among P o) (among P o') P.carts e ∙ sym (size-tally P o')

  pub same_count : Proper P → (d : ℕ) (p : Bool) (a : Inner) (k : ℕ) (percent : Bool) (o o' : Over) → SameCarts o o' → (s : ℕ) → s < P.h
      → count P d p (counted a (amount k percent o)) s ≡ count P d p (counted a (amount k percent o')) s
  unfolding count
  same_count proper d p a k percent o o' e s q =
      let asks : asked P (p, counted a (amount k percent o)) ≡ asked P (p, counted a (amount k percent o')) =
      ap (λ (n : ℕ). quota p (threshold k percent n) n) (same_size o o' e) in
      quorum_agrees P.carts P.h P.l proper.lap d (asked P (p, counted a (amount k percent o))) _ _
      (λ i c v _. ap (λ (b : Bool). b && inner P i p a v) (e i c)) s q
      ∙ ap (λ (m : ℕ). quorum P.h P.l P.carts d m (λ i. text P i (p, counted a (amount k percent o'))) s) asks

  pub same_holds : (at : ℕ → ℕ → ℕ) (a : Inner) (k : ℕ) (percent : Bool) (o o' : Over) → SameCarts o o' → (t : ℕ)
      → Counts P at (counted a (amount k percent o)) t → Counts P at (counted a (amount k percent o')) t
  same_holds at a k percent o o' e t x =
      subst (λ (n : ℕ). AtLeast (λ i. T (among P o' i) × Satisfies P i a (at t i)) (threshold k percent n) P.carts) (same_size o o' e)
      (at_least_map _ _ P.carts (λ i q y. (subst T (e i q) y.0, y.1)) (threshold k percent (size P o)) x)
