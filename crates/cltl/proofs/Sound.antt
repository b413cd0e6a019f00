-- What the drift rules keep is true of every run within the drift.
use Prim.Native.Nat.{ℕ, ◌≤◌, ◌<◌}
use Rattle.std.specs.Prelude.{◌≡◌, List, T}
use Rattle.std.proofs.Common.{sym}
use Rattle.std.proofs.Math.Path.{subst}
use Rattle.std.proofs.Math.Bool.{Bool, true, false}
use Rattle.std.proofs.Math.Logic.{⊎_elim}
use native.Mathlib.Omega.{arith}
use Rattle.grammar.specs.Grammar.{and, or, amount, Counted, counted, Clause}
use Rattle.row.specs.Lasso.{step_of}
use Rattle.row.specs.Round.{step_low}
use Rattle.cltl.specs.Threshold.{threshold, quota}
use Rattle.cltl.specs.Meaning.{Rows, Proper, AtLeast, Run, among, size, Counts, TrueOf}
use Rattle.cltl.specs.Counting.{tally}
use Rattle.cltl.specs.Rules.{window, throughout, leaves, asked, text, count, some_text, joined, rules, has_next}
use Rattle.cltl.specs.Broken.{Val}
use Rattle.cltl.proofs.Operators.{sound}
use Rattle.cltl.proofs.Basics.{and_l}
use Rattle.cltl.proofs.Members.{size-tally, whole_size, Text, text_exact}
use Rattle.cltl.proofs.Quorum.{window_from, quorum_cases}
use Rattle.cltl.proofs.Tally.{tally_least, tally_among, tally_mono, one_of, not_all}
use Rattle.cltl.proofs.Joint.{Some, some_map, LeafHolds, or_side, and_side, pigeonhole, joint_more}
use Rattle.cltl.proofs.Hindmost.{least, least_le, least_at, least_pace, least_start, least_near}

module _ (P : Rows) (proper : Proper P) (d : ℕ) (r : Run P.carts d) where
  abbrev lo : ℕ → ℕ
  lo t = least P.carts d proper.some r t

  -- the step of the hindmost cart
  abbrev S : ℕ → ℕ
  S t = step_of P.h P.l (lo t)

  cart_sound : (x : Bool × Counted) (t i : ℕ) → i < P.carts → T (window P.h P.l (text P i x) d (S t)) → Text P i x (r.at t i)
  cart_sound x t i h y =
      (text_exact P proper i x (r.at t i)).0
      (window_from P.h P.l (text P i x) d (lo t) (r.at t i) proper.lap (least_le P.carts d proper.some r t i h)
      (least_near P.carts d proper.some r t i h) y)

  -- the hindmost cart stands on that step itself
  last_sound : (x : Bool × Counted) (t : ℕ) → ((i : ℕ) → i < P.carts → T (text P i x (S t))) → (i : ℕ) × (i < P.carts) × Text P i x (r.at t i)
  last_sound x t f =
      let b = least_at P.carts d proper.some r t in
      (b.0, b.1, subst (λ (v : ℕ). Text P b.0 x v) (sym b.2) ((text_exact P proper b.0 x (lo t)).0 (f b.0 b.1)))

  -- where enough carts satisfy its text, or its negation, a count holds, or does not
  enough : (p : Bool) (x : Counted) (t : ℕ) (f : ℕ → Bool) → ((i : ℕ) → i < P.carts → T (f i) → Text P i (p, x) (r.at t i))
      → asked P (p, x) ≤ tally f P.carts → Val p (Counts P r.at x t)
  unfolding quota
  enough true (counted a (amount k percent o)) t f g z = tally_least f _ P.carts g (threshold k percent (size P o)) z
  enough false (counted a (amount k percent o)) t f g z =
      λ many.
      let b =
      tally_among f (among P o) _ P.carts (λ i q y. ((g i q y).0, λ u. (g i q y).1 u.1)) (λ i q u. u.0) (threshold k percent (size P o)) many in
      let e = size-tally P o in
      omega arith

  -- "all N carts satisfy it at s itself": then the carts are the whole fleet
  all_sound : (p : Bool) (x : Counted) (t : ℕ) → asked P (p, x) ≡ 1 → ((i : ℕ) → i < P.carts → T (text P i (p, x) (S t))) → Val p (Counts P r.at x t)
  unfolding quota
  all_sound true (counted a (amount k percent o)) t e f =
      let x : Counted = counted a (amount k percent o) in
      let b = last_sound (true, x) t f in
      subst (λ (m : ℕ). AtLeast (λ i. Text P i (true, x) (r.at t i)) m P.carts) (sym e) (one_of _ P.carts b.0 b.1 b.2)
  all_sound false (counted a (amount k percent o)) t e f =
      λ many.
      let b = last_sound (false, counted a (amount k percent o)) t f in
      let c = not_all _ P.carts b.0 b.1 (λ u. b.2.1 u.1) (threshold k percent (size P o)) many in
      let n = whole_size P o (λ i q. and_l (among P o i) _ (f i q)) in
      omega arith

  pub count_sound : (p : Bool) (x : Counted) (t : ℕ) → T (count P d p x (S t)) → Val p (Counts P r.at x t)
  unfolding count
  count_sound p x t y =
      ⊎_elim (λ z. enough p x t _ (cart_sound (p, x) t) z) (λ z. all_sound p x t z.0 z.1)
      (quorum_cases P.h P.l P.carts (asked P (p, x)) (λ i. text P i (p, x)) d (S t) y)

  -- a cart that satisfies the or throughout satisfies one of its texts where it is
  some_sound : (xs : List (Bool × Counted)) (t i : ℕ) → i < P.carts → T (window P.h P.l (some_text P xs i) d (S t))
      → T (some_text P xs i (step_of P.h P.l (r.at t i)))
  some_sound xs t i h x =
      window_from P.h P.l (some_text P xs i) d (lo t) (r.at t i) proper.lap (least_le P.carts d proper.some r t i h)
      (least_near P.carts d proper.some r t i h) x

  -- so of counts that are joined one has its threshold, by the pigeonhole
  joined_sound : (p : Bool) (c : Clause) (t : ℕ) → T (joined P d p c (S t)) → Some (LeafHolds (Counts P r.at) t) (leaves p c)
  unfolding joined
  joined_sound p c t z =
      let xs = leaves p c in
      let many = joint_more P d xs (S t) z in
      let at : ℕ → ℕ = λ i. step_of P.h P.l (r.at t i) in
      let there : throughout P.h P.l P.carts d (some_text P xs) (S t) ≤ tally (λ i. some_text P xs i (at i)) P.carts =
      tally_mono _ _ P.carts (some_sound xs t) in
      some_map _ _ reached xs (pigeonhole P at P.carts xs (omega arith))
    where
      reached : (x : Bool × Counted) → asked P x ≤ tally (λ i. text P i x (step_of P.h P.l (r.at t i))) P.carts → LeafHolds (Counts P r.at) t x
      reached (p, x) z = enough p x t _ (λ i _. (text_exact P proper i (p, x) (r.at t i)).0) z

  pub rules_sound : (c : Clause) → (T (has_next c) → ⊥) → T (rules P d c 0) → TrueOf P r c
  unfolding rules
  rules_sound c n x =
      sound P.h P.l proper.lap lo (least_pace P.carts d proper.some r) (count P d) (joined P d) (Counts P r.at) count_sound
      (λ p a b t z. or_side (Counts P r.at) t p a b (joined_sound p (or a b) t z))
      (λ p a b t z. and_side (Counts P r.at) t p a b (joined_sound p (and a b) t z))
      true c (λ y. absurd (n y)) 0
      (rw (least_start P.carts d proper.some r, step_low P.h P.l 0 (omega (arith, proper.lap))) x)
