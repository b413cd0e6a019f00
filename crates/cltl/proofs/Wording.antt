-- What the rules' words for a percentage and a count need a proof for.
use Rattle.std.specs.Prelude.{ℕ, ◌+◌, ◌*◌, ◌≤◌, ◌<◌, ◌≡◌, Bool, not, ◌⊎◌, ◌↔◌}
use Rattle.std.proofs.Common.{sym, arith, T_not}
use Rattle.std.proofs.Math.Bool.{true, false, not-not}
use Rattle.std.proofs.Math.Logic.{inl, inr, ⊎_elim}
use Rattle.std.proofs.Math.Dec.{T}
use Rattle.grammar.specs.Grammar.{leaf, neg, Inner, Over, amount, Counted, counted}
use Rattle.row.specs.Lasso.{step_of}
use Rattle.row.specs.Round.{step_low}
use Rattle.cltl.specs.Threshold.{threshold, distance, Nearest, quota}
use Rattle.cltl.specs.Meaning.{Rows, Proper, AtLeast, Satisfies, among, size}
use Rattle.cltl.specs.Rules.{window, throughout, judge, text, count, rules}
use Rattle.cltl.proofs.Basics.{and_l}
use Rattle.cltl.proofs.Members.{size-tally, whole_size, Text, text_exact}
use Rattle.cltl.proofs.Quorum.{window_at, window_of, quorum_cases, throughout_quorum, all_quorum}
use Rattle.cltl.proofs.Tally.{tally_least, tally_most, tally-not, tally_mono, at_least_map}

threshold_nearest : (k N : ℕ) → Nearest k N (threshold k true N)
unfolding threshold
threshold_nearest k N n = (omega arith, λ e. omega arith)

-- no other number is the nearest: of two that are, each would be at least as high as the other
pub nearest : (k N m : ℕ) → (m ≡ threshold k true N) ↔ Nearest k N m
nearest k N m = (
  λ e. rw e (threshold_nearest k N),
  λ x.
      let y = x (threshold k true N) in
      let z = threshold_nearest k N m in
      let e : distance k N m ≡ distance k N (threshold k true N) = omega arith in
      let high = y.1 (sym e) in
      let low = z.1 e in
      omega arith,
)

-- less than half a cart is none, and nothing else is
pub none_below_half : (k N : ℕ) → (threshold k true N ≡ 0) ↔ (2 * (k * N) < 100)
unfolding threshold
none_below_half k N = (λ e. omega arith, λ q. omega arith)

-- over a test of each cart at a step that tells what it satisfies at a counter: m carts pass it throughout exactly if m satisfy it at all of counters s to
-- s + d
module _ (h l carts : ℕ) (f : ℕ → ℕ → Bool) (Sat : ℕ → ℕ → Type 0) (exact : (i v : ℕ) → T (f i (step_of h l v)) ↔ Sat i v) (d s m : ℕ) where
  abbrev Throughout : ℕ → Type 0
  Throughout i = (j : ℕ) → j ≤ d → Sat i (s + j)

  abbrev all : ℕ → Bool
  all i = window h l (f i) d s

  pub throughout_holds : (m ≤ throughout h l carts d f s) ↔ AtLeast Throughout m carts
  throughout_holds = (
    λ q. tally_least all Throughout carts (λ i p y j z. (exact i (s + j)).0 (window_at h l (f i) d s j z y)) m q,
    λ x.
        let y =
        tally_most (λ i. not (all i)) Throughout carts (λ i p z w. T_not (all i) z (window_of h l (f i) d s (λ j q. (exact i (s + j)).1 (w j q)))) m x in
        let e = tally-not all (λ i. not (all i)) (λ i. sym (not-not (all i))) carts in
        omega arith,
  )

module _ (P : Rows) (proper : Proper P) (d s : ℕ) (low : s < P.h) (a : Inner) (k : ℕ) (percent : Bool) (o : Over) where
  abbrev m : ℕ
  m = threshold k percent (size P o)

  abbrev x : Counted
  x = counted a (amount k percent o)

  abbrev at : Bool → ℕ → ℕ → Bool
  at p i v = text P i (p, x) v

  -- throughout, of the carts that the count is over
  abbrev Along : ℕ → Type 0
  Along i = T (among P o i) × ((j : ℕ) → j ≤ d → Satisfies P i a (s + j))

  along : (m ≤ throughout P.h P.l P.carts d (at true) s) ↔ AtLeast Along m P.carts
  along =
      let holds = throughout_holds P.h P.l P.carts (at true) (λ i. Text P i (true, x)) (λ i v. text_exact P proper i (true, x) v) d s m in (
        λ q. at_least_map _ Along P.carts (λ i _ y. ((y 0 (omega arith)).0, λ j z. (y j z).1)) m (holds.0 q),
        λ y. holds.1 (at_least_map Along _ P.carts (λ i _ z j q. (z.0, z.1 j q)) m y),
      )

  pub count_holds : T (rules P d (leaf x) s)
      ↔ (AtLeast Along m P.carts
      ⊎ ((m ≡ 1) × ((i : ℕ) → i < P.carts → T (among P o i)) × ((i : ℕ) → i < P.carts → Satisfies P i a s)))
  unfolding rules judge count quota
  count_holds =
      let here : (i : ℕ) → T (at true i s) ↔ Text P i (true, x) s = λ i. rw (step_low P.h P.l s low) at (text_exact P proper i (true, x) s) in (
        λ y.
            ⊎_elim (λ q. inl (along.0 q)) (λ q. inr (q.0, (λ i p. ((here i).0 (q.1 i p)).0), λ i p. ((here i).0 (q.1 i p)).1))
            (quorum_cases P.h P.l P.carts m (at true) d s y),
        ⊎_elim (λ y. throughout_quorum P.h P.l P.carts m (at true) d s (along.1 y))
            (λ y. all_quorum P.h P.l P.carts m (at true) d s y.0 (λ i p. (here i).1 (y.1 i p, y.2 i p))),
      )

  -- asking for no cart: there are enough always, and the negation asks for one more than there are
  pub asks_none : m ≡ 0 → T (rules P d (leaf x) s) × (T (rules P d (neg (leaf x)) s) → ⊥)
  unfolding rules judge count quota
  asks_none e = (
    throughout_quorum P.h P.l P.carts m (at true) d s (omega (arith, e)),
    λ y.
        let few = tally_mono (λ i. window P.h P.l (at false i) d s) (among P o) P.carts
        (λ i _ z. and_l (among P o i) _ (window_at P.h P.l (at false i) d s 0 (omega arith) z)) in
        let n = size-tally P o in
        ⊎_elim (λ q. omega (arith, e))
        (λ q.
        let all = whole_size P o (λ i p. and_l (among P o i) _ (q.1 i p)) in
        let some = proper.some in
        let one = q.0 in
        omega (arith, e))
        (quorum_cases P.h P.l P.carts _ (at false) d s y),
  )
