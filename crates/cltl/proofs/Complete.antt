-- Where a count's rule is false, some run within the drift breaks the count, its hindmost cart on that step.
use Prim.Native.Nat.{ℕ, zero, suc, ◌+◌, ◌-◌, ◌≤◌, ◌<◌}
use Rattle.std.specs.Prelude.{◌≡◌, Bool, not, cond, ◌&&◌, ◌⊎◌, T, eqb}
use Rattle.std.proofs.Math.Path.{refl, subst}
use Rattle.std.proofs.Common.{sym, ap, ◌∙◌, inl, inr, eq-or-lt_of_le, le_refl, eqb→eq, T_not}
use Rattle.std.proofs.Math.Bool.{true, false}
use Rattle.std.proofs.Math.Logic.{⊎_elim}
use native.Mathlib.Omega.{arith}
use Rattle.std.specs.Float.Ieee.Fits.{eq→eqb}
use Rattle.grammar.specs.Grammar.{Inner, Over, amount, Counted, counted}
use Rattle.row.specs.Lasso.{step_of}
use Rattle.row.specs.Round.{step_low}
use Rattle.cltl.specs.Threshold.{threshold, quota}
use Rattle.cltl.specs.Meaning.{Rows, Proper, AtLeast, Run, Satisfies, among, size, Counts}
use Rattle.cltl.specs.Counting.{tally, every}
use Rattle.cltl.specs.Rules.{window, throughout, quorum, text, count}
use Rattle.cltl.proofs.Basics.{lt_or_le, T_or_not}
use Rattle.cltl.specs.Broken.{Val, Broken}
use Rattle.cltl.proofs.Members.{size-tally, text_exact, text_split}
use Rattle.cltl.proofs.Quorum.{throughout_quorum, all_quorum}
use Rattle.cltl.proofs.Tally.{every_at, tally_mono, tally_least, tally_among, at_least_map}
use Rattle.cltl.proofs.Standing.{Standing, highest, gather, gathered}

-- a number below n that passes the test, or none does
find : (g : ℕ → Bool) (n : ℕ) → ((i : ℕ) × (i < n) × T (g i)) ⊎ ((i : ℕ) → i < n → T (not (g i)))
find g zero = inr (λ i p. absurd (omega arith))
find g (suc n) = ⊎_elim (λ x. inl (n, le_refl (suc n), x)) (λ x. ⊎_elim (λ y. inl (y.0, omega arith, y.2)) (λ y. inr (none x y)) (find g n)) (T_or_not (g n))
  where
    none : T (not (g n)) → ((i : ℕ) → i < n → T (not (g i))) → (i : ℕ) → i < suc n → T (not (g i))
    none x y i p = ⊎_elim (λ e. subst (λ (j : ℕ). T (not (g j))) (sym e) x) (λ q. y i q) (eq-or-lt_of_le {n = i} {m = n} (omega arith))

-- the first number below n that fails the test, or 0
unfoldable miss : (ℕ → Bool) → ℕ → ℕ
miss g zero = 0
miss g (suc n) = cond (every g n) (cond (g n) 0 n) (miss g n)

record Missed (g : ℕ → Bool) (n k : ℕ) (all : Bool) : Type 0 where
  low : k ≤ n - 1
  fails : T (not all) → T (not (g k))
  passes : T all → k ≡ 0
  first : T (not (g 0)) → k ≡ 0

missed : (g : ℕ → Bool) (n : ℕ) → Missed g n (miss g n) (every g n)
unfolding miss every
missed g zero = record { low = omega arith; fails = λ x. absurd x; passes = λ _. refl; first = λ _. refl }
missed g (suc n) = go (every g n) (g n) refl (λ x y. every_zero n x y) (missed g n)
  where
    every_zero : (n : ℕ) → T (every g n) → T (not (g 0)) → n ≡ 0
    every_zero n x y = ⊎_elim (λ e. sym e) (λ q. absurd (T_not (g 0) y (every_at g n 0 q x))) (eq-or-lt_of_le {n = 0} {m = n} (omega arith))

    go : (e b : Bool) → g n ≡ b → (T e → T (not (g 0)) → n ≡ 0) → Missed g n (miss g n) e → Missed g (suc n) (cond e (cond b 0 n) (miss g n)) (b && e)
    go true true q z r = record { low = omega arith; fails = λ x. absurd x; passes = λ _. refl; first = λ _. refl }
    go true false q z r = record { low = omega arith; fails = λ _. subst (λ (b : Bool). T (not b)) (sym q) tt; passes = λ x. absurd x; first = λ x. z tt x }
    go false true q z r = record { low = let a = r.low in omega arith; fails = λ _. r.fails tt; passes = λ x. absurd x; first = r.first }
    go false false q z r = record { low = let a = r.low in omega arith; fails = λ _. r.fails tt; passes = λ x. absurd x; first = r.first }

-- no number but 0 passes
tally_one : (g : ℕ → Bool) (n : ℕ) → ((i : ℕ) → i < n → 0 < i → T (not (g i))) → tally g n ≤ 1
unfolding tally
tally_one g zero f = omega arith
tally_one g (suc zero) f = go (g 0)
  where
    go : (b : Bool) → cond b 1 0 ≤ 1
    go true = omega arith
    go false = omega arith
tally_one g (suc (suc n)) f = go (g (suc n)) (f (suc n) (omega arith) (omega arith)) (tally_one g (suc n) (λ i p q. f i (omega arith) q))
  where
    go : (b : Bool) → T (not b) → tally g (suc n) ≤ 1 → cond b (suc (tally g (suc n))) (tally g (suc n)) ≤ 1
    go true x y = absurd x
    go false x y = y

-- over any truth of the carts at their steps
module _ (h l carts d m : ℕ) (some : 0 < carts) (f : ℕ → ℕ → Bool) (s : ℕ) (low : s < h) (broken : T (quorum h l carts d m f s) → ⊥) where
  abbrev along : ℕ → ℕ → Bool
  along i j = f i (step_of h l (s + j))

  -- where cart i fails first, or s
  unfoldable gone : ℕ → ℕ
  gone i = miss (along i) (suc d)

  gone_is : (i : ℕ) → Missed (along i) (suc d) (gone i) (every (along i) (suc d))
  unfolding gone
  gone_is i = missed (along i) (suc d)

  few : throughout h l carts d f s < m
  few = ⊎_elim (λ q. q) (λ q. absurd (broken (throughout_quorum h l carts m f d s q))) (lt_or_le (throughout h l carts d f s) m)

  -- who satisfies it there satisfies it all along
  stays : (i : ℕ) → T (f i (step_of h l (s + gone i))) → T (window h l (f i) d s)
  unfolding window
  stays i x = ⊎_elim (λ y. y) (λ y. absurd (T_not (along i (gone i)) ((gone_is i).fails y) x)) (T_or_not (every (along i) (suc d)))

  -- at most so many satisfy it
  abbrev Breaks : Type 0
  Breaks = (K : Standing carts d s) × (tally (λ i. f i (step_of h l (K.counter i))) carts < m)

  here : (i : ℕ) → i < carts → gone i ≡ 0 → Breaks
  here i p e = (
    record {
      counter = λ i. s + gone i;
      behind = λ i q. omega arith;
      ahead = λ i q. let a = (gone_is i).low in omega arith;
      last = (i, p, omega arith);
    },
    let a : tally (λ i. f i (step_of h l (s + gone i))) carts ≤ throughout h l carts d f s = tally_mono _ _ carts (λ i _. stays i) in let b = few in omega arith,
  )

  -- all fail later on, and m is above 1: the first cart is put on s
  abbrev put : ℕ → ℕ
  put zero = s
  put (suc i) = s + gone (suc i)

  put_ok : (i : ℕ) → (s ≤ put i) × (put i ≤ s + d)
  put_ok zero = (omega arith, omega arith)
  put_ok (suc i) = let a = (gone_is (suc i)).low in (omega arith, omega arith)

  apart : ((i : ℕ) → i < carts → gone i ≡ 0 → ⊥) → 1 < m → Breaks
  apart none more = (
    record {
      counter = put;
      behind = λ i q. (put_ok i).0;
      ahead = λ i q. (put_ok i).1;
      last = (0, some, refl);
    },
    let a : tally (λ i. f i (step_of h l (put i))) carts ≤ 1 = tally_one _ carts others in omega arith,
  )
    where
      others : (i : ℕ) → i < carts → 0 < i → T (not (f i (step_of h l (put i))))
      others zero p q = absurd (omega arith)
      others (suc i) p q =
          ⊎_elim (λ x. absurd (none (suc i) p ((gone_is (suc i)).passes x))) (λ x. (gone_is (suc i)).fails x) (T_or_not (every (along (suc i)) (suc d)))

  -- with m = 1 some cart fails on s itself
  at_once : m ≡ 1 → Breaks
  at_once e = ⊎_elim (λ x. here x.0 x.1 ((gone_is x.0).first (subst (λ (v : ℕ). T (not (f x.0 v))) (sym step) x.2)))
      (λ x. absurd (broken (all_quorum h l carts m f d s e (λ i p. yes (f i s) (x i p))))) (find (λ i. not (f i s)) carts)
    where
      step : step_of h l (s + 0) ≡ s
      step = let e : s + 0 ≡ s = omega arith in ap (step_of h l) e ∙ step_low h l s low

      yes : (b : Bool) → T (not (not b)) → T b
      yes true x = tt
      yes false x = x

  pub breaks : Breaks
  breaks =
      ⊎_elim (λ x. here x.0 x.1 (eqb→eq (gone x.0) 0 x.2))
      (λ x. ⊎_elim (λ q. apart (λ i p e. T_not (eqb (gone i) 0) (x i p) (eq→eqb e)) q) (λ q. at_once (let a = few in omega arith)) (lt_or_le 1 m))
      (find (λ i. eqb (gone i) 0) carts)

module _ (P : Rows) (proper : Proper P) (d : ℕ) where
  -- fewer than its threshold satisfy the text, or its negation: the count is broken, or holds
  module _ (a : Inner) (k : ℕ) (percent : Bool) (o : Over) (K : ℕ → ℕ) where
    abbrev x : Counted
    x = counted a (amount k percent o)

    abbrev m : ℕ
    m = threshold k percent (size P o)

    -- those of a standing
    abbrev Here : ℕ → Type 0
    Here i = T (among P o i) × Satisfies P i a (K i)

    abbrev yes : Bool → ℕ
    yes p = tally (λ i. text P i (p, x) (step_of P.h P.l (K i))) P.carts

    few_hold : (p : Bool) → yes p < quota p m (size P o) → Val (not p) (AtLeast Here m P.carts)
    unfolding quota
    few_hold true few =
        λ many.
        let b =
        tally_among (λ i. text P i (false, x) (step_of P.h P.l (K i))) (among P o) Here P.carts
        (λ i _ t. let u = (text_exact P proper i (false, x) (K i)).0 t in (u.0, λ w. u.1 w.1)) (λ i _ w. w.0) m many in
        let c = text_split P proper x a k percent o refl K in
        let e = size-tally P o in
        omega arith
    few_hold false few =
        let c = text_split P proper x a k percent o refl K in
        tally_least (λ i. text P i (true, x) (step_of P.h P.l (K i))) Here P.carts (λ i _ t. (text_exact P proper i (true, x) (K i)).0 t) m (omega arith)

    same_standing : (p : Bool) (r : Run P.carts d) (t : ℕ) → ((i : ℕ) → i < P.carts → r.at t i ≡ K i) → Val p (AtLeast Here m P.carts)
        → Val p (Counts P r.at x t)
    same_standing true r t e y = at_least_map Here _ P.carts (λ i p w. (w.0, subst (λ (v : ℕ). Satisfies P i a v) (sym (e i p)) w.1)) m y
    same_standing false r t e y = λ z. y (at_least_map _ Here P.carts (λ i p w. (w.0, subst (λ (v : ℕ). Satisfies P i a v) (e i p) w.1)) m z)

  pub count_complete : (p : Bool) (x : Counted) (s : ℕ) → s < P.h → (T (count P d p x s) → ⊥) → Broken P d p x s
  unfolding count
  count_complete p (counted a (amount k percent o)) s low broken =
      let b = breaks P.h P.l P.carts d _ proper.some (λ i. text P i (p, counted a (amount k percent o))) s low broken in
      let K : ℕ → ℕ = b.0.counter in
      let spread : (i j : ℕ) → i < P.carts → j < P.carts → K i ≤ K j + d = (λ i j p q. let x = b.0.ahead i p in let y = b.0.behind j q in omega arith) in
      let e = gathered P.carts d K spread in
      let z = b.0.last in
      record {
        run = gather P.carts d K spread;
        moment = highest K P.carts;
        behind = λ i q. subst (λ (v : ℕ). s ≤ v) (sym (e i q)) (b.0.behind i q);
        last = (z.0, z.1, e z.0 z.1 ∙ z.2);
        other = same_standing a k percent o K (not p) (gather P.carts d K spread) (highest K P.carts) e (few_hold a k percent o K p b.1);
      }
