-- Worked cases: one table by computation; then what a run and the inner text are.
use Rattle.std.specs.Prelude.{ℕ, zero, suc, ◌+◌, ◌-◌, ◌≤◌, ◌≡◌, refl, Bool, true, false, not, cond, ◌&&◌, ◌⊎◌, eqb, leb}
use Rattle.std.proofs.Common.{arith, inl, inr}
use Rattle.grammar.specs.Grammar.{top, leaf, neg, and, next, until, release, ev, gl, amount, fleet, counted, Clause}
use Rattle.row.specs.Lasso.{next_step, step_of}
use Rattle.cltl.specs.Threshold.{threshold, quota}
use Rattle.cltl.specs.Meaning.{Rows, Run, Bears, Satisfies}
use Rattle.cltl.specs.Counting.{tally, every}
use Rattle.cltl.specs.Rules.{fix, window, quorum, leaves, judge, mark, inner, count, slack, some_text, same_carts, all_over, uniform, joint, joined, rules, has_next}
use Rattle.cltl.specs.Step.{lowest, failing}

-- tests of a step
abbrev always : ℕ → Bool
always s = true

abbrev never : ℕ → Bool
never s = false

abbrev only : ℕ → ℕ → Bool
only k s = eqb s k

abbrev but : ℕ → ℕ → Bool
but k s = not (eqb s k)

-- document 01's rows 0 1 1 0 and 0 0 1 1: cart i is on place 1 at steps i + 1 and i + 2; place 0 bears m0 only, place 1 m1 only
abbrev places : Rows
places = record { carts = 2; h = 4; l = 0; bears = λ i s k. eqb k (cond (leb (i + 1) s && leb s (i + 2)) 1 0); member = λ g i. false }

-- `[mk,m]`
abbrev at_least : ℕ → ℕ → Clause
at_least k m = leaf (counted (leaf k) (amount m false fleet))

-- `[mk,p%]`
abbrev share : ℕ → ℕ → Clause
share k p = leaf (counted (leaf k) (amount p true fleet))

-- whether it is kept with drift d, and the step that a refusal has
abbrev judged : ℕ → Clause → Bool × ℕ
judged d c = (rules places d c 0, failing places d c)

-- the definitions that the table computes with, under one name
computing : ℕ → Clause → Bool × ℕ
unfolding threshold quota tally every fix window quorum next_step step_of leaves judge mark inner count slack some_text same_carts all_over uniform joint joined rules lowest failing
computing d c = judged d c

pub worked :
    -- "at all of counters s to s + d": true at steps 0 and 1 of three, so with d = 1 from step 0 on and not with d = 2
    (window 3 0 (but 2) 1 0 ≡ true)
    × (window 3 0 (but 2) 2 0 ≡ false)
    -- the window turns into the lap: after step 2 of three comes step 0, or step 1 where the lap begins there
    × (window 3 0 (but 0) 1 2 ≡ false)
    × (window 3 1 (but 0) 1 2 ≡ true)
    × (window 3 1 (but 1) 1 2 ≡ false)
    -- "with m = 1 also if all N carts satisfy it at s itself": two carts, two steps, d = 1; both carts at step 0 only, or cart i at step i only
    × (quorum 2 0 2 1 1 (λ i. only 0) 0 ≡ true)
    × (quorum 2 0 2 1 2 (λ i. only 0) 0 ≡ false)
    × (quorum 2 0 2 1 1 only 0 ≡ false)
    -- of three carts all but cart 1 at every step: two, and not three
    × (quorum 2 0 3 1 2 (λ i s. but 1 i) 0 ≡ true)
    × (quorum 2 0 3 1 3 (λ i s. but 1 i) 0 ≡ false)
    -- a U b "with b reached", from step 1 of three, a always: b never, b at step 0 by the lap, b at step 0 in the run-in
    × (fix 3 0 true always never 3 1 ≡ false)
    × (fix 3 0 true always (only 0) 3 1 ≡ true)
    × (fix 3 1 true always (only 0) 3 1 ≡ false)
    -- a R b "with no need that a ever comes", from step 1 of three: b always, b up to step 2 where a is, b only before a
    × (fix 3 0 false never always 3 1 ≡ true)
    × (fix 3 0 false (only 2) (but 0) 3 1 ≡ true)
    × (fix 3 0 false (only 0) (but 2) 3 1 ≡ false)
    -- "!`[a,m]` becomes `[!a,N+1−m]`, N being the carts, never below 0": two carts
    × (quota false 2 2 ≡ 1)
    × (quota false 0 2 ≡ 3)
    × (quota false 4 2 ≡ 0)
    -- "25% of 5 is 1, 30% of 5 is 2, 50% of 5 is 3"
    × (threshold 25 true 5 ≡ 1)
    × (threshold 30 true 5 ≡ 2)
    × (threshold 50 true 5 ≡ 3)
    × (threshold 90 true 5 ≡ 5)
    -- one cart: 0.49 and 0.5; 32 carts: 31.36 and 31.68; none, all, and a number as it stands
    × (threshold 49 true 1 ≡ 0)
    × (threshold 50 true 1 ≡ 1)
    × (threshold 98 true 32 ≡ 31)
    × (threshold 99 true 32 ≡ 32)
    × (threshold 0 true 32 ≡ 0)
    × (threshold 100 true 32 ≡ 32)
    × (threshold 3 false 2 ≡ 3)
    -- "X outside a count": X at any depth, and neither true, U, R nor an X inside a count
    × (has_next (neg (gl (until top (next (at_least 1 1))))) ≡ true)
    × (has_next (ev (release (next (at_least 1 1)) top)) ≡ true)
    × (has_next (neg (and top (until (at_least 0 0) (release (at_least 0 3) (at_least 0 0))))) ≡ false)
    × (has_next (leaf (counted (next (leaf 1)) (amount 1 false fleet))) ≡ false)
    -- "The step is the lowest where the body fails if the clause's outermost operator is G, else 0."
    × (judged 0 (gl (at_least 0 1)) ≡ (false, 2))
    × (judged 1 (gl (at_least 0 1)) ≡ (false, 1))
    × (judged 0 (neg (ev (neg (at_least 0 1)))) ≡ (false, 0))
    × (judged 0 (neg (ev (at_least 1 2))) ≡ (false, 0))
    × (judged 0 (and (gl (at_least 0 1)) (at_least 0 3)) ≡ (false, 0))
    × (judged 0 (and (at_least 0 1) (at_least 0 3)) ≡ (false, 0))
    × (judged 0 (release (at_least 0 3) (at_least 0 1)) ≡ (false, 0))
    × (judged 0 (until (at_least 0 1) (at_least 0 3)) ≡ (false, 0))
    × (judged 0 (next (at_least 0 2)) ≡ (false, 0))
    -- a kept clause, by the all-carts case at step 2
    × (judged 2 (ev (at_least 1 1)) ≡ (true, 0))
    -- percentages of two carts: 24 is no cart, true always and its negation never; 25 is one, and its negation asks for 2 + 1 − 1 (rounded after the
    -- negation, 2 + 1 − 0.5 would go up to 3)
    × (judged 2 (share 1 24) ≡ (true, 0))
    × (judged 0 (neg (share 1 24)) ≡ (false, 0))
    × (judged 0 (share 1 25) ≡ (false, 0))
    × (judged 0 (neg (share 1 25)) ≡ (true, 0))
    -- 74 is one and has the all-carts case, 75 is two and hasn't
    × (judged 2 (ev (share 1 74)) ≡ (true, 0))
    × (judged 2 (ev (share 1 75)) ≡ (false, 0))
    × (judged 0 (ev (share 1 75)) ≡ (true, 0))
    -- their negations ask for two, without the all-carts case, and for one, with it
    × (judged 2 (ev (neg (share 0 74))) ≡ (false, 0))
    × (judged 2 (ev (neg (share 0 75))) ≡ (true, 0))
unfolding computing
worked = (
  refl,
  refl,
  refl,
  refl,
  refl,
  refl,
  refl,
  refl,
  refl,
  refl,
  refl,
  refl,
  refl,
  refl,
  refl,
  refl,
  refl,
  refl,
  refl,
  refl,
  refl,
  refl,
  refl,
  refl,
  refl,
  refl,
  refl,
  refl,
  refl,
  refl,
  refl,
  refl,
  refl,
  refl,
  refl,
  refl,
  refl,
  refl,
  refl,
  refl,
  refl,
  refl,
  refl,
  refl,
  refl,
  refl,
  refl,
  refl,
  refl,
  refl,
  refl,
  refl,
  refl,
)

-- "all may pause": a run of two carts and drift 0 whose first tick moves neither
pub paused : (r : Run 2 0) × ((t i : ℕ) → r.at t i ≡ t - 1)
paused = (
  record {
    at = λ t i. t - 1;
    start = λ i p. refl;
    tick = λ t i p. first t;
    again = λ t i p. (suc t, omega arith, omega arith);
    near = λ t i j p q. omega arith;
  },
  λ t i. refl,
)
  where
    first : (t : ℕ) → (suc t - 1 ≡ t - 1) ⊎ (suc t - 1 ≡ suc (t - 1))
    first zero = inl refl
    first (suc t) = inr (omega arith)

-- "X is that cart's next move"
pub next_own : (P : Rows) (i k v : ℕ) → Satisfies P i (next (leaf k)) v ≡ Bears P i k (suc v)
next_own P i k v = refl

-- within 0 no cart is ahead of another
pub together : (r : Run 2 0) (t : ℕ) → r.at t 0 ≤ r.at t 1
together r t = let a = r.near t 0 1 (omega arith) (omega arith) in omega arith

-- a cart that never moves is in no run
pub no_rest : (r : Run 1 0) → ((t : ℕ) → r.at t 0 ≡ 0) → ⊥
no_rest r still = let g = r.again 0 0 (omega arith) in let a = still g.0 in let b = still (suc g.0) in omega arith
