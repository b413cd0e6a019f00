-- Runs, and what is true of them: document 01 'Runs', and of counts over a group document 02, 6). Nothing here computes.
use Rattle.std.specs.Prelude.{ℕ, zero, suc, ◌+◌, ◌≤◌, ◌<◌, ◌≡◌, refl, Bool, true, ◌⊎◌, T}
use Rattle.std.proofs.Common.{inr, arith}
use Rattle.grammar.specs.Grammar.{Form, top, leaf, neg, and, or, next, until, release, ev, gl, Inner, Over, fleet, group, amount, Counted, counted, Clause}
use Rattle.row.specs.Lasso.{step_of}
use Rattle.cltl.specs.Counting.{tally}
use Rattle.cltl.specs.Threshold.{threshold}

-- "Rows and marks are those of the files": so many carts, h steps with the lap from l on, and whether the place on a step of a cart's row
-- bears a mark; and by document 02, 6) whether a group has a cart as its member.
pub record Rows : Type 0 where
  pub carts : ℕ
  pub h : ℕ
  pub l : ℕ
  pub bears : ℕ → ℕ → ℕ → Bool
  pub member : ℕ → ℕ → Bool

-- what every readable floor and plan have
pub record Proper (P : Rows) : Type 0 where
  pub some : 0 < P.carts
  pub lap : P.l < P.h

-- "a U b holds if b does at some moment u, not before t, and a at every moment from t up to u − 1."
abbrev pub Until : (A B : ℕ → Type 0) → ℕ → Type 0
Until A B t = (u : ℕ) × (t ≤ u) × B u × ((w : ℕ) → t ≤ w → w < u → A w)

abbrev pub Always : ℕ → Type 0
Always t = Unit {0}

-- A text at moment t, over what its leaves are there. F a is true U a; G a is !F !a; a R b is !(!a U !b).
module _ {L : Type 0} (Leaf : L → ℕ → Type 0) where
  abbrev pub Holds : Form L → ℕ → Type 0
  Holds top t = Unit {0}
  Holds (leaf x) t = Leaf x t
  Holds (neg a) t = Holds a t → ⊥
  Holds (and a b) t = Holds a t × Holds b t
  Holds (or a b) t = Holds a t ⊎ Holds b t
  Holds (next a) t = Holds a (suc t)
  Holds (until a b) t = Until (λ w. Holds a w) (λ w. Holds b w) t
  Holds (ev a) t = Until Always (λ w. Holds a w) t
  Holds (gl a) t = Until Always (λ w. Holds a w → ⊥) t → ⊥
  Holds (release a b) t = Until (λ w. Holds a w → ⊥) (λ w. Holds b w → ⊥) t → ⊥

-- at least m of the numbers below n have Q
abbrev pub AtLeast : (Q : ℕ → Type 0) → ℕ → ℕ → Type 0
AtLeast Q zero n = Unit {0}
AtLeast Q (suc m) zero = ⊥
AtLeast Q (suc m) (suc n) = (Q n × AtLeast Q m n) ⊎ AtLeast Q (suc m) n

-- A run within d: `at t i` is the counter of cart i at moment t.
pub record Run (carts d : ℕ) : Type 0 where
  pub at : ℕ → ℕ → ℕ
  -- "At moment 0 every counter is 0."
  pub start : (i : ℕ) → i < carts → at 0 i ≡ 0
  -- "In each tick each cart for itself makes one move, its counter growing by 1, or none; all may pause."
  pub tick : (t i : ℕ) → i < carts → (at (suc t) i ≡ at t i) ⊎ (at (suc t) i ≡ suc (at t i))
  -- "After any tick each cart moves again in a later one."
  pub again : (t i : ℕ) → i < carts → (u : ℕ) × (t < u) × (at (suc u) i ≡ suc (at u i))
  -- "At no moment do two counters differ by more than d."
  pub near : (t i j : ℕ) → i < carts → j < carts → at t i ≤ at t j + d

-- "the run in which every cart moves in every tick"
abbrev pub run_in_step : (carts : ℕ) → Run carts 0
run_in_step carts = record {
  at = λ t i. t;
  start = λ i p. refl;
  tick = λ t i p. inr refl;
  again = λ t i p. (suc t, omega arith, refl);
  near = λ t i j p q. omega arith;
}

module _ (P : Rows) where
  -- "at counter v a mark holds if the place on v's step in that cart's row bears it"
  abbrev pub Bears : ℕ → ℕ → ℕ → Type 0
  Bears i k v = T (P.bears i (step_of P.h P.l v) k)

  -- "Inner text goes the same way over one cart's counters": cart i satisfies a at counter v.
  abbrev pub Satisfies : ℕ → Inner → ℕ → Type 0
  Satisfies i a v = Holds (Bears i) a v

  -- the carts that a count is over: all, or "only that group's carts"
  abbrev pub among : Over → ℕ → Bool
  among fleet i = true
  among (group g) i = P.member g i

  -- how many these are: "Percentages and negation use the group's size."
  abbrev pub size : Over → ℕ
  size fleet = P.carts
  size (group g) = tally (P.member g) P.carts

  -- "A count holds if at least its threshold of carts satisfy the inner text at their counters of moment t", of the carts that it is over.
  abbrev pub Counts : (ℕ → ℕ → ℕ) → Counted → ℕ → Type 0
  Counts at (counted a (amount k percent o)) t = AtLeast (λ i. T (among o i) × Satisfies i a (at t i)) (threshold k percent (size o)) P.carts

  abbrev pub TrueAt : (ℕ → ℕ → ℕ) → Clause → ℕ → Type 0
  TrueAt at c t = Holds (Counts at) c t

  -- "A clause is true of the run if it holds at moment 0."
  abbrev pub TrueOf : {d : ℕ} → Run P.carts d → Clause → Type 0
  TrueOf r c = TrueAt r.at c 0

  abbrev pub InStepAt : Clause → ℕ → Type 0
  InStepAt c t = TrueAt (run_in_step P.carts).at c t

  abbrev pub TrueInStep : Clause → Type 0
  TrueInStep c = TrueOf (run_in_step P.carts) c
