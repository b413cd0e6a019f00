-- Document 02, 5): windows read by a running count.
use Rattle.std.specs.Prelude.{ℕ, zero, suc, ◌-◌, min, Bool, true, false, ◌&&◌, ◌||◌, List, leb, ltb, eqb}
use Rattle.grammar.specs.Grammar.{Counted, Clause}
use Rattle.row.specs.Lasso.{step_of}
use Rattle.cltl.specs.Meaning.{Rows}
use Rattle.cltl.specs.Counting.{tally, every}
use Rattle.cltl.specs.Rules.{judge, leaves, asked, text, slack, some_text, uniform}

-- "A running count, cut off at 17, of how many counters in a row .. keep an inner text true": one counter further back
abbrev pub back : Bool → ℕ → ℕ
back true c = min 17 (suc c)
back false c = 0

-- ".. kept while walking the row backwards": over n steps, of which s is the first, from the count behind them
unfoldable pub walk : (ℕ → Bool) → (s n c : ℕ) → ℕ
walk f s zero c = c
walk f s (suc n) c = back (f s) (walk f (suc s) n c)

module _ (h l : ℕ) (f : ℕ → Bool) where
  -- ".. through the lap": first over the lap alone, for the count from l on. Begun with 17: where the text fails in the lap, what was behind is forgotten; where
  -- it nowhere does, the lap comes again for ever, and 17 is left.
  unfoldable pub lap_count : ℕ
  lap_count = walk f l (h - l) 17

  -- Then from step h − 1 back to step s. "each step's truth is looked at at most twice for a row": one of the lap twice, one of the run-in once.
  unfoldable pub running_count : ℕ → ℕ
  running_count s = walk f s (h - s) lap_count

-- the drift rules as they are read: wherever a window stands in them, "the count at s is above d"
module _ (P : Rows) (d : ℕ) where
  -- how many carts' counts are above d, at the step of counter s
  abbrev pub throughout_read : (ℕ → ℕ → Bool) → ℕ → ℕ
  throughout_read f s = tally (λ i. ltb d (running_count P.h P.l (f i) (step_of P.h P.l s))) P.carts

  unfoldable pub count_read : Bool → Counted → ℕ → Bool
  count_read p x s = leb (asked P (p, x)) (throughout_read (λ i. text P i (p, x)) s) || (eqb (asked P (p, x)) 1 && every (λ i. text P i (p, x) s) P.carts)

  unfoldable pub joint_read : List (Bool × Counted) → ℕ → Bool
  joint_read xs s = uniform P xs && ltb (slack P xs) (throughout_read (some_text P xs) s)

  unfoldable pub rules_read : Clause → ℕ → Bool
  rules_read c s = judge P.h P.l count_read (λ p c. joint_read (leaves p c)) true c s
