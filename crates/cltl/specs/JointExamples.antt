-- Worked cases of document 02, 4), by computation: either table will do.
use Rattle.std.specs.Prelude.{ℕ, ◌+◌, ◌≡◌, refl, Bool, true, false, cond, ◌&&◌, length, eqb, leb}
use Rattle.grammar.specs.Grammar.{top, leaf, neg, and, or, next, until, release, ev, gl, amount, fleet, counted, Clause}
use Rattle.row.specs.Lasso.{next_step, step_of}
use Rattle.cltl.specs.Threshold.{threshold, quota}
use Rattle.cltl.specs.Meaning.{Rows}
use Rattle.cltl.specs.Counting.{tally, every}
use Rattle.cltl.specs.Rules.{fix, window, quorum, judge, leaves, mark, inner, count, slack, some_text, same_carts, all_over, uniform, joint, joined, rules, plain_rules}
use Rattle.cltl.specs.Step.{lowest, failing}

-- "Three carts carry marks as in example 3 of source document 002: one always m1, one m1 once and then m2, one always m2"; from step 2 on none has a mark
abbrev tables : (h l : ℕ) → Rows
tables h l = record { carts = 3; h = h; l = l; bears = λ i s k. leb s 1 && eqb k (cond (leb (i + s) 1) 1 2); member = λ g i. false }

-- two carts, at step 0 the one on m1 and the other on m2, and then on neither
abbrev once : Rows
once = record { carts = 2; h = 2; l = 1; bears = λ i s k. eqb s 0 && eqb k (i + 1); member = λ g i. false }

-- `[mk,m]`; m3 is nowhere
abbrev at_least : ℕ → ℕ → Clause
at_least k m = leaf (counted (leaf k) (amount m false fleet))

abbrev a : Clause
a = at_least 1 2

abbrev b : Clause
b = at_least 2 2

abbrev hopeless : Clause
hopeless = at_least 3 3

-- whether a clause is kept on example 3's rows with drift d, and without joining
abbrev kept : ℕ → Clause → Bool
kept d c = rules (tables 2 1) d c 0

abbrev before : ℕ → Clause → Bool
before d c = plain_rules (tables 2 1) d c 0

-- how many counts of a clause, or of its negation, there are to join
abbrev counts : Bool → Clause → ℕ
counts p c = length (leaves p c)

-- the definitions that the table computes with, under one name
computing : Rows → ℕ → Clause → Bool × Bool × ℕ
unfolding threshold quota tally every fix window quorum next_step step_of leaves judge mark inner count slack some_text same_carts all_over uniform joint joined rules plain_rules lowest failing
computing P d c = (rules P d c 0, plain_rules P d c 0, failing P d c)

pub worked :
    -- "With drift 1, `[m1,2] | [m2,2]` is true in every run, yet it is refused."
    (before 1 (or a b) ≡ false)
    × (kept 1 (or a b) ≡ true)
    -- neither side is
    × (kept 1 a ≡ false)
    × (kept 1 b ≡ false)
    -- "more carts than the sum of (threshold − 1)": three are not more than three
    × (kept 1 (or a (at_least 2 3)) ≡ false)
    -- "Drift 0 gives the old verdicts."
    × (kept 0 (or a b) ≡ true)
    × (kept 0 (or (at_least 1 3) b) ≡ false)
    × (before 0 (or (at_least 1 3) b) ≡ false)
    -- an or after negations are driven inward: !(!a & !b), and with !!
    × (kept 1 (neg (and (neg a) (neg b))) ≡ true)
    × (kept 1 (or (neg (neg a)) b) ≡ true)
    -- !(a & b) asks for [!m1,2] or [!m2,2]: a cart has at most one of the marks, so all three satisfy the or
    × (kept 1 (neg (and a b)) ≡ true)
    × (before 1 (neg (and a b)) ≡ false)
    -- of a negated count the text and the threshold are the negation's: [m1,2] or [!m2,2], of which the second cart has neither at once; [!m1,3] or
    -- [!m2,2]; and with a third step without marks, where all have both negations
    × (kept 1 (or a (neg b)) ≡ false)
    × (kept 1 (neg (and (at_least 1 1) b)) ≡ false)
    × (rules (tables 3 2) 2 (neg (and a b)) 0 ≡ true)
    -- a share is a threshold like any other
    × (kept 1 (or (leaf (counted (leaf 1) (amount 67 true fleet))) b) ≡ true)
    -- a written or under one negation is an and
    × (kept 1 (neg (or a b)) ≡ false)
    × (kept 1 (and a b) ≡ false)
    -- nested ors keep their own joined rule, and neither are flattened nor split anew
    × (kept 1 (or (or a b) hopeless) ≡ true)
    × (kept 1 (or a (or b hopeless)) ≡ false)
    × (kept 1 (or (or a hopeless) b) ≡ false)
    × (kept 1 (or (or hopeless a) b) ≡ false)
    -- "are all counts": `true`, its negation, and what has another operator are none
    × (kept 1 (or (neg top) (or a b)) ≡ true)
    × (kept 1 (or (or (neg top) a) b) ≡ false)
    × (kept 1 (or a (ev (at_least 3 3))) ≡ false)
    × (counts true (or a (or b hopeless)) ≡ 3)
    × (counts true (or a (and b b)) ≡ 0)
    × (counts true (or a (neg (and b b))) ≡ 3)
    × (counts false (or a b) ≡ 0)
    × (counts false (and a b) ≡ 2)
    × (counts true (or a top) ≡ 0)
    × (counts true (or a (gl b)) ≡ 0)
    × (counts true (or a (ev b)) ≡ 0)
    × (counts true (or a (next b)) ≡ 0)
    × (counts true (or a (until b b)) ≡ 0)
    × (counts true (or a (release b b)) ≡ 0)
    × (counts false (and a (gl b)) ≡ 0)
    × (counts false (and a (release b b)) ≡ 0)
    -- a threshold of 0 is reached by itself
    × (kept 1 (or (at_least 3 0) (at_least 3 4)) ≡ true)
    -- all carts at the step itself are no part of it: two carts on m1 or m2 at step 0, and then on neither
    × (rules once 1 (or (at_least 1 1) (at_least 2 1)) 0 ≡ false)
    × (rules once 0 (or (at_least 1 1) (at_least 2 1)) 0 ≡ true)
    -- "a U b then asks, where b isn't yet true, for "a or b" by this rule instead of a": at step 1 b is true
    × (before 1 (until a b) ≡ false)
    × (kept 1 (until a b) ≡ true)
    × (kept 1 (neg (release (neg a) (neg b))) ≡ true)
    × (kept 1 (until (or a (at_least 3 1)) b) ≡ true)
    -- b is still to be reached: where the lap is both steps, "a or b" is always true, and b never
    × (rules (tables 2 0) 1 (gl (or a b)) 0 ≡ true)
    × (rules (tables 2 0) 1 (until a b) 0 ≡ false)
    -- R asks for its left side as before: its right side at every step up to where the left is, and here the left is nowhere
    × (rules (tables 3 2) 1 (release (at_least 3 1) (or a b)) 0 ≡ false)
    × (rules (tables 3 2) 1 (neg (until (neg (at_least 3 1)) (neg (or a b)))) 0 ≡ false)
    × (kept 1 (release a (or a b)) ≡ true)
    × (rules (tables 3 2) 1 (release a (or a b)) 0 ≡ false)
    × (kept 1 (neg (until (neg a) (neg b))) ≡ false)
    -- the step of a G that fails is by the new truth of its body: with a third step without marks it is step 1, where it was step 0
    × (rules (tables 3 2) 1 (gl (or a b)) 0 ≡ false)
    × (failing (tables 3 2) 1 (gl (or a b)) ≡ 1)
    × (failing (tables 3 2) 1 (gl a) ≡ 0)
    -- with drift 2 the third step is in the window
    × (rules (tables 3 2) 1 (or a b) 0 ≡ true)
    × (rules (tables 3 2) 2 (or a b) 0 ≡ false)
unfolding computing
worked = (
  refl,
  refl,
  refl,
  refl,
  refl,
  refl,
  refl,
  refl,
  refl,
  refl,
  refl,
  refl,
  refl,
  refl,
  refl,
  refl,
  refl,
  refl,
  refl,
  refl,
  refl,
  refl,
  refl,
  refl,
  refl,
  refl,
  refl,
  refl,
  refl,
  refl,
  refl,
  refl,
  refl,
  refl,
  refl,
  refl,
  refl,
  refl,
  refl,
  refl,
  refl,
  refl,
  refl,
  refl,
  refl,
  refl,
  refl,
  refl,
  refl,
  refl,
  refl,
  refl,
  refl,
  refl,
  refl,
  refl,
  refl,
)
