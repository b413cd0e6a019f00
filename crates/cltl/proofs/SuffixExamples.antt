-- Worked cases of document 02, 7): truth at the step of a counter, and rows that go on where others are.
use Rattle.std.specs.Prelude.{ℕ, ◌+◌, ◌-◌, ◌≡◌, refl, Bool, false, T, eqb}
use Rattle.std.proofs.Common.{arith, sym, ap, subst, ◌∙◌}
use Rattle.std.proofs.Math.Path.{transport}
use Rattle.grammar.specs.Grammar.{leaf, neg, or, next, until, release, ev, gl, Inner, amount, fleet, counted, Clause}
use Rattle.row.specs.Lasso.{next_step, step_of}
use Rattle.row.specs.Round.{step_shift, step_lap}
use Rattle.cltl.specs.Counting.{tally, every}
use Rattle.cltl.specs.Threshold.{threshold, quota}
use Rattle.cltl.specs.Meaning.{Rows, Proper}
use Rattle.cltl.specs.Rules.{fix, window, quorum, judge, leaves, mark, inner, count, slack, some_text, same_carts, all_over, uniform, joint, joined, rules}
use Rattle.cltl.specs.Suffix.{Suffix, TrueOnStep}
use Rattle.cltl.proofs.Exact.{rules_exact}

-- one cart, three steps, the lap from step 1 on; step k bears mk alone
abbrev three : Rows
three = record { carts = 1; h = 3; l = 1; bears = λ i s k. eqb s k; member = λ g i. false }

-- its lap alone
abbrev lap : Rows
lap = record { carts = 1; h = 2; l = 0; bears = λ i s k. eqb (1 + s) k; member = λ g i. false }

proper : Proper three
proper = record { some = omega arith; lap = omega arith }

-- the same two steps with a lap of the last one, with two carts, with a group
abbrev late : Rows
late = record { carts = 1; h = 2; l = 1; bears = λ i s k. eqb (1 + s) k; member = λ g i. false }

abbrev pair : Rows
pair = record { carts = 2; h = 2; l = 0; bears = λ i s k. eqb (1 + s) k; member = λ g i. false }

abbrev grouped : Rows
grouped = record { carts = 1; h = 2; l = 0; bears = λ i s k. eqb (1 + s) k; member = λ g i. eqb g 0 }

-- two carts, and their lap with the second a mark further
abbrev threes : Rows
threes = record { carts = 2; h = 3; l = 1; bears = λ i s k. eqb s k; member = λ g i. false }

abbrev apart : Rows
apart = record { carts = 2; h = 2; l = 0; bears = λ i s k. eqb (1 + s + i) k; member = λ g i. false }

-- `[a,1]` and `[mk,1]`
abbrev one : Inner → Clause
one a = leaf (counted a (amount 1 false fleet))

abbrev on : ℕ → Clause
on k = one (leaf k)

-- the definitions that the table computes with, under one name
computing : ℕ → Clause → Bool
unfolding
    threshold quota tally every fix window quorum next_step step_of leaves judge mark inner count slack some_text same_carts all_over uniform joint joined rules
computing s c = rules three 0 c (step_of 3 1 (step_of 3 1 s))

-- true at the step of counter s, or not, by the rules without drift
yes : (s : ℕ) (c : Clause) → T (rules three 0 c (step_of 3 1 (step_of 3 1 s))) → TrueOnStep three s c
yes s c x = (rules_exact three proper c (step_of 3 1 s)).0 x

no : (s : ℕ) (c : Clause) → rules three 0 c (step_of 3 1 (step_of 3 1 s)) ≡ false → TrueOnStep three s c → ⊥
no s c e x = rw e at ((rules_exact three proper c (step_of 3 1 s)).1 x)

-- the lap goes on where the three steps are after one move, and after a lap more
lap_later : (s : ℕ) → ((v : ℕ) → 1 + step_of 2 0 v ≡ step_of 3 1 (s + v)) → Suffix three lap s
lap_later s e = record { carts = refl; member = λ g i l. refl; bears = λ i k v l. ap (λ (j : ℕ). eqb j k) (e v) }

after_1 : (v : ℕ) → 1 + step_of 2 0 v ≡ step_of 3 1 (1 + v)
after_1 v = step_shift 3 1 1 v (omega arith) (omega arith)

after_3 : (v : ℕ) → 1 + step_of 2 0 v ≡ step_of 3 1 (3 + v)
after_3 v =
    let e : 1 + v + (3 - 1) ≡ 3 + v = omega arith in
    after_1 v ∙ sym (step_lap 3 1 (omega arith) (1 + v) (omega arith)) ∙ ap (step_of 3 1) e

-- and not where the step is another: at its counter 0 it bears m1
not_later : (s : ℕ) → T (eqb (step_of 3 1 (s + 0)) 1) ≡ ⊥ → Suffix three lap s → ⊥
unfolding computing
not_later s e x = transport e (subst T (x.bears 0 1 0 (omega arith)) tt)

-- nor with another lap, another number of carts, another group or other marks of a second cart
pub never : (Suffix three late 1 → ⊥) × (Suffix three pair 1 → ⊥) × (Suffix three grouped 1 → ⊥) × (Suffix threes apart 1 → ⊥)
unfolding computing
never = (
  λ x. subst T (x.bears 0 2 2 (omega arith)) tt,
  λ x. absurd (omega (arith, x.carts)),
  λ x. subst T (x.member 0 0 (omega arith)) tt,
  λ x. subst T (sym (x.bears 1 1 0 (omega arith))) tt,
)

pub worked :
    -- counter 0 is on step 0, 2 on step 2, 3 on step 1 again, 65,535 on step 1
    TrueOnStep three 0 (on 0)
    × TrueOnStep three 2 (on 2)
    × TrueOnStep three 3 (on 1)
    × TrueOnStep three 65535 (on 1)
    -- not what is true at moment 0, nor at the counter's number taken for a step of the lap
    × (TrueOnStep three 2 (on 0) → ⊥)
    × (TrueOnStep three 3 (on 0) → ⊥)
    × (TrueOnStep three 65535 (on 2) → ⊥)
    -- "next" looks one step on, round the lap
    × TrueOnStep three 0 (next (on 1))
    × TrueOnStep three 2 (next (on 1))
    × (TrueOnStep three 2 (next (on 0)) → ⊥)
    -- the run-in does not come again
    × TrueOnStep three 0 (ev (on 0))
    × (TrueOnStep three 1 (ev (on 0)) → ⊥)
    × TrueOnStep three 1 (gl (neg (on 0)))
    × TrueOnStep three 4 (until (on 2) (on 1))
    -- what never comes round the lap is not reached; what need not come does not matter; "next" inside a count
    × (TrueOnStep three 1 (until (or (on 1) (on 2)) (on 0)) → ⊥)
    × TrueOnStep three 1 (release (on 0) (neg (on 0)))
    × (TrueOnStep three 0 (release (on 0) (neg (on 0))) → ⊥)
    × TrueOnStep three 2 (one (next (leaf 1)))
    × (TrueOnStep three 2 (one (next (leaf 0))) → ⊥)
    -- without a move it is the whole
    × Suffix three three 0
    -- the lap alone, after one move or three, and not after none or two
    × Suffix three lap 1
    × Suffix three lap 3
    × (Suffix three lap 0 → ⊥)
    × (Suffix three lap 2 → ⊥)
unfolding computing
worked = (
  yes 0 (on 0) tt,
  yes 2 (on 2) tt,
  yes 3 (on 1) tt,
  yes 65535 (on 1) tt,
  no 2 (on 0) refl,
  no 3 (on 0) refl,
  no 65535 (on 2) refl,
  yes 0 (next (on 1)) tt,
  yes 2 (next (on 1)) tt,
  no 2 (next (on 0)) refl,
  yes 0 (ev (on 0)) tt,
  no 1 (ev (on 0)) refl,
  yes 1 (gl (neg (on 0))) tt,
  yes 4 (until (on 2) (on 1)) tt,
  no 1 (until (or (on 1) (on 2)) (on 0)) refl,
  yes 1 (release (on 0) (neg (on 0))) tt,
  no 0 (release (on 0) (neg (on 0))) refl,
  yes 2 (one (next (leaf 1))) tt,
  no 2 (one (next (leaf 0))) refl,
  record { carts = refl; member = λ g i l. refl; bears = λ i k v l. let e : v ≡ 0 + v = omega arith in ap (λ (w : ℕ). eqb (step_of 3 1 w) k) e },
  lap_later 1 after_1,
  lap_later 3 after_3,
  not_later 0 refl,
  not_later 2 refl,
)
