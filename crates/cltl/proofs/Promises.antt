-- What is claimed of cLTL+, for any rows with a cart and a lap, any clauses and drifts (of long windows, drifts 0 to 16).
use Rattle.std.specs.Prelude.{ℕ, suc, ◌+◌, ◌*◌, ◌-◌, ◌≤◌, ◌<◌, min, ◌≡◌, Bool, cond, ◌&&◌, ◌||◌, List, [], ◌∷◌, ◌⊎◌, ◌↔◌, T, length}
use Rattle.std.proofs.Math.Path.{refl, ap}
use Rattle.std.proofs.Common.{sym, subst, ◌∙◌, arith}
use Rattle.std.proofs.Math.Bool.{true, false}
use Rattle.cltl.proofs.Globally.{globally_broken}
use Rattle.grammar.specs.Grammar.{top, leaf, neg, and, or, next, until, release, ev, gl, Inner, Over, amount, Counted, counted, Clause}
use Rattle.row.specs.Lasso.{next_step, step_of}
use Rattle.row.specs.Round.{step_low}
use Rattle.cltl.specs.Threshold.{threshold, Nearest, quota}
use Rattle.cltl.specs.Meaning.{Rows, Proper, Until, AtLeast, Run, Satisfies, among, size, Counts, TrueOf, InStepAt, TrueInStep}
use Rattle.cltl.specs.Rules.{judge, leaves, inner, over, asked, count, slack, some_text, uniform, joint, joined, rules, plain_rules, has_next}
use Rattle.cltl.specs.Running.{walk, running_count, rules_read}
use Rattle.cltl.specs.Suffix.{Suffix, TrueOnStep}
use Rattle.cltl.proofs.Lap.{fix_law, reach, forever}
use Rattle.cltl.proofs.Wording.{nearest, none_below_half, count_holds, asks_none}
use Rattle.cltl.proofs.Pace.{until_map}
use Rattle.cltl.proofs.Joint.{Some}
use Rattle.cltl.proofs.JointWording.{total, ask_is_or, ask_or, slack-total, asks_no_cart, mixed_none, plain_kept, joint_holds, EachOver, each_over}
use Rattle.cltl.proofs.Members.{Text, SameCarts, same_size, same_count, same_holds}
use Rattle.cltl.proofs.Inner.{inner_sound, inner_complete}
use Rattle.cltl.proofs.Sound.{rules_sound}
use Rattle.cltl.proofs.Monotone.{rules_mono}
use Rattle.cltl.proofs.Exact.{rules_plain, rules_exact, moment_step}
use Rattle.cltl.proofs.Standing.{gather, gathered, highest}
use Rattle.cltl.specs.Broken.{count_or, Broken}
use Rattle.cltl.proofs.Complete.{count_complete}
use Rattle.cltl.proofs.SuffixTruth.{in_step_later, start_later}
use Rattle.cltl.proofs.AboveDrift.{running_back, running_last, holds_above, rules_read_lem}

---- 'The sheet' and 'Drift rules', in document 01's words; percentages and ors of counts in document 02's.
-- "A percentage becomes a number of carts", "rounded to the nearest cart, a half going up": its threshold is that number and no other
pub percentage : (k N m : ℕ) → (m ≡ threshold k true N) ↔ Nearest k N m
percentage = nearest

-- so it is 0 exactly if the share is less than half a cart
pub below_half : (k N : ℕ) → (threshold k true N ≡ 0) ↔ (2 * (k * N) < 100)
below_half = none_below_half

-- a number is itself
pub plain_number : (k N : ℕ) → threshold k false N ≡ k
unfolding threshold
plain_number k N = refl

-- what the rules with drift d say of a clause at step s
module _ (P : Rows) (d s : ℕ) where
  abbrev Here : Clause → Bool
  Here c = rules P d c s

  -- the step after, and what they say at the step of a counter v
  abbrev after : ℕ
  after = next_step P.h P.l s

  abbrev On : Clause → ℕ → Type 0
  On c v = T (rules P d c (step_of P.h P.l v))

  -- "F a is true U a; G a is !F !a; a R b is !(!a U !b)."
  pub written_out : (a b : Clause)
      → (Here (ev a) ≡ Here (until top a)) × (Here (gl a) ≡ Here (neg (ev (neg a)))) × (Here (release a b) ≡ Here (neg (until (neg a) (neg b))))
  unfolding rules judge leaves joint joined uniform
  written_out a b = (refl, refl, refl)

  -- "Negations outside counts are first driven inward."
  pub inward : (a b : Clause)
      → (Here (neg (neg a)) ≡ Here a) × (Here (neg (and a b)) ≡ Here (or (neg a) (neg b))) × (Here (neg (or a b)) ≡ Here (and (neg a) (neg b)))
      × (Here (neg (next a)) ≡ Here (next (neg a))) × (Here (neg (until a b)) ≡ Here (release (neg a) (neg b)))
      × (Here (neg (release a b)) ≡ Here (until (neg a) (neg b))) × (Here (neg (ev a)) ≡ Here (gl (neg a))) × (Here (neg (gl a)) ≡ Here (ev (neg a)))
  unfolding rules judge leaves joined
  inward a b = (refl, refl, refl, refl, refl, refl, refl, refl)

  -- "Then !`[a,m]` becomes `[!a,N+1−m]`, N being the carts, never below 0."
  -- By document 02 N is the size of the group where the count is over one.
  pub negated_count : (a : Inner) (k : ℕ) (percent : Bool) (o : Over)
      → Here (neg (leaf (counted a (amount k percent o)))) ≡ Here (leaf (counted (neg a) (amount (suc (size P o) - threshold k percent (size P o)) false o)))
  unfolding rules judge count quota threshold inner
  negated_count a k true o = refl
  negated_count a k false o = refl

  -- "`true` holds and its negation doesn't; an and is true if both sides are"
  pub plain_rules_lem : (a b : Clause) → (Here top ≡ true) × (Here (neg top) ≡ false) × (Here (and a b) ≡ (Here a && Here b))
  unfolding rules judge leaves joint joined uniform
  plain_rules_lem a b = (refl, refl, refl)

  -- ".. an or if either is"; and "also" by the joined rule, where its sides, through nested ors, are all counts
  pub or_rule : (a b : Clause) → Here (or a b) ≡ (joint P d (leaves true (or a b)) s || (Here a || Here b))
  unfolding rules judge joined
  or_rule a b = refl

  -- an or with a side that has no counts to join is true only if a side is
  pub mixed_or : (a b : Clause) → (leaves true a ≡ []) ⊎ (leaves true b ≡ []) → Here (or a b) ≡ (Here a || Here b)
  unfolding rules judge joined
  mixed_or a b none = ap (λ (z : Bool). z || (Here a || Here b)) (mixed_none P d s a b none)

  -- a negated count in an or is joined as what it becomes
  pub negated_joined : (a : Inner) (k : ℕ) (percent : Bool) (o : Over) (xs : List (Bool × Counted))
      → joint P d ((false, counted a (amount k percent o)) ∷ xs) s
      ≡ joint P d ((true, counted (neg a) (amount (suc (size P o) - threshold k percent (size P o)) false o)) ∷ xs) s
  unfolding joint uniform slack some_text quota threshold inner judge
  negated_joined a k true o xs = refl
  negated_joined a k false o xs = refl

  -- without joining an or is true if either side is, and whatever is kept so is kept
  pub plain_or : (a b : Clause) → plain_rules P d (or a b) s ≡ (plain_rules P d a s || plain_rules P d b s)
  unfolding plain_rules judge
  plain_or a b = refl

  pub plain_kept_too : (c : Clause) → T (plain_rules P d c s) → T (Here c)
  plain_kept_too c x = plain_kept P d c s x

  -- A threshold of 0 has no 1 to subtract: an or with such a count is true already. Without one the sum of (threshold − 1) is the sum of the thresholds
  -- less the number of counts.
  pub zero_threshold : (c : Clause) → Some (λ x. asked P x ≡ 0) (leaves true c) → T (Here c)
  zero_threshold c z = asks_no_cart P d c s z

  pub sum_of_thresholds : (xs : List (Bool × Counted)) → Some (λ x. asked P x ≡ 0) xs ⊎ (slack P xs + length xs ≡ total P xs)
  sum_of_thresholds xs = slack-total P xs

  -- "With d = 0, X outside counts looks one step on." With d above 0 it is refused before (16).
  pub next_rule : (a : Clause) → Here (next a) ≡ rules P d a after
  unfolding rules judge
  next_rule a = refl

  module _ (proper : Proper P) (low : s < P.h) where
    -- "a count with threshold m is true if at least m carts satisfy the inner text at all of counters s to s + d; with m = 1 also if all N carts satisfy
    -- it at s itself". "then only that group's carts are counted", and "The all-carts case for threshold 1 is used only where the group is the whole fleet".
    pub count_rule : (a : Inner) (k : ℕ) (percent : Bool) (o : Over) → let m = threshold k percent (size P o) in
        T (Here (leaf (counted a (amount k percent o))))
        ↔
        (AtLeast (λ i. T (among P o i) × ((j : ℕ) → j ≤ d → Satisfies P i a (s + j))) m P.carts ⊎
        ((m ≡ 1) × ((i : ℕ) → i < P.carts → T (among P o i)) × ((i : ℕ) → i < P.carts → Satisfies P i a s)))
    count_rule a k percent o = count_holds P proper d s low a k percent o

    -- "more carts than the sum of (threshold − 1) satisfy the or of the inner texts at all of counters s to s + d": at each of them some text,
    -- which need not be the same one at all; and "only if all its counts are over the same carts"
    pub joint_rule : (xs : List (Bool × Counted)) → T (joint P d xs s)
        ↔ (T (uniform P xs) × AtLeast (λ i. (j : ℕ) → j ≤ d → Some (λ x. Text P i x (s + j)) xs) (suc (slack P xs)) P.carts)
    joint_rule xs = joint_holds P proper d s xs

    -- a count that asks for no cart, as a share of less than half a cart does, is true always, and its negation never
    pub no_carts : (a : Inner) (k : ℕ) (percent : Bool) (o : Over) → threshold k percent (size P o) ≡ 0
        → T (Here (leaf (counted a (amount k percent o)))) × (T (Here (neg (leaf (counted a (amount k percent o))))) → ⊥)
    no_carts a k percent o none = asks_none P proper d s low a k percent o none

    module _ (a b : Clause) where
      -- "a U b: b here, or a here and a U b at the step after, with b reached"; "a U b then asks, where b isn't yet true, for "a or b" by this rule
      -- instead of a": b at a counter from s on, and a or b up to there
      pub until_rule : Here (until a b) ≡ (Here b || (Here (or a b) && rules P d (until a b) after))
      unfolding rules judge
      until_rule =
          fix_law P.h P.l proper.lap true _ _ s low ∙ ask_or (joined P d true (or a b) s) (Here a) (Here b) (rules P d (until a b) after)

      pub until_reached : T (Here (until a b)) → Until (On (or a b)) (On b) s
      unfolding rules judge
      until_reached x =
          until_map s (λ w y. ask_is_or (joined P d true (or a b) (step_of P.h P.l w)) (rules P d a (step_of P.h P.l w)) _ y) (λ w y. y)
          (reach P.h P.l proper.lap (λ v. joined P d true (or a b) v || rules P d a v) (λ v. rules P d b v) s (rw (step_low P.h P.l s low) x))

      -- without joining: a itself
      pub plain_until : plain_rules P d (until a b) s ≡ (plain_rules P d b s || (plain_rules P d a s && plain_rules P d (until a b) after))
      unfolding plain_rules judge
      plain_until = fix_law P.h P.l proper.lap true _ _ s low

      -- "a R b: b here, and either a here or a R b at the step after, with no need that a ever comes": b for ever is enough
      pub release_rule : Here (release a b) ≡ (Here b && (Here a || rules P d (release a b) after))
      unfolding rules judge leaves joint joined uniform
      release_rule = fix_law P.h P.l proper.lap false _ _ s low

      pub release_unended : ((u : ℕ) → s ≤ u → On b u) → T (Here (release a b))
      unfolding rules judge leaves joint joined uniform
      release_unended f = rw (step_low P.h P.l s low) at (forever P.h P.l proper.lap (λ v. rules P d a v) (λ v. rules P d b v) P.h s f)

---- 'Counts over a group', in document 02's words; `among P o i` says that cart i is of the fleet or of the group that a count is over.
module _ (P : Rows) where
  -- "The same carts", and "the whole fleet", are sets of carts: groups of the same carts have the same size, and their counts are true together, by the
  -- rules and at every moment of a run
  pub same_carts_size : (o o' : Over) → SameCarts P o o' → size P o ≡ size P o'
  same_carts_size = same_size P

  pub same_carts_rule : Proper P → (d : ℕ) (p : Bool) (a : Inner) (k : ℕ) (percent : Bool) (o o' : Over) → SameCarts P o o' → (s : ℕ) → s < P.h
      → count P d p (counted a (amount k percent o)) s ≡ count P d p (counted a (amount k percent o')) s
  same_carts_rule = same_count P

  pub same_carts_run : (at : ℕ → ℕ → ℕ) (a : Inner) (k : ℕ) (percent : Bool) (o o' : Over) → SameCarts P o o' → (t : ℕ)
      → Counts P at (counted a (amount k percent o)) t ↔ Counts P at (counted a (amount k percent o')) t
  same_carts_run at a k percent o o' e t = (same_holds P at a k percent o o' e t, same_holds P at a k percent o' o (λ i p. sym (e i p)) t)

  -- "only if all its counts are over the same carts": each is over those of the first
  pub uniform_rule : (x : Bool × Counted) (xs : List (Bool × Counted)) → T (uniform P (x ∷ xs)) ↔ EachOver P (over P x) xs
  unfolding uniform
  uniform_rule x xs = each_over P (over P x) xs

---- 'Long windows', in document 02's words: the window read by a running count.
-- "cut off at 17": one more where the text is true, 17 at most, and none where it is not; behind the last step comes the lap's own count. So a step's truth is
-- looked at once by `running_step`, and in the lap once more by `running_lap`
pub running_step : (h l : ℕ) (f : ℕ → Bool) (s : ℕ) → s < h → running_count h l f s ≡ cond (f s) (min 17 (suc (running_count h l f (suc s)))) 0
running_step = running_back

pub running_lap : (h l : ℕ) (f : ℕ → Bool) → running_count h l f h ≡ walk f l (h - l) 17
running_lap = running_last

-- "the text holds at all of counters s to s + d exactly if the count at s is above d": for every drift that a head can hold, at every counter
pub above_drift : (h l : ℕ) → l < h → (f : ℕ → Bool) (d v : ℕ) → d ≤ 16
    → ((j : ℕ) → j ≤ d → T (f (step_of h l (v + j)))) ↔ (d < running_count h l f (step_of h l v))
above_drift = holds_above

-- "all verdicts stay": the rules with every window read so, those of joined ors too, are the rules, at every step, so that 17 names the same one
pub same_verdicts : (P : Rows) → Proper P → (d : ℕ) → d ≤ 16 → (c : Clause) (s : ℕ) → rules_read P d c s ≡ rules P d c s
same_verdicts = rules_read_lem

---- Runs.
-- "A count holds if at least its threshold of carts satisfy the inner text at their counters of moment t": for a
-- percentage, if at least the nearest number of carts do
pub share_holds : (P : Rows) (at : ℕ → ℕ → ℕ) (a : Inner) (k t : ℕ) (o : Over) → Counts P at (counted a (amount k true o)) t
    ↔ ((m : ℕ) × Nearest k (size P o) m × AtLeast (λ i. T (among P o i) × Satisfies P i a (at t i)) m P.carts)
share_holds P at a k t o = (
  λ x. (threshold k true (size P o), (percentage k (size P o) (threshold k true (size P o))).0 refl, x),
  λ x. subst (λ (m : ℕ). AtLeast (λ i. T (among P o i) × Satisfies P i a (at t i)) m P.carts) ((percentage k (size P o) x.0).1 x.1) x.2,
)

module _ (P : Rows) (proper : Proper P) where
  -- inner text on a row is decided exactly, at every counter
  pub inner_exact : (i : ℕ) (a : Inner) (v : ℕ) → T (inner P i true a (step_of P.h P.l v)) ↔ Satisfies P i a v
  inner_exact i a v = (inner_sound P proper i true a v, inner_complete P proper i true a v)

  -- kept with drift d, without "next" outside counts: true of every run within d
  pub runs : (d : ℕ) (c : Clause) → (T (has_next c) → ⊥) → T (rules P d c 0) → (r : Run P.carts d) → TrueOf P r c
  runs d c plain kept r = rules_sound P proper d r c plain kept

  -- kept with every smaller drift as well, at every step
  pub smaller : (d d' : ℕ) → d' ≤ d → (c : Clause) (s : ℕ) → T (rules P d c s) → T (rules P d' c s)
  smaller d d' less c s kept = rules_mono P d d' less c s kept

  -- "Drift 0 gives the old verdicts": those without joining
  pub old_verdicts : (c : Clause) (s : ℕ) → s < P.h → rules P 0 c s ≡ plain_rules P 0 c s
  old_verdicts c s low = rules_plain P proper c s low

  -- without drift exactly what is true in step, at every moment and at moment 0
  pub in_step_at : (c : Clause) (t : ℕ) → T (rules P 0 c (step_of P.h P.l t)) ↔ InStepAt P c t
  in_step_at c t = rules_exact P proper c t

  -- so a moment is as its step is
  pub on_step : (c : Clause) (t : ℕ) → InStepAt P c t ↔ TrueOnStep P t c
  on_step c t = moment_step P proper c t

  pub in_step : (c : Clause) → T (rules P 0 c 0) ↔ TrueInStep P c
  in_step c = rw (step_low P.h P.l 0 (omega (arith, proper.lap))) at (in_step_at c 0)

  -- a count's rule is complete: where it is false, a run within d breaks the count (or, for its negation, keeps it) at a moment when its hindmost
  -- cart is at counter s
  pub complete : (d : ℕ) (p : Bool) (x : Counted) (s : ℕ) → s < P.h → (T (count P d p x s) → ⊥) → Broken P d p x s
  complete d p x s low other = count_complete P proper d p x s low other

  -- with `runs`: a G over one count, or its negation, is kept exactly when it is true of every run within d. Not kept: it is false of one
  pub globally_complete : (d : ℕ) (p : Bool) (x : Counted) → (T (rules P d (gl (count_or p x)) 0) → ⊥)
      → (r : Run P.carts d) × (TrueOf P r (gl (count_or p x)) → ⊥)
  globally_complete d p x other = globally_broken P proper d x p other

-- every standing of spread at most d is reached by a run
pub reached : (carts d : ℕ) (K : ℕ → ℕ) → ((i j : ℕ) → i < carts → j < carts → K i ≤ K j + d)
    → (r : Run carts d) × (t : ℕ) × ((i : ℕ) → i < carts → r.at t i ≡ K i)
reached carts d K spread = (gather carts d K spread, highest K carts, gathered carts d K spread)

---- 'Moving on, added up', in document 02's words: Q goes on where P is after s moves.
module _ (P Q : Rows) (s : ℕ) (later : Suffix P Q s) where
  -- "A clause is true in step at the start of the moved plan exactly when it was true at the step on which counter s stood", "next" and groups included
  pub suffix_start : Proper P → (c : Clause) → TrueInStep Q c ↔ TrueOnStep P s c
  suffix_start proper c = start_later P proper Q s later c

  -- and at each later moment
  pub suffix_moment : (c : Clause) (t : ℕ) → InStepAt Q c t ↔ InStepAt P c (s + t)
  suffix_moment c t = in_step_later P Q s later c t
