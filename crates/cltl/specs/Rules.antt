-- The drift rules of document 01 and document 02, 4) and 6), at a step. A flag says what is judged: the text itself (true), or its negation, driven inward
-- (false).
use Rattle.std.specs.Prelude.{ℕ, zero, suc, ◌+◌, ◌-◌, Bool, true, false, not, cond, ◌&&◌, ◌||◌, List, [], ◌∷◌, ◌++◌, leb, ltb, eqb}
use Rattle.grammar.specs.Grammar.{Form, top, leaf, neg, and, or, next, until, release, ev, gl, Inner, Over, amount, Counted, counted, Clause}
use Rattle.row.specs.Lasso.{next_step, step_of}
use Rattle.cltl.specs.Counting.{tally, every}
use Rattle.cltl.specs.Threshold.{threshold, quota}
use Rattle.cltl.specs.Meaning.{Rows, among, size}

-- "and" (true) or "or"
abbrev pub join : Bool → Bool → Bool → Bool
join true x y = x && y
join false x y = x || y

-- two tests that say the same
abbrev pub same : Bool → Bool → Bool
same true y = y
same false y = not y

-- one step of "until" (true) or of "release": a here, b here, and the same at the step after
abbrev pub mix : Bool → Bool → Bool → Bool → Bool
mix true a b rest = b || (a && rest)
mix false a b rest = b && (a || rest)

module _ (h l : ℕ) where
  -- "a U b: b here, or a here and a U b at the step after, with b reached" in fewer than n moves.
  -- "a R b: b here, and either a here or a R b at the step after, with no need that a ever comes", for n moves.
  unfoldable pub fix : Bool → (a b : ℕ → Bool) → ℕ → ℕ → Bool
  fix p a b zero s = not p
  fix p a b (suc n) s = mix p (a s) (b s) (fix p a b n (next_step h l s))

  -- "at all of counters s to s + d"
  unfoldable pub window : (ℕ → Bool) → ℕ → ℕ → Bool
  window f d s = every (λ j. f (step_of h l (s + j))) (suc d)

  -- how many carts satisfy a text at all of them
  abbrev pub throughout : (carts d : ℕ) → (ℕ → ℕ → Bool) → ℕ → ℕ
  throughout carts d f s = tally (λ i. window (f i) d s) carts

  -- "a count with threshold m is true if at least m carts satisfy the inner text at all of counters s to s + d; with m = 1 also if all N carts
  -- satisfy it at s itself"
  unfoldable pub quorum : (carts d m : ℕ) → (ℕ → ℕ → Bool) → ℕ → Bool
  quorum carts d m f s = leb m (throughout carts d f s) || (eqb m 1 && every (λ i. f i s) carts)

  -- The operators, over any rule for the leaves and any rule by which an or "is also true". The flag says which are ors: a | b, and !(a & b);
  -- the rule is to say no of any other node.
  -- "a U b then asks, where b isn't yet true, for "a or b" by this rule instead of a": for a, or for what else makes the or true.
  module _ {L : Type 0} (rule : Bool → L → ℕ → Bool) (also : Bool → Form L → ℕ → Bool) where
    unfoldable pub judge : Bool → Form L → ℕ → Bool
    judge p top s = p
    judge p (leaf x) s = rule p x s
    judge p (neg a) s = judge (not p) a s
    judge p (and a b) s = also p (and a b) s || join p (judge p a s) (judge p b s)
    judge p (or a b) s = also p (or a b) s || join (not p) (judge p a s) (judge p b s)
    judge p (next a) s = judge p a (next_step h l s)
    judge p (until a b) s = fix p (λ s. also p (or a b) s || judge p a s) (λ s. judge p b s) h s
    judge p (release a b) s = fix (not p) (λ s. also p (and a b) s || judge p a s) (λ s. judge p b s) h s
    judge p (ev a) s = fix p (λ s. p) (λ s. judge p a s) h s
    judge p (gl a) s = fix (not p) (λ s. not p) (λ s. judge p a s) h s

-- no or is true but by a side
abbrev pub nothing : {L : Type 0} → Bool → Form L → ℕ → Bool
nothing p c s = false

-- The counts of "an or whose sides, through nested ors, are all counts", each with its flag. A count has itself, and whatever else there is has none.
module _ {L : Type 0} where
  -- of two sides, if both have some
  abbrev pub both : List (Bool × L) → List (Bool × L) → List (Bool × L)
  both [] ys = []
  both (x ∷ xs) [] = []
  both (x ∷ xs) (y ∷ ys) = (x ∷ xs) ++ (y ∷ ys)

  unfoldable pub leaves : Bool → Form L → List (Bool × L)
  leaves p top = []
  leaves p (leaf x) = (p, x) ∷ []
  leaves p (neg a) = leaves (not p) a
  leaves p (and a b) = cond p [] (both (leaves p a) (leaves p b))
  leaves p (or a b) = cond p (both (leaves p a) (leaves p b)) []
  leaves p (next a) = []
  leaves p (until a b) = []
  leaves p (release a b) = []
  leaves p (ev a) = []
  leaves p (gl a) = []

module _ (P : Rows) where
  unfoldable pub mark : ℕ → Bool → ℕ → ℕ → Bool
  mark i true k s = P.bears i s k
  mark i false k s = not (P.bears i s k)

  -- cart i satisfies inner text, or its negation
  unfoldable pub inner : ℕ → Bool → Inner → ℕ → Bool
  inner i p a s = judge P.h P.l (mark i) nothing p a s

  -- a count, or its negation: the carts that it is over, its threshold, and whether cart i is one of them and satisfies its text. No other cart is counted, so
  -- that "all N carts" satisfy it only where these are the whole fleet.
  abbrev pub over : Bool × Counted → Over
  over (p, counted a (amount k percent o)) = o

  abbrev pub asked : Bool × Counted → ℕ
  asked (p, counted a (amount k percent o)) = quota p (threshold k percent (size P o)) (size P o)

  abbrev pub text : ℕ → Bool × Counted → ℕ → Bool
  text i (p, counted a (amount k percent o)) s = among P o i && inner i p a s

  unfoldable pub count : ℕ → Bool → Counted → ℕ → Bool
  count d p x s = quorum P.h P.l P.carts d (asked (p, x)) (λ i. text i (p, x)) s

  -- "the sum of (threshold − 1)"; a count that asks for none is true by itself
  unfoldable pub slack : List (Bool × Counted) → ℕ
  slack [] = 0
  slack (x ∷ xs) = (asked x - 1) + slack xs

  -- "the or of the inner texts"
  unfoldable pub some_text : List (Bool × Counted) → ℕ → ℕ → Bool
  some_text [] i s = false
  some_text (x ∷ xs) i s = text i x s || some_text xs i s

  -- "only if all its counts are over the same carts": there are counts, and each is over the carts of the first
  unfoldable pub same_carts : Over → Over → Bool
  same_carts o o' = every (λ i. same (among P o i) (among P o' i)) P.carts

  unfoldable pub all_over : Over → List (Bool × Counted) → Bool
  all_over o [] = true
  all_over o (x ∷ xs) = same_carts o (over x) && all_over o xs

  unfoldable pub uniform : List (Bool × Counted) → Bool
  uniform [] = false
  uniform (x ∷ xs) = all_over (over x) xs

  -- "An or whose sides, through nested ors, are all counts is also true if more carts than the sum of (threshold − 1) satisfy the or of the inner
  -- texts at all of counters s to s + d." So each or of them, also one inside another.
  unfoldable pub joint : ℕ → List (Bool × Counted) → ℕ → Bool
  joint d xs s = uniform xs && ltb (slack xs) (throughout P.h P.l P.carts d (some_text xs) s)

  unfoldable pub joined : ℕ → Bool → Clause → ℕ → Bool
  joined d p c s = joint d (leaves p c) s

  -- a clause with drift d at a step
  unfoldable pub rules : ℕ → Clause → ℕ → Bool
  rules d c s = judge P.h P.l (count d) (joined d) true c s

  -- the same without joining, as document 01 has it: an or is true only if a side is
  unfoldable pub plain_rules : ℕ → Clause → ℕ → Bool
  plain_rules d c s = judge P.h P.l (count d) nothing true c s

-- X outside a count
abbrev pub has_next : {L : Type 0} → Form L → Bool
has_next top = false
has_next (leaf x) = false
has_next (neg a) = has_next a
has_next (and a b) = has_next a || has_next b
has_next (or a b) = has_next a || has_next b
has_next (next a) = true
has_next (until a b) = has_next a || has_next b
has_next (release a b) = has_next a || has_next b
has_next (ev a) = has_next a
has_next (gl a) = has_next a
