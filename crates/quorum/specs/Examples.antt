-- Worked cases, by computation.
use Rattle.std.specs.Prelude.{ℕ, ◌≡◌, refl, Bool, true, false, List, [], ◌∷◌, leb}
use Rattle.row.specs.Lasso.{step_of}
use Rattle.cltl.specs.Counting.{tally, every}
use Rattle.cltl.specs.Rules.{window, throughout, quorum}
use Rattle.cltl.specs.Running.{walk, lap_count, running_count}
use Rattle.mask.specs.Mask.{on, signed}
use Rattle.table.specs.Table.{told}
use Rattle.quorum.specs.Words.{has}

-- Three steps of two carts behind a word of something else: carts 0 and 1, cart 0, carts 0 and 1. The lap begins at step 1. Bit 2 is no cart's.
abbrev table : List ℕ
table = 0 ∷ 7 ∷ 5 ∷ 7 ∷ []

-- both carts at step 0 alone
abbrev once : List ℕ
once = 0 ∷ 3 ∷ 0 ∷ 0 ∷ []

-- cart 0, then cart 1, then cart 0
abbrev by_turns : List ℕ
by_turns = 0 ∷ 1 ∷ 2 ∷ 1 ∷ []

-- the text of each cart, or its negation
abbrev text : List ℕ → Bool → ℕ → ℕ → Bool
text t p i s = signed p (told t 1 i s)

-- the rule for a count, and enough carts all along
abbrev counts : (d m : ℕ) → Bool → ℕ → Bool
counts d m p s = quorum 3 1 2 d m (text table p) s

abbrev along : List ℕ → (d m : ℕ) → ℕ → Bool
along t d m s = leb m (throughout 3 1 2 d (told t 1) s)

-- how many carts all along, step by step
abbrev tallies : ℕ → Bool → List ℕ
tallies d p = throughout 3 1 2 d (text table p) 0 ∷ throughout 3 1 2 d (text table p) 1 ∷ throughout 3 1 2 d (text table p) 2 ∷ []

-- the words of the steps
abbrev words : List ℕ
words = 3 ∷ 1 ∷ 3 ∷ []

-- the definitions that the table computes with, under one name
computing : (d m : ℕ) → Bool → ℕ → Bool
unfolding on tally every step_of window quorum walk lap_count running_count
computing d m p s = counts d m p s

pub worked :
    -- both carts at step 0, and cart 0 alone along two counters
    (counts 0 2 true 0 ≡ true)
    × (counts 1 1 true 0 ≡ true)
    × (counts 1 2 true 0 ≡ false)
    -- after the last step comes step 1, where cart 1 has it not
    × (counts 1 1 true 2 ≡ true)
    × (counts 1 2 true 2 ≡ false)
    -- what is no cart does not count
    × (counts 0 3 true 0 ≡ false)
    -- the negation is true of cart 1 at step 1 alone
    × (counts 0 1 false 1 ≡ true)
    × (counts 0 1 false 2 ≡ false)
    × (counts 1 1 false 1 ≡ false)
    -- a threshold of 0 is always reached
    × (counts 1 0 false 1 ≡ true)
    -- both carts at step 0 alone are a count with threshold 1, and yet no cart has it along two counters
    × (quorum 3 1 2 1 1 (text once true) 0 ≡ true)
    × (along once 1 1 0 ≡ false)
    × (along once 0 2 0 ≡ true)
    -- it has to be the same cart all along
    × (along by_turns 1 1 0 ≡ false)
    -- as many as the threshold are enough, one less is not
    × (along table 1 1 0 ≡ true)
    × (along table 1 2 0 ≡ false)
    × (along table 1 1 2 ≡ true)
    × (along table 1 2 2 ≡ false)
    × (along table 0 3 0 ≡ false)
    -- the tallies: of the text with drift 0 and 1, and of its negation, true of cart 1 at step 1 alone
    × (tallies 0 true ≡ (2 ∷ 1 ∷ 2 ∷ []))
    × (tallies 1 true ≡ (1 ∷ 1 ∷ 1 ∷ []))
    × (tallies 0 false ≡ (0 ∷ 1 ∷ 0 ∷ []))
    × (tallies 1 false ≡ (0 ∷ 0 ∷ 0 ∷ []))
    -- the counts by which they are read: cart 0 has its bit for ever, cart 1 not at step 1; at steps 0 and 2 its count is above 0 and not above 1
    × (running_count 3 1 (has words 0) 1 ≡ 17)
    × (running_count 3 1 (has words 1) 1 ≡ 0)
    × (running_count 3 1 (has words 1) 0 ≡ 1)
    × (running_count 3 1 (has words 1) 2 ≡ 1)
unfolding computing
worked =
    (refl, refl, refl, refl, refl, refl, refl, refl, refl, refl, refl, refl, refl, refl, refl, refl, refl, refl, refl, refl, refl, refl, refl, refl, refl, refl, refl)
