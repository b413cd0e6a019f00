-- Worked cases, by computation.
use Rattle.std.specs.Prelude.{ℕ, ◌≡◌, refl, Bool, true, false, ◌||◌, List, [], ◌∷◌, eqb}
use Rattle.mask.specs.Mask.{on, signed}
use Rattle.table.specs.Table.{told}
use Rattle.table.specs.Layout.{all_at, none_at, pairs_at, mark_at}
use Rattle.table.specs.Straight.{straight}

-- two steps: carts 0 and 2, then cart 1
abbrev words : List ℕ
words = 5 ∷ 2 ∷ []

abbrev always : ℕ → Bool
always s = true

abbrev never : ℕ → Bool
never s = false

-- at step 2 alone
abbrev second : ℕ → Bool
second s = eqb s 2

-- the first word's table or its negation, or the second's
abbrev either : Bool → Bool → ℕ → Bool
either p q i = signed p (told words 0 i 0) || signed q (told words 1 i 0)

pub worked : (told words 0 0 0 ≡ true)
    × (told words 0 1 0 ≡ false)
    × (told words 0 2 0 ≡ true)
    -- the cart before the step
    × (told words 0 1 1 ≡ true)
    × (told words 0 0 1 ≡ false)
    -- a table that begins at the second word
    × (told words 1 1 0 ≡ true)
    -- either text is enough, and one of them has to be
    × (either true true 0 ≡ true)
    × (either true true 1 ≡ true)
    × (either true true 3 ≡ false)
    -- each has its own negation, and it is not that of both together
    × (either true false 1 ≡ false)
    × (either true false 3 ≡ true)
    × (either false true 0 ≡ false)
    × (either false true 3 ≡ true)
    × (either false false 0 ≡ true)
    -- two marks, three steps: the marks' tables, that of all, that of none, the places behind them
    × (mark_at 2 3 0 ≡ 0)
    × (mark_at 2 3 1 ≡ 3)
    × (all_at 2 3 ≡ 6)
    × (none_at 2 3 ≡ 9)
    × (mark_at 2 3 2 ≡ 9)
    × (pairs_at 2 3 ≡ 12)
    -- "until": reached within three steps, not within two, unless it is true behind them
    × (straight true always second false 3 0 ≡ true)
    × (straight true always second false 2 0 ≡ false)
    × (straight true always second true 2 0 ≡ true)
    × (straight true never second true 2 0 ≡ false)
    × (straight true never second false 1 2 ≡ true)
    -- "release": with no need of a, as long as it is true behind
    × (straight false never always true 3 0 ≡ true)
    × (straight false never always false 3 0 ≡ false)
    × (straight false second always false 3 0 ≡ true)
    × (straight false always never true 1 0 ≡ false)
unfolding on straight
worked = (
  refl,
  refl,
  refl,
  refl,
  refl,
  refl,
  refl,
  refl,
  refl,
  refl,
  refl,
  refl,
  refl,
  refl,
  refl,
  refl,
  refl,
  refl,
  refl,
  refl,
  refl,
  refl,
  refl,
  refl,
  refl,
  refl,
  refl,
  refl,
  refl,
)
