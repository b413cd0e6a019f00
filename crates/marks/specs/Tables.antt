-- The tables of the marks, each h words, mark k's from k h on.
use Rattle.std.specs.Prelude.{ℕ, ◌+◌, ◌*◌, ◌/◌, ◌%◌, ◌^◌, ◌≤◌, ◌<◌, ◌≡◌, List, get_or, length}
use Rattle.mask.specs.Mask.{Row}
use Rattle.table.specs.Layout.{pairs_at, Constants, Shown}
use Rattle.marks.specs.Bears.{marks_of, block_place, bearing}

-- each word s of the table at an offset has P s
abbrev pub Each : (P : ℕ → ℕ → Type 0) → (at h : ℕ) → List ℕ → Type 0
Each P at h t = (s : ℕ) → s < h → P s (get_or t (at + s) 0)

-- each word s of the table of each mark k below n has P k s
abbrev pub Holds : (P : ℕ → ℕ → ℕ → Type 0) → (n h : ℕ) → List ℕ → Type 0
Holds P n h t = (k : ℕ) → k < n → Each (P k) (k * h) h t

-- the tables of the marks below n are stored with P; every word behind them is left alone
pub record Tables (P : ℕ → ℕ → ℕ → Type 0) (n h : ℕ) (before after : List ℕ) : Type 0 where
  pub kept : length after ≡ length before
  pub each : Holds P n h after
  pub beyond : (j : ℕ) → n * h ≤ j → get_or after j 0 ≡ get_or before j 0

-- no cart's bit
abbrev pub Empty : ℕ → ℕ → ℕ → Type 0
Empty k s x = x ≡ 0

-- a word with room for four bits more
abbrev pub Room : ℕ → ℕ → ℕ → Type 0
Room k s x = x < 2 ^ 28

-- the word of a step: the marks of its place
abbrev pub WordAt : List ℕ → List ℕ → ℕ → ℕ → ℕ → Type 0
WordAt floor block i s x = x ≡ marks_of floor (block_place block i s)

-- a table's word moved up by four, with mark k's four bits below, out of words turned
abbrev pub MovedUp : List ℕ → ℕ → List ℕ → ℕ → ℕ → ℕ → Type 0
MovedUp t h words k s x = x ≡ get_or t (k * h + s) 0 * 16 + get_or words (k % 4 * 64 + s) 0 / 2 ^ (k / 4 * 4) % 16

-- the carts that bear mark k at step s, and no other bit
abbrev pub Bearers : List ℕ → List ℕ → ℕ → ℕ → ℕ → ℕ → Type 0
Bearers floor block carts k s x = Row carts x (λ i. bearing floor block i s k)

-- the tables of a plan: what lies behind them is left alone
pub record Filled (floor block : List ℕ) (carts h marks : ℕ) (before after : List ℕ) : Type 0 where
  pub kept : length after ≡ length before
  pub constants : Constants marks h after
  pub shown : Shown marks carts h (bearing floor block) after
  -- no bit beyond the carts
  pub low : Holds (λ k s x. x < 2 ^ carts) marks h after
  pub beyond : (j : ℕ) → pairs_at marks h ≤ j → get_or after j 0 ≡ get_or before j 0
