-- Four carts' words at once, 64 words a cart in one block: a step's words are turned so that the four bits of a mark stand side by side.
use Rattle.std.specs.Prelude.{ℕ, ◌+◌, ◌*◌, ◌%◌, ◌≤◌, ◌<◌, ◌≡◌, Bool, List, get_or, length}
use Rattle.mask.specs.Mask.{on}

-- the words of the first n carts are stored, word s of cart c with P c s; every other word is left alone
pub record Gathered (P : ℕ → ℕ → ℕ → Type 0) (n h : ℕ) (before after : List ℕ) : Type 0 where
  pub kept : length after ≡ length before
  pub each : (c s : ℕ) → c < n → s < h → P c s (get_or after (c * 64 + s) 0)
  pub later : (j : ℕ) → h ≤ j % 64 → get_or after j 0 ≡ get_or before j 0
  pub beyond : (j : ℕ) → n * 64 ≤ j → get_or after j 0 ≡ get_or before j 0

-- the bits of x four by four, each by the number j of the first of its four
abbrev pub Fours : (f₀ f₁ f₂ f₃ : ℕ → Bool) → ℕ → Type 0
Fours f₀ f₁ f₂ f₃ x = (m : ℕ) → m < 8
    → (on x (4 * m) ≡ f₀ (4 * m)) × (on x (4 * m + 1) ≡ f₁ (4 * m)) × (on x (4 * m + 2) ≡ f₂ (4 * m)) × (on x (4 * m + 3) ≡ f₃ (4 * m))

-- bit 4 m + c of step s's word r is bit 4 m + r of its word c: what the four carts have of mark 4 m + r
abbrev pub Turned : (before after : List ℕ) → ℕ → Type 0
Turned before after s = (r c m : ℕ) → r < 4 → c < 4 → m < 8 → on (get_or after (r * 64 + s) 0) (4 * m + c) ≡ on (get_or before (c * 64 + s) 0) (4 * m + r)

-- the words of the steps from one number up to another are turned; every other word is left alone
pub record Packed (from to : ℕ) (before after : List ℕ) : Type 0 where
  pub kept : length after ≡ length before
  pub each : (s : ℕ) → from ≤ s → s < to → Turned before after s
  pub below : (j : ℕ) → j % 64 < from → get_or after j 0 ≡ get_or before j 0
  pub above : (j : ℕ) → to ≤ j % 64 → get_or after j 0 ≡ get_or before j 0
