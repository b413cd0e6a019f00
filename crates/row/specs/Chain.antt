-- Lanes linked by the place that they leave, so that a move is judged by those lanes alone.
use Rattle.std.specs.Prelude.{ℕ, suc, ◌≤◌, ◌<◌, ◌≡◌, List, [], length, get_or}

-- the place that a lane leaves
abbrev pub leaves : List (List ℕ) → ℕ → ℕ
leaves lanes j = get_or (get_or lanes j []) 0 0

-- no lane from j on and below i leaves place a
abbrev pub Free : List (List ℕ) → ℕ → ℕ → ℕ → Type 0
Free lanes a j i = (m : ℕ) → j ≤ m → m < i → leaves lanes m ≡ a → ⊥

-- a link is 0, or one more than a lane's number: from this link on, the chain has all lanes from j on that leave place a, in order
pub data Leads (lanes : List (List ℕ)) (next : List ℕ) (a : ℕ) : ℕ → ℕ → Type 0 where
  end : {j : ℕ} → Free lanes a j (length lanes) → Leads lanes next a 0 j
  link : {j i : ℕ} → j ≤ i → i < length lanes → leaves lanes i ≡ a → Free lanes a j i → Leads lanes next a (get_or next i 0) (suc i)
      → Leads lanes next a (suc i) j

-- the links of all places, over the lanes from j on
abbrev pub Chained : List (List ℕ) → List ℕ → List ℕ → ℕ → Type 0
Chained lanes first next j = (a : ℕ) → a < 256 → Leads lanes next a (get_or first a 0) j
