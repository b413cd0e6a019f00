-- Where the tables of a check lie in their one block: one for each mark below `marks`, one of all carts at every step, one of none, and behind them
-- the places for those of inner text, in pairs.
use Rattle.std.specs.Prelude.{ℕ, ◌+◌, ◌*◌, ◌≤◌, ◌<◌, ◌≡◌, Bool, true, false, cond, List, ltb, length}
use Rattle.table.specs.Table.{told}

module _ (marks h : ℕ) where
  abbrev pub all_at : ℕ
  all_at = marks * h

  abbrev pub none_at : ℕ
  none_at = (marks + 1) * h

  abbrev pub pairs_at : ℕ
  pairs_at = (marks + 2) * h

  -- a mark above the highest that is borne has the table of none
  abbrev pub mark_at : ℕ → ℕ
  mark_at k = cond (ltb k marks) (k * h) none_at

-- a block with its two constant tables
pub record Constants (marks h : ℕ) (t : List ℕ) : Type 0 where
  pub room : pairs_at marks h ≤ length t
  pub all : (i s : ℕ) → i < 32 → s < h → told t (all_at marks h) i s ≡ true
  pub none : (i s : ℕ) → i < 32 → s < h → told t (none_at marks h) i s ≡ false

-- a block shows what the carts bear: cart i has mark k at step s exactly if bears i s k
abbrev pub Shown : (marks carts h : ℕ) → (ℕ → ℕ → ℕ → Bool) → List ℕ → Type 0
Shown marks carts h bears t = (i s k : ℕ) → i < carts → s < h → k < 32 → told t (mark_at marks h k) i s ≡ bears i s k
