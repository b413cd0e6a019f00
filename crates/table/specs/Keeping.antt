-- What stays where the tables of inner text are made.
use Rattle.std.specs.Prelude.{ℕ, suc, ◌+◌, ◌*◌, ◌≤◌, ◌<◌, ◌≡◌, refl, Bool, true, false, cond, List, T, ltb}
use Rattle.std.proofs.Common.{ap, ◌∙◌, arith, suc-mul, mul-le-mul, le_refl, ltb→lt}
use Rattle.mask.specs.Mask.{on}
use Rattle.table.specs.Table.{told, Stored, Kept}
use Rattle.table.specs.Layout.{all_at, none_at, pairs_at, mark_at, Constants, Shown}

pub kept_all : (n : ℕ) (t : List ℕ) → Kept n t t
kept_all n t = record { size = refl; below = λ j q. refl }

pub kept_then : (n m : ℕ) (before between after : List ℕ) → n ≤ m → Kept n before between → Kept m between after → Kept n before after
kept_then n m before between after q r z = record { size = z.size ∙ r.size; below = λ j u. z.below j (omega arith) ∙ r.below j u }

pub stored_keeps : (P : ℕ → ℕ → Type 0) (at h : ℕ) (before after : List ℕ) → Stored P at 0 h before after → Kept at before after
stored_keeps P at h before after r = record { size = r.kept; below = λ j q. r.below j (omega arith) }

-- a table that is kept says what it said
pub kept_told : (n : ℕ) (before after : List ℕ) → Kept n before after → (at h i s : ℕ) → at + h ≤ n → s < h → told after at i s ≡ told before at i s
kept_told n before after r at h i s q z = ap (λ (x : ℕ). on x i) (r.below (at + s) (omega arith))

-- tables do not reach into those behind them
pub table_ends : (h j k : ℕ) → j < k → j * h + h ≤ k * h
table_ends h j k q = omega (arith, suc-mul j h, mul-le-mul {n₁ = suc j} {m₁ = h} {n₂ = k} {m₂ = h} q (le_refl h))

module _ (marks h : ℕ) where
  pub all_ends : all_at marks h + h ≤ pairs_at marks h
  all_ends = table_ends h marks (marks + 2) (omega arith)

  pub none_ends : none_at marks h + h ≤ pairs_at marks h
  none_ends = table_ends h (marks + 1) (marks + 2) (omega arith)

  pub mark_ends : (k : ℕ) → mark_at marks h k + h ≤ pairs_at marks h
  mark_ends k = go (ltb k marks) (ltb→lt k marks)
    where
      go : (b : Bool) → (T b → k < marks) → cond b (k * h) (none_at marks h) + h ≤ pairs_at marks h
      go true f = table_ends h k (marks + 2) (let q = f tt in omega arith)
      go false f = none_ends

  module _ (before after : List ℕ) (r : Kept (pairs_at marks h) before after) where
    pub kept_constants : Constants marks h before → Constants marks h after
    kept_constants c = record {
      room = omega (arith, c.room, r.size);
      all = λ i s p q. kept_told (pairs_at marks h) before after r (all_at marks h) h i s all_ends q ∙ c.all i s p q;
      none = λ i s p q. kept_told (pairs_at marks h) before after r (none_at marks h) h i s none_ends q ∙ c.none i s p q;
    }

    pub kept_shown : (carts : ℕ) (bears : ℕ → ℕ → ℕ → Bool) → Shown marks carts h bears before → Shown marks carts h bears after
    kept_shown carts bears f i s k p q u = kept_told (pairs_at marks h) before after r (mark_at marks h k) h i s (mark_ends k) q ∙ f i s k p q u

-- every block shows what its tables say
pub shown_itself : (marks carts h : ℕ) (t : List ℕ) → Shown marks carts h (λ i s k. told t (mark_at marks h k) i s) t
shown_itself marks carts h t i s k p q u = refl
