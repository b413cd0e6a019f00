-- The hindmost cart of a run: its counter starts at 0, grows by 0 or 1 and without end, and no cart is more than d ahead of it.
use Rattle.std.specs.Prelude.{ℕ, zero, suc, ◌+◌, ◌≤◌, ◌<◌, pred, max, ◌≡◌, ◌⊎◌}
use Rattle.std.proofs.Common.{sym, subst, ⊎_elim, eq-or-lt_of_le, le_refl, le_trans}
use native.Mathlib.Omega.{arith}
use Rattle.std.proofs.Math.Decide.{le_ind}
use Rattle.cltl.specs.Meaning.{Run}
use Rattle.cltl.proofs.Pace.{Pace}
use Rattle.cltl.proofs.Tally.{low, low_le, low_at}

module _ (N d : ℕ) (some : 0 < N) (r : Run N d) where
  unfoldable pub least : ℕ → ℕ
  least t = low (r.at t) (pred N)

  pub least_le : (t i : ℕ) → i < N → least t ≤ r.at t i
  unfolding least
  least_le t i p = low_le (r.at t) (pred N) i (omega arith)

  pub least_at : (t : ℕ) → (i : ℕ) × (i < N) × (r.at t i ≡ least t)
  unfolding least
  least_at t = let x = low_at (r.at t) (pred N) in (x.0, omega arith, x.2)

  tick_up : (t i : ℕ) → i < N → r.at t i ≤ r.at (suc t) i
  tick_up t i p = ⊎_elim (λ e. omega arith) (λ e. omega arith) (r.tick t i p)

  tick_one : (t i : ℕ) → i < N → r.at (suc t) i ≤ suc (r.at t i)
  tick_one t i p = ⊎_elim (λ e. omega arith) (λ e. omega arith) (r.tick t i p)

  later : (i : ℕ) → i < N → (t u : ℕ) → t ≤ u → r.at t i ≤ r.at u i
  later i p t u h = le_ind (λ m. r.at t i ≤ r.at m i) (le_refl (r.at t i)) (λ m _ ih. le_trans ih (tick_up m i p)) u h

  raised : (t n : ℕ) → n ≤ N → (u : ℕ) × (t ≤ u) × ((i : ℕ) → i < n → least t < r.at u i)
  raised t zero h = (t, le_refl t, λ i p. absurd (omega arith))
  raised t (suc n) h =
      let x : (u : ℕ) × (t ≤ u) × ((i : ℕ) → i < n → least t < r.at u i) = raised t n (omega arith) in
      let g = r.again t n h in
      let u : ℕ = max x.0 (suc g.0) in
      let m : least t < r.at u n =
      (let a = least_le t n h in
      let b = later n h t g.0 (omega arith) in
      let c = later n h (suc g.0) u (omega arith) in
      omega arith) in (
        u,
        omega arith,
        λ i p. ⊎_elim (λ e. subst (λ (j : ℕ). least t < r.at u j) (sym e) m)
            (λ q. let a = x.2 i q in let b = later i (omega arith) x.0 u (omega arith) in omega arith)
            (eq-or-lt_of_le {n = i} {m = n} (omega arith)),
      )

  pub least_pace : Pace least
  least_pace = record {
    up = λ t. let x = least_at (suc t) in let a = least_le t x.0 x.1 in let b = tick_up t x.0 x.1 in omega arith;
    one = λ t. let x = least_at t in let a = least_le (suc t) x.0 x.1 in let b = tick_one t x.0 x.1 in omega arith;
    grows = λ t. let g = raised t N (le_refl N) in let x = least_at g.0 in let a = g.2 x.0 x.1 in (g.0, omega arith, omega arith);
  }

  pub least_start : least 0 ≡ 0
  least_start = let x = least_at 0 in let a = r.start x.0 x.1 in omega arith

  pub least_near : (t i : ℕ) → i < N → r.at t i ≤ least t + d
  least_near t i p = let x = least_at t in let a = r.near t i x.0 p x.1 in omega arith
