-- A cart's counters in order: what holds before each turn.
use Prim.Native.Nat.{ℕ, zero, suc, ◌+◌, ◌≤◌, ◌<◌}
use native.Mathlib.Omega.{arith}
use mathlib.Core.Path.{◌≡◌, refl, sym, ap, subst, ◌∙◌}
use mathlib.Core.Bool.{Bool, true, false}
use mathlib.Core.List.{List}
use lib.ListN.{get_or, replicate}
use Rattle.row.specs.Lasso.{next_step, step_of}
use Rattle.row.specs.Round.{pick, step_low, step_below}
use Rattle.plan.specs.declared.Head.{Head}
use Rattle.conflict.specs.Meaning.{Routes}
use Rattle.conflict.specs.Table.{block_place, table_routes, LatestAbove}
use Rattle.conflict.specs.Columns.{Decides, Entered}
use Rattle.conflict.specs.Above.{Above, FirstAbove}
use Rattle.conflict.proofs.Deciding.{if_true, if_false}
use Rattle.conflict.proofs.Tracking.{follows, follows_next, column}

pub zeros : (n p : ℕ) → ◌≡◌ {A = ℕ} (get_or (replicate n 0) p 0) 0
zeros zero p = refl
zeros (suc n) zero = refl
zeros (suc n) (suc p) = zeros n p

-- counters below v are done, the table has the columns below v + d, and both counters' steps are at hand
pub record Searching (bays block : List ℕ) (carts : ℕ) (h : Head) (a : ℕ) (last : List ℕ) (sw sv v : ℕ) : Type 0 where
  pub lap : h.stem < h.steps
  pub within : v ≤ h.steps + h.drift
  pub here : sv ≡ step_of h.steps h.stem v
  pub ahead : sw ≡ step_of h.steps h.stem (v + h.drift)
  pub latest : LatestAbove block carts h a (v + h.drift) last
  pub none : (u : ℕ) → u < v → Above (table_routes bays carts h block) h.drift a u → ⊥

pub begun : {bays block : List ℕ} {carts : ℕ} {h : Head} {a : ℕ} (last : List ℕ) (sw : ℕ) → h.stem < h.steps
    → sw ≡ step_of h.steps h.stem h.drift → LatestAbove block carts h a h.drift last → Searching bays block carts h a last sw 0 0
begun {bays} {block} {carts} {h} {a} last sw lap e t =
    let z : h.drift ≡ 0 + h.drift = omega arith in
    record {
      lap = lap;
      within = omega arith;
      here = sym (step_low h.steps h.stem 0 (omega arith));
      ahead = e ∙ ap (step_of h.steps h.stem) z;
      latest = subst (λ (n : ℕ). LatestAbove block carts h a n last) z t;
      none = λ u p. absurd (omega arith);
    }

module _ {bays block : List ℕ} {carts : ℕ} {h : Head} {a : ℕ} {last : List ℕ} {sw sv v : ℕ} (w : Searching bays block carts h a last sw sv v) where
  abbrev P : Routes
  P = table_routes bays carts h block

  abbrev d : ℕ
  d = h.drift

  pub low : (sv < h.steps) × (sw < h.steps)
  low =
      let i = step_below h.steps h.stem w.lap v in
      let j = step_below h.steps h.stem w.lap (v + d) in
      (omega (arith, w.here), omega (arith, w.ahead))

  -- the column of counter v + d entered
  pub entered : (mark : ℕ) (after : List ℕ) → mark ≡ v + d + 1 → Entered (a + 1) carts (λ b. block_place block b sw) mark last after
      → LatestAbove block carts h a (suc (v + d)) after
  entered mark after m r = column block carts h a (v + d) sw mark last after w.ahead (omega arith) r w.latest

  module _ (t : Bool) (e : Decides (Above P d a v) t) where
    pub stopped : t ≡ true → FirstAbove P d a sv
    stopped y = record { counter = v; step = w.here; above = if_true (Above P d a v) t e y; before = w.none }

    none_more : t ≡ false → (u : ℕ) → u < v + 1 → Above P d a u → ⊥
    none_more y u l =
        pick u v (Above P d a u → ⊥) (w.none u)
        (λ k. let same : v ≡ u = omega arith in subst (λ (n : ℕ). Above P d a n → ⊥) same (if_false (Above P d a v) t e y))

    pub onward : t ≡ false → v < h.steps + h.drift → (after : List ℕ) (nw nv : ℕ) → LatestAbove block carts h a (suc (v + d)) after
        → nw ≡ next_step h.steps h.stem sw → nv ≡ next_step h.steps h.stem sv → Searching bays block carts h a after nw nv (v + 1)
    onward y more after nw nv latest p q =
        let z : suc (v + d) ≡ v + 1 + d = omega arith in
        record {
          lap = w.lap;
          within = omega arith;
          here = follows_next h w.lap v w.here q;
          ahead = follows h w.lap (v + d) w.ahead p ∙ ap (step_of h.steps h.stem) z;
          latest = subst (λ (n : ℕ). LatestAbove block carts h a n after) z latest;
          none = none_more y;
        }

  pub cleared : h.steps + h.drift ≤ v → (u : ℕ) → u < h.steps + h.drift → Above P d a u → ⊥
  cleared p u q = w.none u (omega arith)
