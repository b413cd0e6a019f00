-- The table of latest counters, column by column.
use Prim.Native.Nat.{ℕ, suc, ◌+◌, ◌<◌}
use native.Mathlib.Omega.{arith}
use native.Mathlib.Numerals.{add-one}
use mathlib.Core.Path.{◌≡◌, sym, ap, subst, ◌∙◌}
use mathlib.Core.List.{List}
use mathlib.Core.Logic.{inl, inr, ⊎_elim}
use lib.ListN.{length, get_or}
use Rattle.row.specs.Lasso.{next_step, step_of}
use Rattle.row.specs.Round.{pick, step_next}
use Rattle.plan.specs.declared.Head.{Head}
use Rattle.conflict.specs.Table.{block_place, counter_place, LatestAbove}
use Rattle.conflict.specs.Columns.{Some, Entered, Between, Last, LastOn, Latest}

module _ (from top : ℕ) (place : ℕ → ℕ → ℕ) where
  pub begun : (last : List ℕ) → length last ≡ 256 → ((p : ℕ) → get_or last p 0 ≡ 0) → Latest from top place 0 last
  begun last e z = record { size = e; each = λ p. inl (z p, λ b. omega (arith, b.until)) }

  -- none of them in the next column either
  none_more : (p u w : ℕ) → (Some from top (λ b. place b w ≡ p) → ⊥) → (Between from top place p u w → ⊥) → Between from top place p u (suc w) → ⊥
  none_more p u w new old b =
      pick b.counter w ⊥ (λ l. old (record { counter = b.counter; since = b.since; until = l; on = b.on }))
      (λ l. let e : b.counter ≡ w = omega (arith, b.until) in new (subst (λ (k : ℕ). Some from top (λ i. place i k ≡ p)) e b.on))

  pub onward : (w mark : ℕ) (before after : List ℕ) → Latest from top place w before → mark ≡ suc w → Entered from top (λ b. place b w) mark before after
      → Latest from top place (suc w) after
  onward w mark before after t e r = record { size = r.kept ∙ t.size; each = λ p. ⊎_elim (λ x. inr (fresh p x)) (λ x. kept p x (t.each p)) (r.each p) }
    where
      fresh : (p : ℕ) → Some from top (λ b. place b w ≡ p) × (get_or after p 0 ≡ mark) → Last from top place p (suc w) (get_or after p 0)
      fresh p x = record { counter = w; is = x.1 ∙ e; below = omega arith; on = x.0; later = λ b. omega (arith, b.since, b.until) }

      kept : (p : ℕ) → (Some from top (λ b. place b w ≡ p) → ⊥) × (get_or after p 0 ≡ get_or before p 0) → LastOn from top place p w (get_or before p 0)
          → LastOn from top place p (suc w) (get_or after p 0)
      kept p x (inl o) = inl (x.1 ∙ o.0, none_more p 0 w x.0 o.1)
      kept p x (inr l) = inr (record {
        counter = l.counter;
        is = x.1 ∙ l.is;
        below = omega (arith, l.below);
        on = l.on;
        later = none_more p (suc l.counter) w x.0 l.later;
      })

module _ (h : Head) (lap : h.stem < h.steps) (v : ℕ) {s n : ℕ} (e : s ≡ step_of h.steps h.stem v) (q : n ≡ next_step h.steps h.stem s) where
  -- the step that follows is that of the next counter
  pub follows : n ≡ step_of h.steps h.stem (suc v)
  follows = q ∙ ap (next_step h.steps h.stem) e ∙ sym (step_next h.steps h.stem lap v)

  pub follows_next : n ≡ step_of h.steps h.stem (v + 1)
  follows_next = follows ∙ ap (step_of h.steps h.stem) (sym (add-one v))

-- the places of carts at a counter are in the column of its step
pub column : (block : List ℕ) (carts : ℕ) (h : Head) (a w s mark : ℕ) (before after : List ℕ) → s ≡ step_of h.steps h.stem w → mark ≡ suc w
    → Entered (a + 1) carts (λ b. block_place block b s) mark before after → LatestAbove block carts h a w before → LatestAbove block carts h a (suc w) after
column block carts h a w s mark before after e m r t =
    onward (suc a) carts (counter_place h block) w mark before after t m
    (subst (λ (n : ℕ). Entered n carts (λ b. counter_place h block b w) mark before after) (add-one a)
    (subst (λ (k : ℕ). Entered (a + 1) carts (λ b. block_place block b k) mark before after) e r))
