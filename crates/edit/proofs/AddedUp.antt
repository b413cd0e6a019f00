-- A plan is determined by its head and by the places at its counters. So moving on adds up, and moving on by 0 gives the plan back.
use Rattle.std.specs.Prelude.{ℕ, ◌+◌, ◌-◌, ◌<◌, ◌≡◌, List, [], length, get_or}
use Rattle.std.proofs.Common.{arith, sym, ap, ap₂, ◌∙◌, ext_get_or}
use Rattle.floor.specs.declared.Floor.{Floor}
use Rattle.plan.specs.Plan.{PlanNumbers}
use Rattle.plan.specs.Numbers.{head_of}
use Rattle.plan.specs.Valid.{ValidPlan}
use Rattle.plan.specs.declared.Head.{Head}
use Rattle.row.specs.Meaning.{place_at_counter}
use Rattle.row.specs.Round.{pick, step_low}
use Rattle.edit.specs.Moved.{moved_head, moved}
use Rattle.edit.specs.Promises.{cart_place_at}
use Rattle.edit.proofs.Later.{head_early, head_late, drift_stays}
use Rattle.edit.proofs.MovedReads.{place_moved, valid_moved}

-- a row of h steps is determined by its places at all counters
row_determined : (h l : ℕ) (a b : List ℕ) → length a ≡ h → length b ≡ h → ((v : ℕ) → place_at_counter a h l v ≡ place_at_counter b h l v) → a ≡ b
row_determined h l a b p q same =
    ext_get_or 0 a b (p ∙ sym q)
    (λ v low.
    let e = step_low h l v (omega arith) in
    ap (λ (j : ℕ). get_or a j 0) (sym e) ∙ same v ∙ ap (λ (j : ℕ). get_or b j 0) e)

module _ (f : Floor) (p q : PlanNumbers) (v : ValidPlan p f) (w : ValidPlan q f) (heads : p.head ≡ q.head)
    (places : (c i : ℕ) → c < f.carts → cart_place_at p c i ≡ cart_place_at q c i) where
  row_same : (c : ℕ) → c < f.carts → get_or p.rows c [] ≡ get_or q.rows c []
  row_same c l =
      row_determined p.head.steps p.head.stem (get_or p.rows c []) (get_or q.rows c []) (v.steps c l)
      (w.steps c l ∙ ap (λ (h : Head). h.steps) (sym heads))
      (λ i. places c i l ∙ ap (λ (h : Head). place_at_counter (get_or q.rows c []) h.steps h.stem i) (sym heads))

  -- two plans for a floor with one head, and with each cart in the same place at every counter, are one
  plan_determined : p ≡ q
  plan_determined =
      ap₂ (λ (h : Head) (rows : List (List ℕ)). record { head = h; rows = rows }) heads
      (ext_get_or [] p.rows q.rows (v.carts ∙ sym w.carts) (λ c l. row_same c (omega (arith, v.carts))))

-- the lengths: the run-in falls by s, never below 0, and the lap keeps its length
module _ (s : ℕ) (h : Head) (some : h.stem < h.steps) where
  stem_moved : (moved_head s h).stem ≡ h.stem - s
  stem_moved =
      pick h.stem s ((moved_head s h).stem ≡ h.stem - s) (λ p. let e = ap (λ (x : Head). x.stem) (head_late s h p) in omega arith)
      (λ p. ap (λ (x : Head). x.stem) (head_early s h p))

  lap_kept : (moved_head s h).steps ≡ h.stem - s + (h.steps - h.stem)
  lap_kept =
      pick h.stem s ((moved_head s h).steps ≡ h.stem - s + (h.steps - h.stem))
      (λ p. let e = ap (λ (x : Head). x.steps) (head_late s h p) in omega arith)
      (λ p. let e = ap (λ (x : Head). x.steps) (head_early s h p) in omega arith)

head_determined : (g h : Head) → g.steps ≡ h.steps → g.stem ≡ h.stem → g.drift ≡ h.drift → g ≡ h
head_determined g h a b c = ap₂ (λ (x y : ℕ). head_of x y g.drift) a b ∙ ap (head_of h.steps h.stem) c

head_added : (s u : ℕ) (h : Head) → h.stem < h.steps → moved_head u (moved_head s h) ≡ moved_head (s + u) h
head_added s u h some =
    let m = moved_head s h in
    let a = stem_moved s h some in
    let b = lap_kept s h some in
    let low : m.stem < m.steps = omega arith in
    head_determined (moved_head u m) (moved_head (s + u) h) (omega (arith, lap_kept u m low, lap_kept (s + u) h some))
    (omega (arith, stem_moved u m low, stem_moved (s + u) h some)) (drift_stays u m ∙ drift_stays s h ∙ sym (drift_stays (s + u) h))

head_stays : (h : Head) → h.stem < h.steps → moved_head 0 h ≡ h
head_stays h some =
    head_determined (moved_head 0 h) h (omega (arith, lap_kept 0 h some)) (omega (arith, stem_moved 0 h some)) (drift_stays 0 h)

module _ (f : Floor) (p : PlanNumbers) (v : ValidPlan p f) where
  pub moved_added : (s u : ℕ) → moved u (moved s p) ≡ moved (s + u) p
  moved_added s u =
      let w = valid_moved f p v s in
      plan_determined f (moved u (moved s p)) (moved (s + u) p) (valid_moved f (moved s p) w u) (valid_moved f p v (s + u))
      (head_added s u p.head v.head.stem)
      (λ c i l.
      let e : s + (u + i) ≡ s + u + i = omega arith in
      place_moved f (moved s p) w u c i l ∙ place_moved f p v s c (u + i) l ∙ ap (cart_place_at p c) e
      ∙ sym (place_moved f p v (s + u) c i l))

  pub moved_by_0 : moved 0 p ≡ p
  moved_by_0 =
      plan_determined f (moved 0 p) p (valid_moved f p v 0) v (head_stays p.head v.head.stem)
      (λ c i l.
      let e : 0 + i ≡ i = omega arith in
      place_moved f p v 0 c i l ∙ ap (cart_place_at p c) e)
