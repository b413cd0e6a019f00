-- Counters go round the lasso step after step.
use Rattle.std.specs.Prelude.{ℕ, suc, ◌+◌, ◌-◌, ◌%◌, ◌≤◌, ◌<◌, ◌≡◌, refl, Bool, true, false, ltb}
use Rattle.std.proofs.Math.Nat.{suc-mod, mod_self, add-mod_right}
use Rattle.std.proofs.Common.{mod-lt, mod-eq_of_lt, arith, sym, ap₂, ◌∙◌, lt-ltb, le-ltb, ltb-true, ltb-false}
use Rattle.std.proofs.Math.Path.{ap}
use Rattle.std.proofs.Math.Bool.{cond}
use Rattle.row.specs.Lasso.{next_step, step_of}

-- below or not
pub pick : (a b : ℕ) (P : Type 0) → (a < b → P) → (b ≤ a → P) → P
pick a b P f g = go (ltb a b) refl
  where
    go : (t : Bool) → ltb a b ≡ t → P
    go true e = f (ltb-true a b e)
    go false e = g (ltb-false a b e)

module _ (h l : ℕ) where
  pub step_low : (v : ℕ) → v < h → step_of h l v ≡ v
  unfolding step_of
  step_low v p = ap (λ (b : Bool). cond b v (l + (v - l) % (h - l))) (lt-ltb v h p)

  step_high : (v : ℕ) → h ≤ v → step_of h l v ≡ l + (v - l) % (h - l)
  unfolding step_of
  step_high v p = ap (λ (b : Bool). cond b v (l + (v - l) % (h - l))) (le-ltb v h p)

  pub next_low : (s : ℕ) → suc s < h → next_step h l s ≡ suc s
  unfolding next_step
  next_low s p = ap (λ (b : Bool). cond b (suc s) l) (lt-ltb (suc s) h p)

  pub next_last : (s : ℕ) → h ≤ suc s → next_step h l s ≡ l
  unfolding next_step
  next_last s p = ap (λ (b : Bool). cond b (suc s) l) (le-ltb (suc s) h p)

  module _ (some : l < h) where
    pub next_below : (s : ℕ) → next_step h l s < h
    next_below s = pick (suc s) h (next_step h l s < h) (λ p. omega (arith, next_low s p)) (λ p. omega (arith, next_last s p))

    -- a counter is always on a step
    pub step_below : (v : ℕ) → step_of h l v < h
    step_below v =
        pick v h (step_of h l v < h) (λ p. omega (arith, step_low v p))
        (λ p. let m : (v - l) % (h - l) < h - l = mod-lt (v - l) (omega arith) in omega (arith, step_high v p))

    -- round the lap
    around : (r : ℕ) → r < h - l → l + suc r % (h - l) ≡ next_step h l (l + r)
    around r p = pick (suc r) (h - l) (l + suc r % (h - l) ≡ next_step h l (l + r)) inside wrap
      where
        inside : suc r < h - l → l + suc r % (h - l) ≡ next_step h l (l + r)
        inside q =
            let m : suc r % (h - l) ≡ suc r = mod-eq_of_lt q in
            let n : next_step h l (l + r) ≡ suc (l + r) = next_low (l + r) (omega arith) in
            omega arith

        wrap : h - l ≤ suc r → l + suc r % (h - l) ≡ next_step h l (l + r)
        wrap q =
            let e : suc r ≡ h - l = omega arith in
            let z : suc r % (h - l) ≡ 0 = ap (λ (x : ℕ). x % (h - l)) e ∙ mod_self (h - l) in
            let n : next_step h l (l + r) ≡ l = next_last (l + r) (omega arith) in
            omega arith

    -- the next step of v's step is the step of v + 1
    pub step_next : (v : ℕ) → step_of h l (suc v) ≡ next_step h l (step_of h l v)
    step_next v = pick v h (step_of h l (suc v) ≡ next_step h l (step_of h l v)) low high
      where
        low : v < h → step_of h l (suc v) ≡ next_step h l (step_of h l v)
        low p =
            pick (suc v) h (step_of h l (suc v) ≡ next_step h l (step_of h l v))
            (λ q. step_low (suc v) q ∙ sym (next_low v q) ∙ ap (next_step h l) (sym (step_low v p)))
            (λ q.
            let e : suc v - l ≡ h - l = omega arith in
            let z : (suc v - l) % (h - l) ≡ 0 = ap (λ (x : ℕ). x % (h - l)) e ∙ mod_self (h - l) in
            let a = step_high (suc v) q in
            let b = ap (next_step h l) (step_low v p) ∙ next_last v q in
            omega arith)

        high : h ≤ v → step_of h l (suc v) ≡ next_step h l (step_of h l v)
        high p =
            let e : suc v - l ≡ suc (v - l) = omega arith in
            step_high (suc v) (omega arith) ∙ ap (λ (x : ℕ). l + x % (h - l)) e
            ∙ ap (λ (x : ℕ). l + x) (suc-mod (v - l) (h - l)) ∙ around ((v - l) % (h - l)) (mod-lt (v - l) (omega arith))
            ∙ ap (next_step h l) (sym (step_high v p))

    -- in the lap's reach the step is counted from the lap's first on
    pub step_from : (v : ℕ) → l ≤ v → step_of h l v ≡ l + (v - l) % (h - l)
    step_from v p =
        pick v h (step_of h l v ≡ l + (v - l) % (h - l))
        (λ q. let m : (v - l) % (h - l) ≡ v - l = mod-eq_of_lt {n = v - l} {m = h - l} (omega arith) in omega (arith, step_low v q)) (step_high v)

    -- a lap later it is the same step
    pub step_lap : (v : ℕ) → l ≤ v → step_of h l (v + (h - l)) ≡ step_of h l v
    step_lap v p =
        let e : v + (h - l) - l ≡ (v - l) + (h - l) = omega arith in
        step_from (v + (h - l)) (omega arith) ∙ ap (λ (x : ℕ). l + x % (h - l)) e ∙ ap (λ (x : ℕ). l + x) (add-mod_right (v - l) (h - l)) ∙ sym (step_from v p)

-- with the first s steps of the run-in gone
pub step_shift : (h l s v : ℕ) → l < h → s ≤ l → s + step_of (h - s) (l - s) v ≡ step_of h l (s + v)
step_shift h l s v some p =
    pick v (h - s) (s + step_of (h - s) (l - s) v ≡ step_of h l (s + v))
    (λ q. omega (arith, step_low (h - s) (l - s) v q, step_low h l (s + v) (omega arith)))
    (λ q.
    let a : v - (l - s) ≡ s + v - l = omega arith in
    let b : h - s - (l - s) ≡ h - l = omega arith in
    let e : (v - (l - s)) % (h - s - (l - s)) ≡ (s + v - l) % (h - l) = ap₂ (λ (x y : ℕ). x % y) a b in
    omega (arith, step_high (h - s) (l - s) v q, step_high h l (s + v) (omega arith)))
