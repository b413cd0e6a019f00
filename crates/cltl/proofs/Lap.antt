-- Until and release round the lap.
use Prim.Native.Nat.{ℕ, zero, suc, ◌+◌, ◌-◌, ◌≤◌, ◌<◌}
use Rattle.std.specs.Prelude.{◌≡◌, Bool, true, false, not, ◌||◌, ◌⊎◌, T}
use Rattle.std.proofs.Math.Path.{refl}
use Rattle.std.proofs.Common.{sym, subst, ap, ◌∙◌, eq-or-lt_of_le, le_refl}
use Rattle.std.proofs.Math.Bool.{not-not}
use Rattle.std.proofs.Math.Logic.{⊎_elim}
use native.Mathlib.Omega.{arith}
use Rattle.row.specs.Lasso.{next_step, step_of}
use Rattle.row.specs.Round.{step_low, step_next, step_lap, next_below}
use Rattle.cltl.specs.Meaning.{Until}
use Rattle.cltl.specs.Rules.{join, mix, fix}
use Rattle.cltl.proofs.Pace.{until_here, until_later}
use Rattle.cltl.proofs.Basics.{lt_or_le, bool_ext, and_i, or_l, or_r, or_cases, and_l, and_r, mix_mono, mix-not, mix_absorb}

module _ (h l : ℕ) where
  -- more is true of more
  pub fix_mono : (p : Bool) (a b a' b' : ℕ → Bool) → ((s : ℕ) → T (a s) → T (a' s)) → ((s : ℕ) → T (b s) → T (b' s)) → (n s : ℕ)
      → T (fix h l p a b n s) → T (fix h l p a' b' n s)
  unfolding fix
  fix_mono p a b a' b' f g zero s x = x
  fix_mono p a b a' b' f g (suc n) s x =
      let t : ℕ = next_step h l s in
      mix_mono p (a s) (a' s) (b s) (b' s) (fix h l p a b n t) (fix h l p a' b' n t) (f s) (g s) (fix_mono p a b a' b' f g n t) x

  module _ (ok : l < h) where
    -- each is the other's negation
    pub fix-not : (p : Bool) (a b a' b' : ℕ → Bool) → ((s : ℕ) → s < h → a' s ≡ not (a s)) → ((s : ℕ) → s < h → b' s ≡ not (b s)) → (n s : ℕ) → s < h
        → fix h l (not p) a' b' n s ≡ not (fix h l p a b n s)
    unfolding fix
    fix-not p a b a' b' f g zero s q = refl
    fix-not p a b a' b' f g (suc n) s q =
        let t : ℕ = next_step h l s in
        rw (f s q, g s q, fix-not p a b a' b' f g n t (next_below h l ok s)) (mix-not p (a s) (b s) (fix h l p a b n t))

    -- what is ever reached from v on is reached before e, if e leaves room for a lap after v and after the run-in
    abbrev Near : (ℕ → Type 0) → ℕ → ℕ → ℕ → Type 0
    Near B v e u = (x : ℕ) × (v ≤ x) × (x ≤ u) × (x < e) × B x

    near : (B : ℕ → Type 0) → ((v : ℕ) → l ≤ v → B (v + (h - l)) → B v) → (v e : ℕ) → v + (h - l) ≤ e → h ≤ e → (n u : ℕ) → v ≤ u → u ≤ v + n → B u
        → Near B v e u
    near B back v e r₁ r₂ zero u p q y = (u, p, le_refl u, omega arith, y)
    near B back v e r₁ r₂ (suc n) u p q y =
        ⊎_elim (λ r. (u, p, le_refl u, r, y))
        (λ r.
        let e' : u ≡ (u - (h - l)) + (h - l) = omega arith in
        let z = near B back v e r₁ r₂ n (u - (h - l)) (omega arith) (omega arith) (back (u - (h - l)) (omega arith) (subst B e' y)) in
        (z.0, z.1, omega arith, z.3, z.4))
        (lt_or_le u e)

    module _ (a b : ℕ → Bool) where
      abbrev pub At : (ℕ → Bool) → ℕ → Type 0
      At f v = T (f (step_of h l v))

      within : (n v : ℕ) → T (fix h l true a b n (step_of h l v)) → Until (At a) (At b) v
      unfolding fix
      within zero v t = absurd t
      within (suc n) v t =
          ⊎_elim (λ tb. until_here v tb)
          (λ r. until_later v (and_l (a (step_of h l v)) _ r) (within n (suc v) (rw (step_next h l ok) (and_r (a (step_of h l v)) _ r))))
          (or_cases (b (step_of h l v)) _ t)

      -- true: b is reached
      pub reach : (v : ℕ) → T (fix h l true a b h (step_of h l v)) → Until (At a) (At b) v
      reach v t = within h v t

      stays_not : (n v u : ℕ) → T (fix h l false a b n (step_of h l v)) → v ≤ u → u < v + n → (At b u → ⊥) → ((w : ℕ) → v ≤ w → w < u → At a w → ⊥) → ⊥
      unfolding fix
      stays_not zero v u t p q nb na = omega arith
      stays_not (suc n) v u t p q nb na =
          ⊎_elim (λ e. nb (subst (At b) e (and_l (b (step_of h l v)) _ t)))
          (λ e.
          ⊎_elim (λ x. na v (le_refl v) e x)
          (λ x. stays_not n (suc v) u (rw (step_next h l ok) x) e (omega arith) nb (λ w y z. na w (omega arith) z))
          (or_cases (a (step_of h l v)) _ (and_r (b (step_of h l v)) _ t)))
          (eq-or-lt_of_le p)

      -- b is kept, over unending time, up to where a comes
      pub kept : (v : ℕ) → T (fix h l false a b h (step_of h l v)) → Until (λ w. At a w → ⊥) (λ w. At b w → ⊥) v → ⊥
      kept v t u =
          let r =
          near (λ w. At b w → ⊥) (λ w p x. subst (λ (s : ℕ). T (b s) → ⊥) (step_lap h l ok w p) x) v (v + h) (omega arith) (omega arith)
          (u.0 - v) u.0 u.1 (omega arith) u.2 in
          stays_not h v r.0 t r.1 r.3 r.4 (λ w p q. u.3 w p (omega arith))

      -- b for ever is enough, with no need of a
      pub forever : (n v : ℕ) → ((u : ℕ) → v ≤ u → At b u) → T (fix h l false a b n (step_of h l v))
      unfolding fix
      forever zero v f = tt
      forever (suc n) v f =
          and_i (b (step_of h l v)) _ (f v (le_refl v)) (or_r (a (step_of h l v)) _ (rw (step_next h l ok) at (forever n (suc v) (λ u q. f u (omega arith)))))

      found : (n v u : ℕ) → v ≤ u → u < v + n → At b u → ((w : ℕ) → v ≤ w → w < u → At a w) → T (fix h l true a b n (step_of h l v))
      unfolding fix
      found zero v u p q y z = absurd (omega arith)
      found (suc n) v u p q y z =
          ⊎_elim (λ e. or_l (b (step_of h l v)) _ (subst (At b) (sym e) y))
          (λ e. or_r (b (step_of h l v)) _ (and_i (a (step_of h l v)) _ (z v (le_refl v) e)
          (rw (step_next h l ok) at (found n (suc v) u e (omega arith) y (λ w p' q'. z w (omega arith) q')))))
          (eq-or-lt_of_le p)

      -- more moves than to the end and once round the lap make no difference
      found_near : (v n : ℕ) → v + (h - l) ≤ v + n → h ≤ v + n → Until (At a) (At b) v → T (fix h l true a b n (step_of h l v))
      found_near v n r₁ r₂ u =
          let r = near (At b) (λ w p x. subst (λ (s : ℕ). T (b s)) (step_lap h l ok w p) x) v (v + n) r₁ r₂ (u.0 - v) u.0 u.1 (omega arith) u.2 in
          found n v r.0 r.1 r.3 r.4 (λ w p q. u.3 w p (omega arith))

      same_true : (s n m : ℕ) → s < h → s + (h - l) ≤ s + n → h ≤ s + n → s + (h - l) ≤ s + m → h ≤ s + m → fix h l true a b n s ≡ fix h l true a b m s
      same_true s n m p n₁ n₂ m₁ m₂ =
          bool_ext _ _
          (λ x. rw (step_low h l) at (found_near s m m₁ m₂ (within n s (rw (step_low h l) x))))
          (λ x. rw (step_low h l) at (found_near s n n₁ n₂ (within m s (rw (step_low h l) x))))

    same : (p : Bool) (a b : ℕ → Bool) (s n m : ℕ) → s < h → s + (h - l) ≤ s + n → h ≤ s + n → s + (h - l) ≤ s + m → h ≤ s + m
        → fix h l p a b n s ≡ fix h l p a b m s
    same true a b s n m q n₁ n₂ m₁ m₂ = same_true a b s n m q n₁ n₂ m₁ m₂
    same false a b s n m q n₁ n₂ m₁ m₂ =
        let f : (n : ℕ) → fix h l false a b n s ≡ not (fix h l true (λ s. not (a s)) (λ s. not (b s)) n s) =
        (λ n. fix-not true (λ s. not (a s)) (λ s. not (b s)) a b (λ s _. sym (not-not (a s))) (λ s _. sym (not-not (b s))) n s q) in
        f n ∙ ap not (same_true (λ s. not (a s)) (λ s. not (b s)) s n m q n₁ n₂ m₁ m₂) ∙ sym (f m)

    -- to the end and once round the lap is enough
    pub enough : (p : Bool) (a b : ℕ → Bool) (s : ℕ) → s < h → fix h l p a b ((h - s) + (h - l)) s ≡ fix h l p a b h s
    enough p a b s q = same p a b s ((h - s) + (h - l)) h q (omega arith) (omega arith) (omega arith) (omega arith)

    -- from the lap's first step once round is enough
    pub once : (p : Bool) (a b : ℕ → Bool) → fix h l p a b (h - l) l ≡ fix h l p a b h l
    once p a b = same p a b l (h - l) h ok (omega arith) (omega arith) (omega arith) (omega arith)

    -- the rule as it is told: b here, or a here and the same at the step after (and its dual)
    pub fix_law : (p : Bool) (a b : ℕ → Bool) (s : ℕ) → s < h → fix h l p a b h s ≡ mix p (a s) (b s) (fix h l p a b h (next_step h l s))
    unfolding fix
    fix_law p a b s q = same p a b s h (suc h) q (omega arith) (omega arith) (omega arith) (omega arith)

    -- only the steps below h count
    pub fix_cong : (p : Bool) (a b a' b' : ℕ → Bool) → ((s : ℕ) → s < h → a s ≡ a' s) → ((s : ℕ) → s < h → b s ≡ b' s) → (n s : ℕ) → s < h
        → fix h l p a b n s ≡ fix h l p a' b' n s
    unfolding fix
    fix_cong p a b a' b' f g zero s q = refl
    fix_cong p a b a' b' f g (suc n) s q = rw (f s q, g s q, fix_cong p a b a' b' f g n (next_step h l s) (next_below h l ok s))

    -- a further truth makes no difference where until has a or b already, and release a and b
    pub fix_absorb : (p : Bool) (z a b : ℕ → Bool) → ((s : ℕ) → s < h → T (z s) → T (join (not p) (a s) (b s))) → (n s : ℕ) → s < h
        → fix h l p (λ s. z s || a s) b n s ≡ fix h l p a b n s
    unfolding fix
    fix_absorb p z a b f zero s q = refl
    fix_absorb p z a b f (suc n) s q =
        let t : ℕ = next_step h l s in
        rw (fix_absorb p z a b f n t (next_below h l ok s)) (mix_absorb p (z s) (a s) (b s) (fix h l p a b n t) (f s q))
