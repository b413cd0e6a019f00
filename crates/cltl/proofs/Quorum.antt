-- What the rule for a count says, over any truth of the carts at their steps.
use Rattle.std.specs.Prelude.{ℕ, zero, suc, ◌+◌, ◌-◌, ◌≤◌, ◌<◌, ◌≡◌, ◌&&◌, ◌⊎◌, T, leb}
use Rattle.std.proofs.Math.Path.{refl, ap}
use Rattle.std.proofs.Common.{sym, subst, ◌∙◌, eqb→eq}
use Rattle.std.proofs.Math.Bool.{Bool, true, false}
use Rattle.std.proofs.Math.Logic.{inl, inr, ⊎_elim}
use native.Mathlib.Omega.{arith}
use Rattle.std.proofs.Math.Dec.{eqb, leb→le, le→leb}
use Rattle.std.specs.Float.Ieee.Fits.{eq→eqb}
use Rattle.row.specs.Lasso.{next_step, step_of}
use Rattle.row.specs.Round.{step_low, step_below, step_next}
use Rattle.cltl.specs.Counting.{tally, every}
use Rattle.cltl.specs.Rules.{window, throughout, quorum}
use Rattle.cltl.proofs.Basics.{and_l, and_r, and_i, or_l, or_r, or_cases, join_mono}
use Rattle.cltl.proofs.Tally.{every_at, every_of, every_agrees, tally_mono, tally_all}

module _ (h l : ℕ) where
  -- counting on from a counter's step is counting on from the counter
  pub step_on : l < h → (v j : ℕ) → step_of h l (step_of h l v + j) ≡ step_of h l (v + j)
  step_on ok v zero =
      let e : step_of h l v + 0 ≡ step_of h l v = omega arith in
      let e' : v + 0 ≡ v = omega arith in
      ap (step_of h l) e ∙ step_low h l (step_of h l v) (step_below h l ok v) ∙ ap (step_of h l) (sym e')
  step_on ok v (suc j) =
      let e : step_of h l v + suc j ≡ suc (step_of h l v + j) = omega arith in
      let e' : v + suc j ≡ suc (v + j) = omega arith in
      ap (step_of h l) e ∙ step_next h l ok (step_of h l v + j) ∙ ap (next_step h l) (step_on ok v j) ∙ sym (step_next h l ok (v + j)) ∙ ap (step_of h l) (sym e')

  pub window_at : (f : ℕ → Bool) (d s j : ℕ) → j ≤ d → T (window h l f d s) → T (f (step_of h l (s + j)))
  unfolding window
  window_at f d s j q x = every_at (λ j. f (step_of h l (s + j))) (suc d) j (omega arith) x

  -- at a counter v, up to d further on
  pub window_from : (f : ℕ → Bool) (d v u : ℕ) → l < h → v ≤ u → u ≤ v + d → T (window h l f d (step_of h l v)) → T (f (step_of h l u))
  window_from f d v u ok p q x =
      let e : v + (u - v) ≡ u = omega arith in
      subst (λ (s : ℕ). T (f s)) (step_on ok v (u - v) ∙ ap (step_of h l) e) (window_at f d (step_of h l v) (u - v) (omega arith) x)

  pub window_of : (f : ℕ → Bool) (d s : ℕ) → ((j : ℕ) → j ≤ d → T (f (step_of h l (s + j)))) → T (window h l f d s)
  unfolding window
  window_of f d s x = every_of (λ j. f (step_of h l (s + j))) (suc d) (λ j q. x j (omega arith))

  -- only the steps below h count
  pub window_cong : l < h → (f g : ℕ → Bool) → ((s : ℕ) → s < h → f s ≡ g s) → (d s : ℕ) → window h l f d s ≡ window h l g d s
  unfolding window
  window_cong ok f g e d s = every_agrees _ _ (suc d) (λ j _. e (step_of h l (s + j)) (step_below h l ok (s + j)))

  window_mono : (f : ℕ → Bool) (d d' s : ℕ) → d' ≤ d → T (window h l f d s) → T (window h l f d' s)
  window_mono f d d' s q x = window_of f d' s (λ j r. window_at f d s j (omega arith) x)

  -- without drift only the step itself
  pub window_none : (f : ℕ → Bool) (s : ℕ) → s < h → window h l f 0 s ≡ f s
  unfolding window every
  window_none f s q =
      let e : s + 0 ≡ s = omega arith in
      let e' : step_of h l (s + 0) ≡ s = ap (step_of h l) e ∙ step_low h l s q in
      and-true (f (step_of h l (s + 0))) ∙ ap f e'
    where
      and-true : (b : Bool) → (b && true) ≡ b
      and-true true = refl
      and-true false = refl

  pub throughout_mono : (carts : ℕ) (f : ℕ → ℕ → Bool) (d d' s : ℕ) → d' ≤ d → throughout h l carts d f s ≤ throughout h l carts d' f s
  throughout_mono carts f d d' s q = tally_mono _ _ carts (λ i _. window_mono (f i) d d' s q)

  pub throughout_none : (carts : ℕ) (f : ℕ → ℕ → Bool) (s : ℕ) → s < h → throughout h l carts 0 f s ≤ tally (λ i. f i s) carts
  throughout_none carts f s q = tally_mono _ _ carts (λ i _ x. subst T (window_none (f i) s q) x)

  module _ (carts m : ℕ) (f : ℕ → ℕ → Bool) where
    abbrev along : ℕ → ℕ → ℕ
    along d s = throughout h l carts d f s

    pub quorum_cases : (d s : ℕ) → T (quorum h l carts d m f s) → (m ≤ along d s) ⊎ ((m ≡ 1) × ((i : ℕ) → i < carts → T (f i s)))
    unfolding quorum
    quorum_cases d s y =
        let all : Bool = every (λ i. f i s) carts in
        ⊎_elim (λ z. inl (leb→le m _ z)) (λ z. inr (eqb→eq m 1 (and_l (eqb m 1) all z), λ i h. every_at (λ i. f i s) carts i h (and_r (eqb m 1) all z)))
        (or_cases (leb m (along d s)) (eqb m 1 && all) y)

    pub quorum_mono : (d d' s : ℕ) → d' ≤ d → T (quorum h l carts d m f s) → T (quorum h l carts d' m f s)
    unfolding quorum
    quorum_mono d d' s q y =
        let all : Bool = eqb m 1 && every (λ i. f i s) carts in
        join_mono false (leb m (along d s)) (leb m (along d' s)) all all
        (λ z. let a = leb→le m (along d s) z in let b = throughout_mono carts f d d' s q in le→leb m (along d' s) (omega arith))
        (λ z. z) y

    pub throughout_quorum : (d s : ℕ) → m ≤ along d s → T (quorum h l carts d m f s)
    unfolding quorum
    throughout_quorum d s q = or_l (leb m (along d s)) _ (le→leb _ _ q)

    pub all_quorum : (d s : ℕ) → m ≡ 1 → ((i : ℕ) → i < carts → T (f i s)) → T (quorum h l carts d m f s)
    unfolding quorum
    all_quorum d s e x =
        let all : Bool = every (λ i. f i s) carts in
        or_r (leb m (along d s)) (eqb m 1 && all) (and_i (eqb m 1) all (eq→eqb e) (every_of (λ i. f i s) carts x))

    -- without drift: at least m carts at the step
    pub quorum_none : (s : ℕ) → 0 < carts → T (quorum h l carts 0 m f s) → s < h → m ≤ tally (λ i. f i s) carts
    quorum_none s some y q =
        let e = throughout_none carts f s q in
        ⊎_elim (λ z. omega arith) (λ z. let e = tally_all (λ i. f i s) carts z.1 in omega arith) (quorum_cases 0 s y)

    pub none_quorum : (s : ℕ) → s < h → m ≤ tally (λ i. f i s) carts → T (quorum h l carts 0 m f s)
    none_quorum s q y =
        let e : tally (λ i. f i s) carts ≤ along 0 s = tally_mono _ _ carts (λ i _ x. subst T (sym (window_none (f i) s q)) x) in
        throughout_quorum 0 s (omega arith)
