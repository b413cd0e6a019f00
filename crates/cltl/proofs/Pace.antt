-- A pace: numbers that grow by 0 or 1 and without end. "Until" over the numbers that it passes is "until" over its moments.
use Rattle.std.specs.Prelude.{ℕ, zero, suc, ◌+◌, ◌-◌, ◌≤◌, ◌<◌, ◌≡◌, ◌⊎◌}
use Rattle.std.proofs.Common.{sym, ap, subst, ⊎_elim, arith, eq-or-lt_of_le, le_refl, le_trans}
use Rattle.std.proofs.Math.Decide.{le_ind}
use Rattle.cltl.specs.Meaning.{Until}
use Rattle.cltl.proofs.Basics.{lt_or_le}

pub until_map : {A B A' B' : ℕ → Type 0} (t : ℕ) → ((w : ℕ) → A w → A' w) → ((w : ℕ) → B w → B' w) → Until A B t → Until A' B' t
until_map t f g h = (h.0, h.1, g h.0 h.2, λ w p q. f w (h.3 w p q))

pub until_here : {A B : ℕ → Type 0} (t : ℕ) → B t → Until A B t
until_here t b = (t, le_refl t, b, λ w p q. absurd (omega arith))

pub until_later : {A B : ℕ → Type 0} (t : ℕ) → A t → Until A B (suc t) → Until A B t
until_later {A} {B} t a h = (h.0, omega arith, h.2, λ w p q. ⊎_elim (λ e. subst A e a) (λ e. h.3 w e q) (eq-or-lt_of_le p))

-- "a or b" up to where b comes: a up to where b comes first
either_within : {A B : ℕ → Type 0} (n t u : ℕ) → t ≤ u → u ≤ t + n → B u → ((w : ℕ) → t ≤ w → w < u → A w ⊎ B w) → Until A B t
either_within {A} {B} zero t u p q b f = let e : u ≡ t = omega arith in until_here t (subst B e b)
either_within {A} {B} (suc n) t u p q b f =
    ⊎_elim (λ e. until_here t (subst B (sym e) b))
    (λ e. ⊎_elim (λ a. until_later t a (either_within n (suc t) u e (omega arith) b (λ w x y. f w (omega arith) y))) (λ z. until_here t z) (f t (le_refl t) e))
    (eq-or-lt_of_le p)

pub until_either : {A B : ℕ → Type 0} {t : ℕ} → Until (λ w. A w ⊎ B w) B t → Until A B t
until_either {A} {B} {t} h = either_within (h.0 - t) t h.0 h.1 (omega (arith, h.1)) h.2 h.3

pub record Pace (lo : ℕ → ℕ) : Type 0 where
  pub up : (t : ℕ) → lo t ≤ lo (suc t)
  pub one : (t : ℕ) → lo (suc t) ≤ suc (lo t)
  pub grows : (t : ℕ) → (u : ℕ) × (t ≤ u) × (lo t < lo u)

module _ (lo : ℕ → ℕ) (pace : Pace lo) where
  mono : (t u : ℕ) → t ≤ u → lo t ≤ lo u
  mono t u h = le_ind (λ m. lo t ≤ lo m) (le_refl (lo t)) (λ m _ ih. le_trans ih (pace.up m)) u h

  -- it passes every number
  past : (t s : ℕ) → (u : ℕ) × (t ≤ u) × (s ≤ lo u)
  past t zero = (t, omega arith, omega arith)
  past t (suc s) =
      let r : (u : ℕ) × (t ≤ u) × (s ≤ lo u) = past t s in
      let g = pace.grows r.0 in
      (g.0, omega arith, omega arith)

  abbrev First : ℕ → ℕ → Type 0
  First t s = (u : ℕ) × (t ≤ u) × (lo u ≡ s) × ((w : ℕ) → t ≤ w → w < u → lo w < s)

  seek : (n t s u : ℕ) → lo t ≤ s → t ≤ u → u ≤ t + n → s ≤ lo u → First t s
  seek zero t s u a b c e =
      let q : t ≡ u = omega arith in
      let p : lo t ≡ lo u = ap lo q in
      (t, omega arith, omega arith, λ w x y. absurd (omega arith))
  seek (suc n) t s u a b c e = ⊎_elim here (λ lt. further lt (seek n (suc t) s u (le_trans (pace.one t) lt) (ahead lt) (omega arith) e)) (eq-or-lt_of_le a)
    where
      here : lo t ≡ s → First t s
      here q = (t, omega arith, q, λ w x y. absurd (omega arith))

      ahead : lo t < s → suc t ≤ u
      ahead lt = ⊎_elim (λ q. let p : lo t ≡ lo u = ap lo q in omega arith) (λ r. r) (eq-or-lt_of_le b)

      further : lo t < s → First (suc t) s → First t s
      further lt r = (r.0, omega arith, r.2, λ w x y. ⊎_elim (λ q. let p : lo t ≡ lo w = ap lo q in omega arith) (λ z. r.3 w z y) (eq-or-lt_of_le x))

  -- the first moment from t on at which it is s
  pub hit : (t s : ℕ) → lo t ≤ s → First t s
  hit t s h = let r = past t s in seek (r.0 - t) t s r.0 h r.1 (omega arith) r.2

  pub pull : {A B : ℕ → Type 0} (t : ℕ) → Until A B (lo t) → Until (λ w. A (lo w)) (λ w. B (lo w)) t
  pull {A} {B} t h =
      let r = hit t h.0 h.1 in
      (r.0, r.1, subst B (sym r.2) h.2, λ w p q. h.3 (lo w) (mono t w p) (r.3 w p q))

  pub push : {A B : ℕ → Type 0} (t : ℕ) → Until (λ w. A (lo w)) (λ w. B (lo w)) t → Until A B (lo t)
  push {A} {B} t h = (lo h.0, mono t h.0 h.1, h.2, λ s p q. at s q (hit t s p))
    where
      at : (s : ℕ) → s < lo h.0 → First t s → A s
      at s q r =
          let before : r.0 < h.0 = ⊎_elim (λ x. x) (λ e. absurd (let m = mono h.0 r.0 e in omega arith)) (lt_or_le r.0 h.0) in
          subst A r.2 (h.3 r.0 r.1 before)
