-- A lap earlier the same carts meet: an earliest counter in a conflict is below h + d.
use Rattle.std.specs.Prelude.{ℕ, zero, suc, ◌+◌, ◌-◌, ◌≤◌, ◌<◌, ◌≡◌, T}
use Rattle.std.proofs.Common.{arith, sym, ap, subst, ◌∙◌, ⊎_elim}
use Rattle.row.specs.Lasso.{step_of}
use Rattle.row.specs.Round.{pick, step_lap}
use Rattle.conflict.specs.Meaning.{Routes, stands_on, Narrow, Conflict}
use Rattle.conflict.specs.Search.{meets}
use Rattle.conflict.specs.Met.{Met, same_meets, exchange_meets, meets_cases}
use Rattle.conflict.proofs.Reached.{reached, met}

-- what two carts' places are at two counters each, and next, decides whether they meet
pub meets_as : (P : Routes) (a v b w v' w' : ℕ)
    → stands_on P a v' ≡ stands_on P a v → stands_on P b w' ≡ stands_on P b w → stands_on P a (suc v') ≡ stands_on P a (suc v)
    → stands_on P b (suc w') ≡ stands_on P b (suc w) → T (meets P a v b w) → T (meets P a v' b w')
meets_as P a v b w v' w' p q p' q' m =
    ⊎_elim
    (λ s. same_meets P a v' b w' (record { narrow = subst (Narrow P) (sym p) s.narrow; one = p ∙ s.one ∙ sym q }))
    (λ x. exchange_meets P a v' b w' (record {
      narrow = subst (Narrow P) (sym p) x.1.narrow;
      other_narrow = subst (Narrow P) (sym q) x.1.other_narrow;
      there = p' ∙ x.1.there ∙ sym q;
      back = q' ∙ x.1.back ∙ sym p;
    }))
    (meets_cases P a v b w m)

module _ (P : Routes) (lap : P.l < P.h) (d : ℕ) where
  -- a lap before a counter that is not below h a cart is in the same place
  place_lap : (i v : ℕ) → P.h ≤ v → stands_on P i (v - (P.h - P.l)) ≡ stands_on P i v
  place_lap i v p =
      let e : v - (P.h - P.l) + (P.h - P.l) ≡ v = omega arith in
      let back : step_of P.h P.l (v - (P.h - P.l)) ≡ step_of P.h P.l v =
      sym (step_lap P.h P.l lap (v - (P.h - P.l)) (omega arith)) ∙ ap (step_of P.h P.l) e in
      ap (P.place i) back

  next_lap : (i v : ℕ) → P.h ≤ v → stands_on P i (suc (v - (P.h - P.l))) ≡ stands_on P i (suc v)
  next_lap i v p =
      let e : suc (v - (P.h - P.l)) ≡ suc v - (P.h - P.l) = omega arith in
      ap (stands_on P i) e ∙ place_lap i (suc v) (omega arith)

  met_earlier : (a v b w : ℕ) → P.h + d ≤ v → Met P d a v b w → Met P d a (v - (P.h - P.l)) b (w - (P.h - P.l))
  met_earlier a v b w far m =
      let L = P.h - P.l in
      let high : P.h ≤ v = omega arith in
      let other : P.h ≤ w = omega (arith, m.behind) in
      record {
        cart_there = m.cart_there;
        other_there = m.other_there;
        two = m.two;
        behind = omega (arith, m.behind);
        ahead = omega (arith, m.ahead);
        meeting =
            meets_as P a v b w (v - L) (w - L) (place_lap a v high) (place_lap b w other) (next_lap a v high) (next_lap b w other) m.meeting;
      }

  pub shift : (a v : ℕ) → P.h + d ≤ v → Conflict P d a v → Conflict P d a (v - (P.h - P.l))
  shift a v far c = let m = met P d a v c in reached P d a (v - (P.h - P.l)) _ _ (met_earlier a v _ _ far m.2)

  -- some conflict of the cart is early
  pub record Early (a v : ℕ) : Type 0 where
    pub counter : ℕ
    pub below : counter < P.h + d
    pub not_later : counter ≤ v
    pub conflict : Conflict P d a counter

  early_by : (fuel a v : ℕ) → v < fuel → Conflict P d a v → Early a v
  early_by zero a v p c = absurd (omega arith)
  early_by (suc fuel) a v p c =
      pick v (P.h + d) (Early a v) (λ q. record { counter = v; below = q; not_later = omega arith; conflict = c })
      (λ q.
      let e = early_by fuel a (v - (P.h - P.l)) (omega arith) (shift a v q c) in
      record { counter = e.counter; below = e.below; not_later = omega (arith, e.not_later); conflict = e.conflict })

  pub early : (a v : ℕ) → Conflict P d a v → Early a v
  early a v c = early_by (suc v) a v (omega arith) c
