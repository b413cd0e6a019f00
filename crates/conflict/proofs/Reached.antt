-- A meeting is reached by a run, and a conflict is a meeting.
use Rattle.std.specs.Prelude.{ℕ, suc, ◌+◌, ◌≤◌, ◌<◌, ◌≡◌, refl, Bool, true, false, cond, T, eqb}
use Rattle.std.proofs.Common.{arith, sym, ap, subst, ◌∙◌, inl, inr, ⊎_elim, eq-eqb, ne_eqb}
use Rattle.cltl.specs.Meaning.{Run}
use Rattle.cltl.proofs.Standing.{highest, gather, gathered}
use Rattle.conflict.specs.Meaning.{Routes, stands_on, Narrow, Vertex, Swap, Conflicting, Conflict}
use Rattle.conflict.specs.Search.{meets}
use Rattle.conflict.specs.Met.{Same, Exchanged, same_meets, exchange_meets, meets_cases, Met}

-- cart b at w, every other at v
abbrev standing : ℕ → ℕ → ℕ → ℕ → ℕ
standing b v w i = cond (eqb i b) w v

spread : (b v w d : ℕ) → v ≤ w + d → w ≤ v + d → (i j : ℕ) → standing b v w i ≤ standing b v w j + d
spread b v w d p q i j = go (eqb i b) (eqb j b)
  where
    go : (s t : Bool) → cond s w v ≤ cond t w v + d
    go true true = omega arith
    go true false = omega arith
    go false true = omega arith
    go false false = omega arith

module _ (P : Routes) (d : ℕ) where
  module _ (a v b w : ℕ) (m : Met P d a v b w) where
    abbrev run : Run P.carts d
    run = gather P.carts d (standing b v w) (λ i j p q. spread b v w d m.behind m.ahead i j)

    abbrev moment : ℕ
    moment = highest (standing b v w) P.carts

    at-moment : (i : ℕ) → i < P.carts → run.at moment i ≡ standing b v w i
    at-moment = gathered P.carts d (standing b v w) (λ i j p q. spread b v w d m.behind m.ahead i j)

    -- in the next tick everybody moves
    at_next : (i : ℕ) → i < P.carts → run.at (suc moment) i ≡ suc (standing b v w i)
    at_next i p = omega (arith, at-moment i p)

    of_a : standing b v w a ≡ v
    of_a = ap (λ (t : Bool). cond t w v) (ne_eqb a b m.two)

    of_b : standing b v w b ≡ w
    of_b = ap (λ (t : Bool). cond t w v) (eq-eqb b b refl)

    a_now : run.at moment a ≡ v
    a_now = at-moment a m.cart_there ∙ of_a

    b_now : run.at moment b ≡ w
    b_now = at-moment b m.other_there ∙ of_b

    place_a : stands_on P a (run.at moment a) ≡ stands_on P a v
    place_a = ap (stands_on P a) a_now

    place_b : stands_on P b (run.at moment b) ≡ stands_on P b w
    place_b = ap (stands_on P b) b_now

    next_a : stands_on P a (run.at (suc moment) a) ≡ stands_on P a (suc v)
    next_a = ap (stands_on P a) (at_next a m.cart_there ∙ ap suc of_a)

    next_b : stands_on P b (run.at (suc moment) b) ≡ stands_on P b (suc w)
    next_b = ap (stands_on P b) (at_next b m.other_there ∙ ap suc of_b)

    vertex : Same P a v b w → Vertex P run.at moment a b
    vertex s = record { same = place_a ∙ s.one ∙ sym place_b; narrow = subst (Narrow P) (sym place_a) s.narrow }

    swap : (stands_on P a v ≡ stands_on P b w → ⊥) → Exchanged P a v b w → Swap P run.at moment a b
    swap apart x = record {
      differ = λ e. apart (sym place_a ∙ e ∙ place_b);
      narrow = subst (Narrow P) (sym place_a) x.narrow;
      other_narrow = subst (Narrow P) (sym place_b) x.other_narrow;
      there = next_a ∙ x.there ∙ sym place_b;
      back = next_b ∙ x.back ∙ sym place_a;
    }

    pub reached : Conflict P d a v
    reached = record {
      run = run;
      moment = moment;
      other = b;
      cart_there = m.cart_there;
      other_there = m.other_there;
      two = m.two;
      counter = a_now;
      conflicting = ⊎_elim (λ s. inl (vertex s)) (λ x. inr (swap x.0 x.1)) (meets_cases P a v b w m.meeting);
    }

  ---- The other way.
  module _ (r : Run P.carts d) (t a b : ℕ) (p : a < P.carts) (q : b < P.carts) where
    -- carts that exchange places have both moved
    swapped : Swap P r.at t a b → Exchanged P a (r.at t a) b (r.at t b)
    swapped s = record {
      narrow = s.narrow;
      other_narrow = s.other_narrow;
      there =
          ⊎_elim (λ e. absurd (s.differ (ap (stands_on P a) (sym e) ∙ s.there))) (λ e. ap (stands_on P a) (sym e) ∙ s.there) (r.tick t a p);
      back =
          ⊎_elim (λ e. absurd (s.differ (sym (ap (stands_on P b) (sym e) ∙ s.back)))) (λ e. ap (stands_on P b) (sym e) ∙ s.back) (r.tick t b q);
    }

    pub conflict_meets : Conflicting P r.at t a b → T (meets P a (r.at t a) b (r.at t b))
    conflict_meets =
        ⊎_elim (λ x. same_meets P a (r.at t a) b (r.at t b) (record { narrow = x.narrow; one = x.same }))
        (λ x. exchange_meets P a (r.at t a) b (r.at t b) (swapped x))

  -- whom the cart meets, and at which counter of that cart
  pub met : (a v : ℕ) → Conflict P d a v → (b : ℕ) × (w : ℕ) × Met P d a v b w
  met a v c =
      let r = c.run in
      let t = c.moment in
      let b = c.other in
      let w = r.at t b in
      let m : T (meets P a v b w) =
      subst (λ (u : ℕ). T (meets P a u b w)) c.counter (conflict_meets r t a b c.cart_there c.other_there c.conflicting) in (
        b,
        w,
        record {
          cart_there = c.cart_there;
          other_there = c.other_there;
          two = c.two;
          behind = omega (arith, r.near t a b c.cart_there c.other_there, c.counter);
          ahead = omega (arith, r.near t b a c.other_there c.cart_there, c.counter);
          meeting = m;
        },
      )
