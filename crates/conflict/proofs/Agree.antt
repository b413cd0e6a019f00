-- Routes that agree on the steps of their carts have the same conflicts.
use Rattle.std.specs.Prelude.{ℕ, suc, ◌<◌, ◌≡◌, Bool, T}
use Rattle.std.proofs.Common.{sym, subst, ◌∙◌, inl, inr, ⊎_elim}
use Rattle.refusal.specs.declared.Verdict.{Verdict}
use Rattle.row.specs.Lasso.{step_of}
use Rattle.row.specs.Round.{step_below}
use Rattle.conflict.specs.Meaning.{Routes, stands_on, Narrow, Conflict, Earliest}
use Rattle.conflict.specs.Search.{meets}
use Rattle.conflict.specs.Met.{same_meets, exchange_meets, meets_cases}
use Rattle.conflict.proofs.Reached.{reached, met}
use Rattle.conflict.proofs.Outcomes.{Outcome, free_none, none_free}

-- the places, and whether they are narrow
abbrev pub Agree : (carts h : ℕ) → (ℕ → ℕ → ℕ) → (ℕ → Bool) → (ℕ → ℕ → ℕ) → (ℕ → Bool) → Type 0
Agree carts h place narrow place' narrow' = (i s : ℕ) → i < carts → s < h → (place i s ≡ place' i s) × (narrow (place i s) ≡ narrow' (place' i s))

pub agree_back : (carts h : ℕ) (place : ℕ → ℕ → ℕ) (narrow : ℕ → Bool) (place' : ℕ → ℕ → ℕ) (narrow' : ℕ → Bool)
    → Agree carts h place narrow place' narrow' → Agree carts h place' narrow' place narrow
agree_back carts h place narrow place' narrow' g i s p q = let w = g i s p q in (sym w.0, sym w.1)

abbrev of : ℕ → ℕ → ℕ → (ℕ → ℕ → ℕ) → (ℕ → Bool) → Routes
of carts h l place narrow = record { carts = carts; h = h; l = l; place = place; narrow = narrow }

module _ (carts h l d : ℕ) (lap : l < h) (place : ℕ → ℕ → ℕ) (narrow : ℕ → Bool) (place' : ℕ → ℕ → ℕ) (narrow' : ℕ → Bool)
    (g : Agree carts h place narrow place' narrow') where
  abbrev P : Routes
  P = of carts h l place narrow

  abbrev P' : Routes
  P' = of carts h l place' narrow'

  place_as : (i v : ℕ) → i < carts → stands_on P i v ≡ stands_on P' i v
  place_as i v p = (g i (step_of h l v) p (step_below h l lap v)).0

  narrow_as : (i v : ℕ) → i < carts → Narrow P (stands_on P i v) → Narrow P' (stands_on P' i v)
  narrow_as i v p = subst T (g i (step_of h l v) p (step_below h l lap v)).1

  meets_as : (a v b w : ℕ) → a < carts → b < carts → T (meets P a v b w) → T (meets P' a v b w)
  meets_as a v b w p q m =
      ⊎_elim
      (λ s. same_meets P' a v b w (record { narrow = narrow_as a v p s.narrow; one = sym (place_as a v p) ∙ s.one ∙ place_as b w q }))
      (λ x. exchange_meets P' a v b w (record {
        narrow = narrow_as a v p x.1.narrow;
        other_narrow = narrow_as b w q x.1.other_narrow;
        there = sym (place_as a (suc v) p) ∙ x.1.there ∙ place_as b w q;
        back = sym (place_as b (suc w) q) ∙ x.1.back ∙ place_as a v p;
      }))
      (meets_cases P a v b w m)

  pub conflict_as : (a v : ℕ) → Conflict P d a v → Conflict P' d a v
  conflict_as a v c =
      let m = met P d a v c in
      let k = m.2 in
      reached P' d a v m.0 m.1 (record {
        cart_there = k.cart_there;
        other_there = k.other_there;
        two = k.two;
        behind = k.behind;
        ahead = k.ahead;
        meeting = meets_as a v m.0 m.1 k.cart_there k.other_there k.meeting;
      })

module _ (carts h l d : ℕ) (lap : l < h) (place : ℕ → ℕ → ℕ) (narrow : ℕ → Bool) (place' : ℕ → ℕ → ℕ) (narrow' : ℕ → Bool)
    (g : Agree carts h place narrow place' narrow') where
  to : (a v : ℕ) → Conflict (of carts h l place narrow) d a v → Conflict (of carts h l place' narrow') d a v
  to = conflict_as carts h l d lap place narrow place' narrow' g

  back : (a v : ℕ) → Conflict (of carts h l place' narrow') d a v → Conflict (of carts h l place narrow) d a v
  back = conflict_as carts h l d lap place' narrow' place narrow (agree_back carts h place narrow place' narrow' g)

  earliest_as : (a s : ℕ) → Earliest (of carts h l place narrow) d a s → Earliest (of carts h l place' narrow') d a s
  earliest_as a s e = record {
    counter = e.counter;
    conflict = to a e.counter e.conflict;
    step = e.step;
    lowest = λ i v p c. e.lowest i v p (back i v c);
    before = λ v p c. e.before v p (back a v c);
  }

  -- so the same answer is right
  pub outcome_as : (v : Verdict) → Outcome (of carts h l place narrow) d v → Outcome (of carts h l place' narrow') d v
  outcome_as v (inl w) = inl (none_free (of carts h l place' narrow') d (λ a u c. free_none (of carts h l place narrow) d w.0 a u (back a u c)), w.1)
  outcome_as v (inr w) = inr (record {
    cart = w.cart;
    step = w.step;
    there = w.there;
    below = w.below;
    earliest = earliest_as w.cart w.step w.earliest;
    is = w.is;
  })
