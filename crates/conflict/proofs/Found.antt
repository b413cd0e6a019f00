-- What the search finds is the right answer.
use Rattle.std.specs.Prelude.{ℕ, ◌+◌, ◌≤◌, ◌<◌, ◌≡◌, refl, Bool, true, false, ◌⊎◌}
use Rattle.std.proofs.Common.{arith, ap, ◌∙◌}
use Rattle.std.proofs.Math.Logic.{inl, inr, ⊎_elim}
use Rattle.refusal.specs.Stages.{is_accepted}
use Rattle.refusal.specs.declared.Verdict.{Verdict}
use Rattle.refusal.specs.declared.Verdict.TheVariants.{Accepted}
use Rattle.row.specs.Lasso.{step_of}
use Rattle.row.specs.Round.{step_below}
use Rattle.row.specs.Firsts.{AllPass, FirstAnswer, searched}
use Rattle.conflict.specs.Meaning.{Routes, Conflict}
use Rattle.conflict.specs.Search.{clear, earliest_verdict, narrow_verdict}
use Rattle.conflict.proofs.Shift.{early}
use Rattle.conflict.proofs.Cleared.{apart, not_clear, clear_none}
use Rattle.conflict.proofs.Outcomes.{refusal20, Told, Outcome, none_free}

module _ (P : Routes) (lap : P.l < P.h) (d : ℕ) where
  -- if all counters below h + d are clear, all are
  all_clear : (a top : ℕ) → P.h + d ≤ top → AllPass (clear P d a) 0 top → (v : ℕ) → Conflict P d a v → ⊥
  all_clear a top enough all v c =
      let e = early P lap d a v c in
      clear_none P d a e.counter (all e.counter (omega arith) (omega (arith, e.below))) e.conflict

  -- a cart's verdict: accepted and in no conflict, or at its earliest counter in one
  pub record CartTold (a : ℕ) (v : Verdict) : Type 0 where
    pub counter : ℕ
    pub conflict : Conflict P d a counter
    pub before : (u : ℕ) → u < counter → Conflict P d a u → ⊥
    pub is : v ≡ refusal20 a (step_of P.h P.l counter)

  abbrev CartOutcome : ℕ → Verdict → Type 0
  CartOutcome a v = (((u : ℕ) → Conflict P d a u → ⊥) × (v ≡ Accepted)) ⊎ CartTold a v

  cart_found : (a : ℕ) → a < P.carts → CartOutcome a (earliest_verdict P d a)
  unfolding earliest_verdict
  cart_found a p =
      let top = P.h + d in
      ⊎_elim (λ w. inl (all_clear a (0 + top) (omega arith) w.0, w.1))
      (λ w. inr (record {
        counter = w.at;
        conflict = not_clear P d a w.at p w.first.fails;
        before = λ u q. clear_none P d a u (w.first.before u (omega arith) q);
        is = w.is;
      }))
      (searched (clear P d a) (λ v. refusal20 a (step_of P.h P.l v)) (λ end. Accepted) top 0)

  -- a cart that is accepted is in no conflict
  cart_free : (a : ℕ) → a < P.carts → is_accepted (earliest_verdict P d a) ≡ true → (u : ℕ) → Conflict P d a u → ⊥
  cart_free a p e =
      ⊎_elim (λ w. w.0) (λ w. absurd (apart (is_accepted (earliest_verdict P d a)) e (ap is_accepted w.is))) (cart_found a p)

  cart_told : (a : ℕ) → a < P.carts → is_accepted (earliest_verdict P d a) ≡ false → CartTold a (earliest_verdict P d a)
  cart_told a p e =
      ⊎_elim (λ w. absurd (apart (is_accepted (earliest_verdict P d a)) (ap is_accepted w.1) e)) (λ w. w) (cart_found a p)

  abbrev accepted : ℕ → Bool
  accepted a = is_accepted (earliest_verdict P d a)

  first_told : FirstAnswer accepted (earliest_verdict P d) (λ end. Accepted) 0 (0 + P.carts) (narrow_verdict P d) → Told P d (narrow_verdict P d)
  first_told w =
      let a = w.at in
      let there : a < P.carts = omega (arith, w.first.below) in
      let t = cart_told a there w.first.fails in
      record {
        cart = a;
        step = step_of P.h P.l t.counter;
        there = there;
        below = step_below P.h P.l lap t.counter;
        earliest = record {
          counter = t.counter;
          conflict = t.conflict;
          step = refl;
          lowest = λ i v q. cart_free i (omega (arith, w.first.below)) (w.first.before i (omega arith) q) v;
          before = t.before;
        };
        is = w.is ∙ t.is;
      }

  pub found : Outcome P d (narrow_verdict P d)
  unfolding narrow_verdict
  found =
      ⊎_elim
      (λ w. inl (none_free P d (λ a v c. cart_free a c.cart_there (w.0 a (omega arith) (omega (arith, c.cart_there))) v c), w.1))
      (λ w. inr (first_told w)) (searched accepted (earliest_verdict P d) (λ end. Accepted) P.carts 0)
