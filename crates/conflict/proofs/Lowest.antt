-- Carts in order need only look at those above them: a conflict with a lower cart would have been that cart's.
use Rattle.std.specs.Prelude.{ℕ, ◌+◌, ◌<◌, ◌≡◌, refl}
use Rattle.std.proofs.Common.{arith, subst, sym}
use Rattle.row.specs.Round.{pick, step_below}
use Rattle.conflict.specs.Meaning.{Routes, Conflict, Free}
use Rattle.conflict.proofs.Reached.{reached, met}
use Rattle.conflict.proofs.Symmetric.{met_turned}
use Rattle.conflict.proofs.Shift.{early}
use Rattle.conflict.proofs.Outcomes.{refusal20, Told, none_free}
use Rattle.conflict.specs.Above.{Above, FirstAbove}

module _ (P : Routes) (d : ℕ) where
  -- no cart below c is in a conflict
  abbrev pub FreeBelow : ℕ → Type 0
  FreeBelow c = (i v : ℕ) → i < c → Conflict P d i v → ⊥

  pub above_conflict : (a v : ℕ) → Above P d a v → Conflict P d a v
  above_conflict a v x = reached P d a v x.other x.counter x.meeting

  pub conflict_above : (c v : ℕ) → FreeBelow c → Conflict P d c v → Above P d c v
  conflict_above c v free x =
      let m = met P d c v x in
      let b = m.0 in
      let w = m.1 in
      let k = m.2 in
      pick c b (Above P d c v) (λ l. record { other = b; counter = w; higher = l; meeting = k })
      (λ l. pick b c (Above P d c v) (λ u. absurd (free b w u (reached P d b w c v (met_turned P c v b w d k)))) (λ u. absurd (k.two (omega arith))))

  pub all_free : FreeBelow P.carts → Free P d
  all_free free = none_free P d (λ a v c. free a v c.cart_there c)

  module _ (lap : P.l < P.h) (c : ℕ) (free : FreeBelow c) where
    -- no meeting above below counter h + d: the cart is in no conflict
    pub next_free : ((v : ℕ) → v < P.h + d → Above P d c v → ⊥) → FreeBelow (c + 1)
    next_free none i v p x =
        pick i c ⊥ (λ l. free i v l x)
        (λ l.
        let e : i ≡ c = omega arith in
        let y = early P lap d c v (subst (λ (n : ℕ). Conflict P d n v) e x) in
        none y.counter y.below (conflict_above c y.counter free y.conflict))

    -- the first of them: the cart is the lowest in a conflict, and this its earliest counter in one
    pub told : (s : ℕ) → FirstAbove P d c s → Told P d (refusal20 c s)
    told s f = record {
      cart = c;
      step = s;
      there = f.above.meeting.cart_there;
      below = subst (λ (n : ℕ). n < P.h) (sym f.step) (step_below P.h P.l lap f.counter);
      earliest = record {
        counter = f.counter;
        conflict = above_conflict c f.counter f.above;
        step = f.step;
        lowest = free;
        before = λ v l x. f.before v l (conflict_above c v free x);
      };
      is = refl;
    }
