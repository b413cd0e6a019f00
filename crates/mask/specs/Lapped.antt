-- Until on the lasso: straight on to the end, and once more from the lap's first step on.
use Prim.Native.Nat.{ℕ, zero, suc, ◌+◌, ◌-◌, ◌≤◌, ◌<◌}
use Rattle.std.specs.Prelude.{◌≡◌, Bool, not, ◌&&◌, ◌||◌}
use Rattle.std.proofs.Math.Path.{refl, sym, ap, ap₂}
use Rattle.std.proofs.Common.{◌∙◌}
use Rattle.std.proofs.Math.Bool.{true, false, and-true, and-false, and_assoc, or-false, not-not}
use native.Mathlib.Omega.{arith}
use Rattle.row.specs.Round.{next_low, next_last}
use Rattle.cltl.specs.Rules.{fix}
use Rattle.cltl.proofs.Lap.{enough, fix-not, fix_cong}
use Rattle.mask.specs.Mask.{on, Row, signed}
use Rattle.mask.specs.Straight.{holds, reaches}

-- a step in front of a way whose second part begins where y ends
before : (a b x y z : Bool) → ◌≡◌ {A = Bool} (b || (a && (x || (y && z)))) ((b || (a && x)) || ((a && y) && z))
before a true x y z = refl
before true false x y z = refl
before false false x y z = refl

module _ (a b : ℕ → Bool) where
  -- n steps, and then m more
  pub reaches_on : (n m s : ℕ) → reaches a b (n + m) s ≡ (reaches a b n s || (holds a n s && reaches a b m (n + s)))
  unfolding reaches holds
  reaches_on zero m s =
      let e : s ≡ 0 + s = omega arith in
      let f : 0 + m ≡ m = omega arith in
      ap₂ (reaches a b) f e
  reaches_on (suc n) m s =
      let e : n + suc s ≡ suc n + s = omega arith in
      let f : suc n + m ≡ suc (n + m) = omega arith in
      ap (λ (k : ℕ). reaches a b k s) f ∙ ap (λ (x : Bool). b s || (a s && x)) (reaches_on n m (suc s))
      ∙ before (a s) (b s) (reaches a b n (suc s)) (holds a n (suc s)) (reaches a b m (n + suc s))
      ∙ ap (λ (k : ℕ). reaches a b (suc n) s || (holds a (suc n) s && reaches a b m k)) e

  pub holds_on : (n m s : ℕ) → holds a (n + m) s ≡ (holds a n s && holds a m (n + s))
  unfolding holds
  holds_on zero m s =
      let e : s ≡ 0 + s = omega arith in
      let f : 0 + m ≡ m = omega arith in
      ap₂ (holds a) f e
  holds_on (suc n) m s =
      let e : n + suc s ≡ suc n + s = omega arith in
      let f : suc n + m ≡ suc (n + m) = omega arith in
      ap (λ (k : ℕ). holds a k s) f ∙ ap (λ (x : Bool). a s && x) (holds_on n m (suc s))
      ∙ sym (and_assoc (a s) (holds a n (suc s)) (holds a m (n + suc s)))
      ∙ ap (λ (k : ℕ). holds a (suc n) s && holds a m k) e

  -- beyond h, where b never comes and a always holds
  module _ (h : ℕ) (free : (s : ℕ) → h ≤ s → a s ≡ true) (never : (s : ℕ) → h ≤ s → b s ≡ false) where
    reaches_none : (n s : ℕ) → h ≤ s → reaches a b n s ≡ false
    unfolding reaches
    reaches_none zero s p = refl
    reaches_none (suc n) s p = ap₂ (λ (x y : Bool). x || (a s && y)) (never s p) (reaches_none n (suc s) (omega arith)) ∙ and-false (a s)

    holds_all : (n s : ℕ) → h ≤ s → holds a n s ≡ true
    unfolding holds
    holds_all zero s p = refl
    holds_all (suc n) s p = ap₂ (λ (x y : Bool). x && y) (free s p) (holds_all n (suc s) (omega arith))

    -- no more than to the end
    pub reaches_end : (n s : ℕ) → s ≤ h → h ≤ n → reaches a b n s ≡ reaches a b (h - s) s
    reaches_end n s p q =
        let e : n ≡ (h - s) + (n - (h - s)) = omega arith in
        ap (λ (k : ℕ). reaches a b k s) e ∙ reaches_on (h - s) (n - (h - s)) s
        ∙ ap (λ (x : Bool). reaches a b (h - s) s || (holds a (h - s) s && x)) (reaches_none (n - (h - s)) (h - s + s) (omega arith))
        ∙ ap (λ (x : Bool). reaches a b (h - s) s || x) (and-false (holds a (h - s) s)) ∙ or-false (reaches a b (h - s) s)

    pub holds_end : (n s : ℕ) → s ≤ h → h ≤ n → holds a n s ≡ holds a (h - s) s
    holds_end n s p q =
        let e : n ≡ (h - s) + (n - (h - s)) = omega arith in
        ap (λ (k : ℕ). holds a k s) e ∙ holds_on (h - s) (n - (h - s)) s
        ∙ ap (λ (x : Bool). holds a (h - s) s && x) (holds_all (n - (h - s)) (h - s + s) (omega arith)) ∙ and-true (holds a (h - s) s)

  module _ (h l : ℕ) (some : l < h) where
    -- to the end, and on from the lap's first step
    straight : (k n s : ℕ) → s + suc k ≡ h → fix h l true a b (suc (k + n)) s ≡ (reaches a b (suc k) s || (holds a (suc k) s && fix h l true a b n l))
    unfolding fix reaches holds
    straight zero n s e =
        let f : 0 + n ≡ n = omega arith in
        ap₂ (λ (m t : ℕ). b s || (a s && fix h l true a b m t)) f (next_last h l s (omega arith)) ∙ before (a s) (b s) false true (fix h l true a b n l)
    straight (suc k) n s e =
        let f : suc k + n ≡ suc (k + n) = omega arith in
        ap₂ (λ (m t : ℕ). b s || (a s && fix h l true a b m t)) f (next_low h l s (omega arith))
        ∙ ap (λ (x : Bool). b s || (a s && x)) (straight k n (suc s) (omega arith))
        ∙ before (a s) (b s) (reaches a b (suc k) (suc s)) (holds a (suc k) (suc s)) (fix h l true a b n l)

    to_end : (n s : ℕ) → s < h → fix h l true a b (h - s + n) s ≡ (reaches a b (h - s) s || (holds a (h - s) s && fix h l true a b n l))
    to_end n s p =
        let e : suc (h - s - 1) ≡ h - s = omega arith in
        let f : h - s + n ≡ suc (h - s - 1 + n) = omega arith in
        ap (λ (m : ℕ). fix h l true a b m s) f ∙ straight (h - s - 1) n s (omega arith)
        ∙ ap (λ (k : ℕ). reaches a b k s || (holds a k s && fix h l true a b n l)) e

    lap_alone : fix h l true a b (h - l) l ≡ reaches a b (h - l) l
    unfolding fix
    lap_alone =
        let e : h - l ≡ h - l + 0 = omega arith in
        ap (λ (m : ℕ). fix h l true a b m l) e ∙ to_end 0 l some ∙ ap (λ (x : Bool). reaches a b (h - l) l || x) (and-false (holds a (h - l) l))
        ∙ or-false (reaches a b (h - l) l)

    pub lapped : (s : ℕ) → s < h → fix h l true a b h s ≡ (reaches a b (h - s) s || (holds a (h - s) s && reaches a b (h - l) l))
    lapped s p = sym (enough h l some true a b s p) ∙ to_end (h - l) s p ∙ ap (λ (x : Bool). reaches a b (h - s) s || (holds a (h - s) s && x)) lap_alone

-- release is the negation of until, of negations
signed-fix : (h l : ℕ) → l < h → (p : Bool) (a b a' b' : ℕ → Bool) → ((s : ℕ) → s < h → a' s ≡ signed p (a s))
    → ((s : ℕ) → s < h → b' s ≡ signed p (b s)) → (n s : ℕ) → s < h
    → signed p (fix h l true a' b' n s) ≡ fix h l p a b n s
signed-fix h l some true a b a' b' f g n s q = fix_cong h l some true a' b' a b f g n s q
signed-fix h l some false a b a' b' f g n s q =
    sym (fix-not h l some true a' b' a b (λ t r. sym (ap not (f t r) ∙ not-not (a t))) (λ t r. sym (ap not (g t r) ∙ not-not (b t))) n s q)

pub signed_row : (h l : ℕ) → l < h → (p : Bool) (a b a' b' u r : ℕ) → Row h a' (λ s. signed p (on a s)) → Row h b' (λ s. signed p (on b s))
    → Row h u (fix h l true (on a') (on b') h)
    → Row h r (λ s. signed p (on u s)) → Row h r (fix h l p (on a) (on b) h)
signed_row h l some p a b a' b' u r f g until back = record {
  low = back.low;
  at = λ s q. back.at s q ∙ ap (signed p) (until.at s q) ∙ signed-fix h l some p (on a) (on b) (on a') (on b') f.at g.at h s q;
}
