-- Words of windows counted are the rule for a count.
use Rattle.std.specs.Prelude.{ℕ, ◌+◌, ◌^◌, ◌≤◌, ◌<◌, ◌≡◌, refl, Bool, false, ◌&&◌, ◌||◌, List, T, leb, eqb, get_or}
use Rattle.std.proofs.Common.{sym, ap, ap₂, subst, ◌∙◌, arith, eq-eqb, ne_eqb}
use Rattle.std.specs.Int.Bits.{bit_or}
use Rattle.std.proofs.lemmas.Nat.{or_lt}
use Rattle.std.specs.Int.Count.{ones}
use Rattle.row.specs.Lasso.{step_of}
use Rattle.row.specs.Round.{step_below}
use Rattle.cltl.specs.Counting.{every}
use Rattle.cltl.specs.Rules.{window, throughout, quorum}
use Rattle.cltl.proofs.Basics.{bool_ext}
use Rattle.cltl.proofs.Tally.{every_agrees}
use Rattle.cltl.proofs.Quorum.{window_at}
use Rattle.cltl.proofs.Agree.{throughout_agrees}
use Rattle.mask.specs.Mask.{on, Row}
use Rattle.mask.specs.EachBit.{on_or, on_beyond}
use Rattle.mask.specs.Combined.{all_false}
use Rattle.table.specs.Table.{Stored}
use Rattle.table.specs.Storing.{stored_of}
use Rattle.quorum.specs.Words.{within, Of, CartsAt, has}
use Rattle.quorum.specs.OwnNumber.{own}
use Rattle.quorum.specs.Below.{below}
use Rattle.quorum.specs.Ones.{counted, all_counted}

-- all carts at the step itself: as many bits as there are carts
module _ (h m carts : ℕ) (w : List ℕ) where
  pub with_one : (r : ℕ) → ((s : ℕ) → s < h → get_or w s 0 < 2 ^ carts) → m ≡ 1 → Row h r (λ s. leb carts (ones (get_or w (0 + s) 0)))
      → Row h r (λ s. eqb m 1 && every (λ i. has w i s) carts)
  with_one r low e row = record {
    low = row.low;
    at = λ s p.
        let z : 0 + s ≡ s = omega arith in
        let x = get_or w s 0 in
        row.at s p ∙ ap (λ (j : ℕ). leb carts (ones (get_or w j 0))) z
        ∙ ap (leb carts) (counted carts x (on x) (record { low = low s p; at = λ i _. refl })) ∙ all_counted (on x) carts
        ∙ ap (λ (b : Bool). b && every (on x) carts) (sym (eq-eqb m 1 e));
  }

  pub with_more : (r : ℕ) → (m ≡ 1 → ⊥) → r ≡ 0 → Row h r (λ s. eqb m 1 && every (λ i. has w i s) carts)
  with_more r e z =
      let none = all_false h in record {
        low = omega (arith, none.low);
        at = λ s p. ap (λ (x : ℕ). on x s) z ∙ none.at s p ∙ ap (λ (b : Bool). b && every (λ i. has w i s) carts) (sym (ne_eqb m 1 e));
      }

-- words from a number on that are windows of the steps' words
module _ (h l d from : ℕ) (some : l < h) (w₀ w₁ : List ℕ)
    (along : (s i : ℕ) → s < h → on (get_or w₁ (from + s) 0) i ≡ window h l (has w₀ i) d s) (carts : ℕ) (low : (s : ℕ) → s < h → get_or w₀ s 0 < 2 ^ carts) where
  -- no bit of what is no cart
  no_cart : (s i : ℕ) → s < h → carts ≤ i → on (get_or w₁ (from + s) 0) i ≡ false
  no_cart s i p q =
      along s i p
      ∙ bool_ext _ _
      (λ t. subst T (on_beyond _ carts i (low (step_of h l (s + 0)) (step_below h l some (s + 0))) q) (window_at h l (has w₀ i) d s 0 (omega arith) t)) absurd

  -- the carts that have their bit all along
  pub windows : (s : ℕ) → s < h → Row carts (get_or w₁ (from + s) 0) (λ i. window h l (has w₀ i) d s)
  windows s p = record { low = below (get_or w₁ (from + s) 0) carts (λ i. no_cart s i p); at = λ i q. along s i p }

  -- and how many they are
  pub counted_windows : (s : ℕ) → s < h → ones (get_or w₁ (from + s) 0) ≡ throughout h l carts d (has w₀) s
  counted_windows s p = counted carts _ _ (windows s p)

  -- enough of them
  pub enough : (m r : ℕ) → Row h r (λ s. leb m (ones (get_or w₁ (from + s) 0))) → Row h r (λ s. leb m (throughout h l carts d (has w₀) s))
  enough m r row = record { low = row.low; at = λ s p. row.at s p ∙ ap (leb m) (counted_windows s p) }

-- enough all along, or with a threshold of 1 all at the step itself
pub either : (h l carts d m : ℕ) (f : ℕ → ℕ → Bool) (many all : ℕ) → Row h many (λ s. leb m (throughout h l carts d f s))
    → Row h all (λ s. eqb m 1 && every (λ i. f i s) carts) → Row h (bit_or many all) (quorum h l carts d m f)
unfolding quorum
either h l carts d m f many all a b = record {
  low = or_lt h many all a.low b.low;
  at = λ s p. on_or many all s ∙ ap₂ (λ (x y : Bool). x || y) (a.at s p) (b.at s p);
}

-- words of some carts' text are words of carts
pub in_carts : (h carts who : ℕ) (f : ℕ → ℕ → Bool) (before w : List ℕ) → carts ≤ 32 → who < 2 ^ carts → Stored (Of who f) 0 0 h before w
    → Stored (CartsAt carts (within who f)) 0 0 h before w
in_carts h carts who f before w few low text =
    stored_of _ _ 0 0 h before w (λ s x _ _ o. record { low = omega (arith, o.low); at = λ i p. o.each i (omega arith) }) text

-- where the words are those of a text
module _ (h carts : ℕ) (f : ℕ → ℕ → Bool) (before w : List ℕ) (text : Stored (CartsAt carts f) 0 0 h before w) where
  step : (s : ℕ) → s < h → CartsAt carts f s (get_or w s 0)
  step s p = own (CartsAt carts f) 0 h before w text s (omega arith) p

  pub carts_alone : (s : ℕ) → s < h → get_or w s 0 < 2 ^ carts
  carts_alone s p = (step s p).low

  -- all at the step itself
  pub here : (m all : ℕ) → Row h all (λ s. eqb m 1 && every (λ i. has w i s) carts) → Row h all (λ s. eqb m 1 && every (λ i. f i s) carts)
  here m all row = record {
    low = row.low;
    at = λ s p. row.at s p ∙ ap (λ (b : Bool). eqb m 1 && b) (every_agrees _ _ carts (step s p).at);
  }

  module _ (l d : ℕ) (some : l < h) where
    -- as many all along
    pub counted_text : (s : ℕ) → throughout h l carts d (has w) s ≡ throughout h l carts d f s
    counted_text s = throughout_agrees carts h l some d _ _ (λ i q s z. (step s z).at i q) s

  module _ (l d m : ℕ) (some : l < h) where
    pub of_text : (r : ℕ) → Row h r (λ s. leb m (throughout h l carts d (has w) s)) → Row h r (λ s. leb m (throughout h l carts d f s))
    of_text r row = record { low = row.low; at = λ s p. row.at s p ∙ ap (leb m) (counted_text l d some s) }

    pub quorate : (many all : ℕ) → Row h many (λ s. leb m (throughout h l carts d (has w) s)) → Row h all (λ s. eqb m 1 && every (λ i. has w i s) carts)
        → Row h (bit_or many all) (quorum h l carts d m f)
    quorate many all along at_once = either h l carts d m f many all (of_text many along) (here m all at_once)
