-- Rows of one truth, negated and joined.
use Rattle.std.specs.Prelude.{ℕ, ◌+◌, ◌-◌, ◌/◌, ◌%◌, ◌^◌, ◌≤◌, ◌<◌, ◌≡◌, refl, Bool, true, false, not, ◌&&◌, ◌||◌}
use Rattle.std.proofs.Common.{sym, ap, subst, ◌∙◌, arith, pow_pos}
use Rattle.std.proofs.Math.Bool.{xor, and-true, and-false, or-false}
use Rattle.std.specs.Int.Bits.{bit_and, bit_or, bit_xor, and_lt}
use Rattle.std.proofs.lemmas.Nat.{or_lt, xor_lt}
use Rattle.std.proofs.Math.Pow.{ones_split, ones_lt, high}
use Rattle.cltl.specs.Rules.{join}
use Rattle.mask.specs.Mask.{on, Row}
use Rattle.mask.specs.EachBit.{on_and, on_or, on_xor, on_one, on_none, on_zero, on_ones}

-- true at every step: the highest h of 64 ones moved down
pub all_true : (h : ℕ) → h ≤ 64 → Row h ((2 ^ 64 - 1) / 2 ^ (64 - h)) (λ s. true)
all_true h p = subst (λ (x : ℕ). Row h x (λ s. true)) (sym ones) (record { low = ones_lt h; at = on_ones h })
  where
    ones : (2 ^ 64 - 1) / 2 ^ (64 - h) ≡ 2 ^ h - 1
    ones =
        let e : 64 ≡ h + (64 - h) = omega arith in
        ap (λ (k : ℕ). (2 ^ k - 1) / 2 ^ (64 - h)) e ∙ ap (λ (x : ℕ). x / 2 ^ (64 - h)) (ones_split h (64 - h)) ∙ high (2 ^ h - 1) (64 - h) (ones_lt (64 - h))

pub all_false : (h : ℕ) → Row h 0 (λ s. false)
all_false h = record { low = pow_pos h; at = λ s p. on_zero s }

pub itself : (h a : ℕ) → a < 2 ^ h → Row h a (on a)
itself h a p = record { low = p; at = λ s q. refl }

pub xor-true : (x : Bool) → xor x true ≡ not x
unfolding xor
xor-true true = refl
xor-true false = refl

pub negated : (h a b : ℕ) → a < 2 ^ h → Row h b (λ s. true) → Row h (bit_xor a b) (λ s. not (on a s))
negated h a b p r = record { low = xor_lt h a b p r.low; at = λ s q. on_xor a b s ∙ ap (xor (on a s)) (r.at s q) ∙ xor-true (on a s) }

pub both : (h a b : ℕ) → a < 2 ^ h → b < 2 ^ h → Row h (bit_and a b) (λ s. join true (on a s) (on b s))
both h a b p q = record { low = and_lt h a b p q; at = λ s _. on_and a b s }

pub either : (h a b : ℕ) → a < 2 ^ h → b < 2 ^ h → Row h (bit_or a b) (λ s. join false (on a s) (on b s))
either h a b p q = record { low = or_lt h a b p q; at = λ s _. on_or a b s }

-- the lap's turn, by what is true at the lap's first step
module _ (h l r gap : ℕ) (low : r < 2 ^ h) where
  abbrev Turn : ℕ → Type 0
  Turn x = Row h x (λ s. on r s || (not (on gap s) && on r l))

  pub turn_true : (c : ℕ) → r / 2 ^ l % 2 ≡ 1 → Row h c (λ s. not (on gap s)) → Turn (bit_or r c)
  turn_true c e row = record {
    low = or_lt h r c low row.low;
    at =
        λ s p. on_or r c s
        ∙ ap (λ (x : Bool). on r s || x) (row.at s p ∙ sym (ap (λ (x : Bool). not (on gap s) && x) (on_one r l e) ∙ and-true (not (on gap s))));
  }

  pub turn_false : r / 2 ^ l % 2 ≡ 0 → Turn r
  turn_false e = record {
    low = low;
    at =
        λ s p. sym
        (ap (λ (x : Bool). on r s || (not (on gap s) && x)) (on_none r l e) ∙ ap (λ (x : Bool). on r s || x) (and-false (not (on gap s))) ∙ or-false (on r s));
  }
