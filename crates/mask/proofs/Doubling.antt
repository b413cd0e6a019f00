-- Until straight on, over twice as many steps with each turn.
use Prim.Native.Nat.{ℕ, ◌+◌, ◌*◌, ◌-◌, ◌/◌, ◌^◌, ◌≤◌, ◌<◌}
use mathlib.Core.Path.{◌≡◌, refl, sym, ap, ap₂, ◌∙◌}
use mathlib.Core.Bool.{Bool, true, false, not, ◌&&◌, ◌||◌, and-true, and-false, or-false, not-not}
use native.Mathlib.Omega.{arith}
use lib.Bits.{bit_and, bit_or, bit_xor, and_lt, or_lt, xor_lt}
use lib.Pow.{shr_le}
use Rattle.cltl.specs.Rules.{fix}
use Rattle.cltl.proofs.Lap.{fix_cong}
use Rattle.mask.specs.Mask.{on, Row}
use Rattle.mask.specs.EachBit.{on_or, on_except, on_shr, on_beyond}
use Rattle.mask.specs.Straight.{holds, reaches}
use Rattle.mask.specs.Lapped.{reaches_on, holds_on, reaches_end, holds_end, lapped}

-- outside of a mask
abbrev pub free : ℕ → ℕ → Bool
free gap s = not (on gap s)

-- w steps are looked at: r tells whether b comes in fewer than w moves, gap whether some of w steps is in the first gap
pub record Doubling (h b first r gap w : ℕ) : Type 0 where
  pub some : 0 < w
  pub low : r < 2 ^ h
  pub gap_low : gap < 2 ^ h
  pub at : (s : ℕ) → on r s ≡ reaches (free first) (on b) w s
  pub gap_at : (s : ℕ) → on gap s ≡ not (holds (free first) w s)

pub begun : (h b gap : ℕ) → b < 2 ^ h → gap < 2 ^ h → Doubling h b gap b gap 1
unfolding reaches holds
begun h b gap p q = record {
  some = omega arith;
  low = p;
  gap_low = q;
  at = λ s. sym (ap (λ (x : Bool). on b s || x) (and-false (free gap s)) ∙ or-false (on b s));
  gap_at = λ s. sym (ap not (and-true (free gap s)) ∙ not-not (on gap s));
}

later : (x y z : Bool) → ◌≡◌ {A = Bool} (x || (z && not (not y))) (x || (y && z))
later true y z = refl
later false true true = refl
later false true false = refl
later false false true = refl
later false false false = refl

neither : (x y : Bool) → ◌≡◌ {A = Bool} (not x || not y) (not (x && y))
neither true y = refl
neither false y = refl

pub onward : (h b first r gap w : ℕ) → Doubling h b first r gap w
    → Doubling h b first (bit_or r (bit_xor (r / 2 ^ w) (bit_and (r / 2 ^ w) gap))) (bit_or gap (gap / 2 ^ w)) (w * 2)
onward h b first r gap w d =
    let e : w + w ≡ w * 2 = omega arith in
    let ahead : r / 2 ^ w < 2 ^ h = omega (arith, shr_le r w, d.low) in
    record {
      some = omega (arith, d.some);
      low = or_lt h r _ d.low (xor_lt h (r / 2 ^ w) _ ahead (and_lt h (r / 2 ^ w) gap ahead d.gap_low));
      gap_low = or_lt h gap (gap / 2 ^ w) d.gap_low (omega (arith, shr_le gap w, d.gap_low));
      at = λ s.
          on_or r (bit_xor (r / 2 ^ w) (bit_and (r / 2 ^ w) gap)) s
          ∙ ap₂ (λ (x y : Bool). x || y) (d.at s) (on_except (r / 2 ^ w) gap s ∙ ap₂ (λ (x y : Bool). x && not y) (on_shr r w s ∙ d.at (w + s)) (d.gap_at s))
          ∙ later (reaches (free first) (on b) w s) (holds (free first) w s) (reaches (free first) (on b) w (w + s))
          ∙ sym (reaches_on (free first) (on b) w w s) ∙ ap (λ (n : ℕ). reaches (free first) (on b) n s) e;
      gap_at = λ s.
          on_or gap (gap / 2 ^ w) s ∙ ap₂ (λ (x y : Bool). x || y) (d.gap_at s) (on_shr gap w s ∙ d.gap_at (w + s))
          ∙ neither (holds (free first) w s) (holds (free first) w (w + s))
          ∙ ap not (sym (holds_on (free first) (on b) w w s) ∙ ap (λ (n : ℕ). holds (free first) n s) e);
    }

-- the end, and the lap's turn
pub ended : (h l a b first r gap w out : ℕ) → l < h → b < 2 ^ h → Row h first (λ s. not (on a s)) → Doubling h b first r gap w → h ≤ w
    → Row h out (λ s. on r s || (not (on gap s) && on r l)) → Row h out (fix h l true (on a) (on b) h)
ended h l a b first r gap w out some low start d past row =
    let open-end : (s : ℕ) → h ≤ s → free first s ≡ true = λ s p. ap not (on_beyond first h s start.low p) in
    let no_more : (s : ℕ) → h ≤ s → on b s ≡ false = λ s p. on_beyond b h s low p in
    let reached : (s : ℕ) → s < h → on r s ≡ reaches (free first) (on b) (h - s) s =
    λ s p. d.at s ∙ reaches_end (free first) (on b) h open-end no_more w s (omega arith) past in
    let held : (s : ℕ) → s < h → not (on gap s) ≡ holds (free first) (h - s) s =
    λ s p. ap not (d.gap_at s) ∙ not-not (holds (free first) w s) ∙ holds_end (free first) (on b) h open-end no_more w s (omega arith) past in
    record {
      low = row.low;
      at = λ s p.
          row.at s p ∙ ap₂ (λ (x y : Bool). x || y) (reached s p) (ap₂ (λ (x y : Bool). x && y) (held s p) (reached l some))
          ∙ sym (lapped (free first) (on b) h l some s p)
          ∙ fix_cong h l some true (free first) (on b) (on a) (on b) (λ t q. ap not (start.at t q) ∙ not-not (on a t)) (λ t q. refl) h s p;
    }
