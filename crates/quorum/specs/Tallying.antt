-- The rule for a count on tallies.
use Rattle.std.specs.Prelude.{ℕ, ◌+◌, ◌≤◌, ◌<◌, ◌≡◌, Bool, ◌&&◌, ◌||◌, List, eqb, get_or}
use Rattle.std.proofs.Math.Path.{sym, ap}
use Rattle.std.proofs.Common.{◌∙◌, arith, ne_eqb}
use Rattle.std.proofs.Math.Bool.{or-false}
use Rattle.std.specs.Int.Bits.{bit_or}
use Rattle.std.proofs.Math.Dec.{leb}
use Rattle.cltl.specs.Counting.{every}
use Rattle.cltl.specs.Rules.{window, throughout, quorum}
use Rattle.cltl.proofs.Tally.{tally_le}
use Rattle.mask.specs.Mask.{Row}
use Rattle.quorum.specs.Tallies.{Tallied}
use Rattle.quorum.specs.Counted.{either}

module _ (h l carts d : ℕ) (f : ℕ → ℕ → Bool) (at : ℕ) (tallies : List ℕ) (told : Tallied h l carts d f at tallies) where
  -- no more than there are carts
  pub at_most : (s : ℕ) → s < h → get_or tallies (at + s) 0 ≤ carts
  at_most s p = omega (arith, told s p, tally_le (λ i. window h l (f i) d s) carts)

  module _ (m many : ℕ) (row : Row h many (λ s. leb m (get_or tallies (at + s) 0))) where
    enough : Row h many (λ s. leb m (throughout h l carts d f s))
    enough = record { low = row.low; at = λ s p. row.at s p ∙ ap (leb m) (told s p) }

    pub with_all : (all : ℕ) → Row h all (λ s. eqb m 1 && every (λ i. f i s) carts) → Row h (bit_or many all) (quorum h l carts d m f)
    with_all all here = either h l carts d m f many all enough here

    pub without_all : (m ≡ 1 → ⊥) → Row h many (quorum h l carts d m f)
    unfolding quorum
    without_all n = record {
      low = row.low;
      at = λ s p.
          enough.at s p ∙ sym (or-false (leb m (throughout h l carts d f s)))
          ∙ ap (λ (b : Bool). leb m (throughout h l carts d f s) || (b && every (λ i. f i s) carts)) (sym (ne_eqb m 1 n));
    }
