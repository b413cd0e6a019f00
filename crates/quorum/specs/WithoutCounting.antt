-- All carts, at least one cart, and more carts than there are: no bit has to be counted.
use Rattle.std.specs.Prelude.{ℕ, ◌-◌, ◌^◌, ◌≤◌, ◌<◌, ◌≡◌, true, not, leb, eqb}
use Rattle.std.proofs.Common.{sym, ap, ◌∙◌, arith, pow_pos}
use Rattle.std.specs.Int.Bits.{bit_xor}
use Rattle.std.specs.Int.Count.{ones}
use Rattle.std.proofs.lemmas.Nat.{ones-le}
use Rattle.std.proofs.lemmas.Bool.{lt-leb}
use Rattle.mask.specs.Mask.{on, Row}
use Rattle.mask.specs.EachBit.{on_ones}
use Rattle.mask.specs.Combined.{all_false, negated}
use Rattle.quorum.specs.Ones.{full_word, bits_left}

-- none of so many reaches what is above them all
pub too_high : (n m most r : ℕ) (f : ℕ → ℕ) → ((j : ℕ) → j < n → f j ≤ most) → most < m → r ≡ 0 → Row n r (λ j. leb m (f j))
too_high n m most r f low p e =
    let none = all_false n in record {
      low = omega (arith, none.low);
      at = λ j q. ap (λ (x : ℕ). on x j) e ∙ none.at j q ∙ sym (lt-leb m (f j) (omega (arith, low j q)));
    }

-- words with bits of carts alone
module _ (n m carts : ℕ) (f : ℕ → ℕ) (low : (j : ℕ) → j < n → f j < 2 ^ carts) where
  -- the row of those with at least m bits
  abbrev Counted : ℕ → Type 0
  Counted r = Row n r (λ j. leb m (ones (f j)))

  pub more_than_all : (r : ℕ) → carts < m → r ≡ 0 → Counted r
  more_than_all r p e = too_high n m carts r (λ j. ones (f j)) (λ j q. ones-le carts (f j) (low j q)) p e

  pub all_of_them : (x r : ℕ) → carts ≡ m → x ≡ 2 ^ carts - 1 → Row n r (λ j. eqb (f j) x) → Counted r
  all_of_them x r e full row = record {
    low = row.low;
    at = λ j q. row.at j q ∙ ap (eqb (f j)) full ∙ full_word carts (f j) (low j q) ∙ ap (λ (k : ℕ). leb k (ones (f j))) e;
  }

  pub at_least_one : (r b : ℕ) → 1 ≡ m → b ≡ 2 ^ n - 1 → Row n r (λ j. eqb (f j) 0) → Counted (bit_xor r b)
  at_least_one r b e all row =
      let every : Row n b (λ j. true) = record { low = omega (arith, pow_pos n); at = λ j q. ap (λ (x : ℕ). on x j) all ∙ on_ones n j q } in
      let other = negated n r b row.low every in record {
        low = other.low;
        at = λ j q. other.at j q ∙ ap not (row.at j q) ∙ bits_left (f j) ∙ ap (λ (k : ℕ). leb k (ones (f j))) e;
      }
