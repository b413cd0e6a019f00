-- The readers' small steps on a text with an offset into it.
use Rattle.std.specs.Prelude.{ℕ, suc, ◌+◌, ◌*◌, ◌-◌, ◌≤◌, ◌<◌, ◌≡◌, List, ◌∷◌, length, get_or, drop, leb, true, false}
use Rattle.std.proofs.Math.Path.{ap, sym}
use Rattle.std.proofs.Common.{◌∙◌, add-one, drop-cons, arith, leb-true}
use Rattle.std.proofs.Math.ListN.{drop_of_length-le}
use Rattle.grammar.proofs.Each.{both_left, both_right}
use Rattle.grammar.specs.Reader.{got, no, skip, is_digit, digits, number}
use Rattle.grammar.proofs.Agree.{skip_at, skip_space, digits_stop, digits_on, number_nought, number_on, number_off}

module _ (s : List ℕ) (i : ℕ) where
  pub skip_end : length s ≤ i → skip (drop i s) ≡ drop i s
  unfolding skip
  skip_end h = let e = drop_of_length-le s h in ap skip e ∙ sym e

  pub skip_stop : i < length s → (get_or s i 0 ≡ 32 → ⊥) → skip (drop i s) ≡ drop i s
  skip_stop h n = let e = drop-cons s i 0 h in ap skip e ∙ skip_at (get_or s i 0) (drop (suc i) s) n ∙ sym e

  pub skip_on : i < length s → get_or s i 0 ≡ 32 → skip (drop (i + 1) s) ≡ skip (drop i s)
  skip_on h e =
      ap (λ (j : ℕ). skip (drop j s)) (add-one i) ∙ sym (ap skip (drop-cons s i 0 h ∙ ap (λ (b : ℕ). b ∷ drop (suc i) s) e) ∙ skip_space (drop (suc i) s))

module _ (s : List ℕ) (i : ℕ) where
  pub digits_end_at : (v : ℕ) → length s ≤ i → digits v 0 (drop i s) ≡ got v 0 (drop i s)
  unfolding digits
  digits_end_at v h = let e = drop_of_length-le s h in ap (digits v 0) e ∙ sym (ap (got v 0) e)

  pub digits_stop_at : (v : ℕ) → i < length s → is_digit (get_or s i 0) ≡ false → digits v 0 (drop i s) ≡ got v 0 (drop i s)
  digits_stop_at v h n = let e = drop-cons s i 0 h in ap (digits v 0) e ∙ digits_stop v 0 (get_or s i 0) (drop (suc i) s) n ∙ sym (ap (got v 0) e)

  pub digits_on_at : (v : ℕ) → i < length s → is_digit (get_or s i 0) ≡ true → digits v 0 (drop i s) ≡ digits (v * 10 + (get_or s i 0 - 48)) 0 (drop (i + 1) s)
  digits_on_at v h n =
      ap (digits v 0) (drop-cons s i 0 h) ∙ digits_on v 0 (get_or s i 0) (drop (suc i) s) n
      ∙ sym (ap (λ (j : ℕ). digits (v * 10 + (get_or s i 0 - 48)) 0 (drop j s)) (add-one i))

  pub number_end_at : length s ≤ i → number 0 (drop i s) ≡ no 13 (drop i s)
  unfolding number
  number_end_at h = let e = drop_of_length-le s h in ap (number 0) e ∙ sym (ap (no 13) e)

  pub number_nought_at : i < length s → get_or s i 0 ≡ 48 → number 0 (drop i s) ≡ got 0 0 (drop (i + 1) s)
  number_nought_at h e =
      ap (number 0) (drop-cons s i 0 h ∙ ap (λ (b : ℕ). b ∷ drop (suc i) s) e) ∙ number_nought 0 (drop (suc i) s)
      ∙ sym (ap (λ (j : ℕ). got 0 0 (drop j s)) (add-one i))

  pub number_off_at : i < length s → is_digit (get_or s i 0) ≡ false → number 0 (drop i s) ≡ no 13 (drop i s)
  number_off_at h n = let e = drop-cons s i 0 h in ap (number 0) e ∙ number_off 0 (get_or s i 0) (drop (suc i) s) n ∙ sym (ap (no 13) e)

  pub number_on_at : i < length s → (get_or s i 0 ≡ 48 → ⊥) → is_digit (get_or s i 0) ≡ true → number 0 (drop i s) ≡ digits (get_or s i 0 - 48) 0 (drop (i + 1) s)
  number_on_at h z n =
      ap (number 0) (drop-cons s i 0 h) ∙ number_on 0 (get_or s i 0) (drop (suc i) s) (digit_low z n) (digit_high n)
      ∙ sym (ap (λ (j : ℕ). digits (get_or s i 0 - 48) 0 (drop j s)) (add-one i))
    where
      digit_low : (get_or s i 0 ≡ 48 → ⊥) → is_digit (get_or s i 0) ≡ true → 49 ≤ get_or s i 0
      digit_low z n = let h = leb-true 48 (get_or s i 0) (both_left (leb 48 (get_or s i 0)) (leb (get_or s i 0) 57) n) in omega arith

      digit_high : is_digit (get_or s i 0) ≡ true → get_or s i 0 ≤ 57
      digit_high n = leb-true (get_or s i 0) 57 (both_right (leb 48 (get_or s i 0)) (leb (get_or s i 0) 57) n)
