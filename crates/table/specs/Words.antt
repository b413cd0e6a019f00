-- One word, bit by bit.
use Rattle.std.specs.Prelude.{ℕ, ◌-◌, ◌^◌, ◌≡◌, refl, Bool, true, false, not, ◌&&◌, ◌||◌}
use Rattle.std.proofs.Common.{ap, ap₂, ◌∙◌}
use Rattle.std.proofs.Math.Bool.{xor}
use Rattle.std.specs.Int.Bits.{bit_and, bit_or, bit_xor}
use Rattle.cltl.specs.Rules.{join, mix}
use Rattle.mask.specs.Mask.{on, signed}
use Rattle.mask.specs.EachBit.{on_and, on_or, on_xor, on_ones, on_zero}
use Rattle.table.specs.Table.{Word}

pub all_word : Word (λ i. true) (2 ^ 32 - 1)
all_word i p = on_ones 32 i p

pub none_word : Word (λ i. false) 0
none_word i p = on_zero i

module _ (a b : ℕ) where
  pub both_word : Word (λ i. join true (on a i) (on b i)) (bit_and a b)
  both_word i p = on_and a b i

  pub either_word : Word (λ i. join false (on a i) (on b i)) (bit_or a b)
  either_word i p = on_or a b i

module _ (a b v : ℕ) where
  pub until_word : Word (λ i. mix true (on a i) (on b i) (on v i)) (bit_or b (bit_and a v))
  until_word i p = on_or b (bit_and a v) i ∙ ap (λ (x : Bool). on b i || x) (on_and a v i)

  pub release_word : Word (λ i. mix false (on a i) (on b i) (on v i)) (bit_and b (bit_or a v))
  release_word i p = on_and b (bit_or a v) i ∙ ap (λ (x : Bool). on b i && x) (on_or a v i)

turned : (p x : Bool) → xor x (not p) ≡ signed p x
unfolding xor
turned true true = refl
turned true false = refl
turned false true = refl
turned false false = refl

-- a word as it is, or turned over
pub signed_word : (p : Bool) (a flip : ℕ) → Word (λ i. not p) flip → Word (λ i. signed p (on a i)) (bit_xor a flip)
signed_word p a flip f i q = on_xor a flip i ∙ ap (xor (on a i)) (f i q) ∙ turned p (on a i)

pub not_word : (a : ℕ) → Word (λ i. not (on a i)) (bit_xor a (2 ^ 32 - 1))
not_word a = signed_word false a (2 ^ 32 - 1) all_word

pub either_signed : (p q : Bool) (a b c d : ℕ) → Word (λ i. not p) c → Word (λ i. not q) d
    → Word (λ i. signed p (on a i) || signed q (on b i)) (bit_or (bit_xor a c) (bit_xor b d))
either_signed p q a b c d f g i u =
    on_or (bit_xor a c) (bit_xor b d) i ∙ ap₂ (λ (x y : Bool). x || y) (signed_word p a c f i u) (signed_word q b d g i u)
