use Prim.Native.Nat.{ℕ, zero, suc}
use native.Mathlib.Omega.{arith}
use mathlib.Core.Path.{◌≡◌, refl, sym, ap, ◌∙◌}
use mathlib.Core.Bool.{Bool, true, false, not, ◌||◌}
use mathlib.Core.List.{[], ◌∷◌}
use lib.Bits.{bit_or, or_add_and, and_le_l, and_le_r}
use lib.Dec.{eqb, ltb}
use borrow.Author.Tests.{ne_eqb, lt-ltb, le-ltb, ltb-true, ltb-false}
use Rattle.floor.specs.Floor.{seen}
use Rattle.floor.proofs.judging.any_counted.Goals as goal

not-zero : (n : ℕ) → not (eqb n 0) ≡ ltb 0 n
not-zero zero = refl
not-zero (suc n) = ap not (ne_eqb (suc n) 0 (λ e. omega arith)) ∙ sym (lt-ltb 0 (suc n) (omega arith))

-- two numbers joined are 0 only if both are
joined : (a b : ℕ) → ltb 0 (bit_or a b) ≡ ltb 0 a || ltb 0 b
joined a b = go (ltb 0 a) (ltb 0 b) refl refl
  where
    go : (p q : Bool) → ltb 0 a ≡ p → ltb 0 b ≡ q → ltb 0 (bit_or a b) ≡ p || q
    go true q e f = lt-ltb 0 (bit_or a b) (omega (arith, or_add_and a b, and_le_r a b, ltb-true 0 a e))
    go false true e f = lt-ltb 0 (bit_or a b) (omega (arith, or_add_and a b, and_le_l a b, ltb-true 0 b f))
    go false false e f = le-ltb 0 (bit_or a b) (omega (arith, or_add_and a b, ltb-false 0 a e, ltb-false 0 b f))

in_a_row : (p q r s : Bool) → ((p || q) || r) || s ≡ p || (q || (r || (s || false)))
in_a_row true q r s = refl
in_a_row false true r s = refl
in_a_row false false true s = refl
in_a_row false false false true = refl
in_a_row false false false false = refl

all_four : (a b c d : ℕ) → not (eqb (bit_or (bit_or (bit_or a b) c) d) 0) ≡ seen (a ∷ b ∷ c ∷ d ∷ [])
all_four a b c d =
    not-zero (bit_or (bit_or (bit_or a b) c) d) ∙ joined (bit_or (bit_or a b) c) d
    ∙ ap (λ (x : Bool). x || ltb 0 d) (joined (bit_or a b) c ∙ ap (λ (x : Bool). x || ltb 0 c) (joined a b))
    ∙ in_a_row (ltb 0 a) (ltb 0 b) (ltb 0 c) (ltb 0 d)

pub returns : goal.returns
returns c = let a = c.args in all_four a.lanes a.carts a.narrow a.groups
