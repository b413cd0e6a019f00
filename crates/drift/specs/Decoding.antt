-- What is decoded of a node's kind, by its number.
use Rattle.std.specs.Prelude.{ℕ, ◌≤◌, ◌<◌, ◌≡◌, true, ltb}
use Rattle.std.proofs.Common.{⊎_elim, lt-ltb, le-ltb, arith}
use Rattle.std.proofs.Math.Path.{refl}
use Rattle.grammar.specs.Nodes.{neg₁, next₁}
use Rattle.cltl.proofs.Basics.{lt_or_le}
use Rattle.token.specs.declared.Unary.{Unary}
use Rattle.token.specs.declared.Unary.TheVariants.{Not, Next, Finally, Globally}
use Rattle.token.specs.declared.Binary.{Binary}
use Rattle.token.specs.declared.Kind.{Kind}
use Rattle.token.specs.declared.Kind.TheVariants.{Top, Mark, Unary as OneOperand, Binary as TwoOperands, Count}
use Rattle.drift.specs.Tree.{is_leaf, one_of, two_of}
use Rattle.drift.specs.Decoded.{unary_of, hands_on, IsKind}

-- what is no operator is a leaf
pub leaf_is : (r : Kind) (n : ℕ) → IsKind r n → ((o : Unary) → r ≡ OneOperand o → ⊥) → ((o : Binary) → r ≡ TwoOperands o → ⊥) → is_leaf n ≡ true
leaf_is Top n e f g = rw e
leaf_is Mark n e f g = rw e
leaf_is (OneOperand o) n e f g = absurd (f o refl)
leaf_is (TwoOperands o) n e f g = absurd (g o refl)
leaf_is (Count percent) n e f g = rw (le-ltb n 2 (omega arith), lt-ltb 9 n (omega arith))

-- the unary operator of a number
module _ (n : ℕ) (low : 2 ≤ n) (high : n < 6) where
  by_number : (P : ℕ → Type 0) → P 2 → P 3 → P 4 → P 5 → P n
  by_number P a b c d =
      ⊎_elim (λ x. let e : n ≡ 2 = omega arith in rw e a)
      (λ x. ⊎_elim (λ y. let e : n ≡ 3 = omega arith in rw e b)
      (λ y. ⊎_elim (λ z. let e : n ≡ 4 = omega arith in rw e c) (λ z. let e : n ≡ 5 = omega arith in rw e d) (lt_or_le n 5)) (lt_or_le n 4)) (lt_or_le n 3)

  pub number_not : one_of n ≡ neg₁ → n ≡ 2
  number_not = by_number (λ (n : ℕ). one_of n ≡ neg₁ → n ≡ 2) (λ e. refl) (λ e. absurd (cc)) (λ e. absurd (cc)) (λ e. absurd (cc))

  pub number_next : one_of n ≡ next₁ → n ≡ 3
  number_next = by_number (λ (n : ℕ). one_of n ≡ next₁ → n ≡ 3) (λ e. absurd (cc)) (λ e. refl) (λ e. absurd (cc)) (λ e. absurd (cc))

pub unary_not : (o : Unary) → unary_of o ≡ neg₁ → o ≡ Not
unary_not Not e = refl
unary_not Next e = absurd (cc)
unary_not Finally e = absurd (cc)
unary_not Globally e = absurd (cc)

-- of the binary operators' numbers the lower two are those of an and and of an or
pub number_hands : (n : ℕ) → 6 ≤ n → n < 10 → ltb n 8 ≡ hands_on (two_of n)
number_hands n low high =
    ⊎_elim (λ x. let e : n ≡ 6 = omega arith in rw e)
    (λ x. ⊎_elim (λ y. let e : n ≡ 7 = omega arith in rw e)
    (λ y. ⊎_elim (λ z. let e : n ≡ 8 = omega arith in rw e) (λ z. let e : n ≡ 9 = omega arith in rw e) (lt_or_le n 9)) (lt_or_le n 8)) (lt_or_le n 7)

next_unary : (o : Unary) → next₁ ≡ unary_of o → o ≡ Next
next_unary Not e = absurd (cc)
next_unary Next e = refl
next_unary Finally e = absurd (cc)
next_unary Globally e = absurd (cc)

pub three : (r : Kind) (n : ℕ) → IsKind r n → n ≡ 3 → r ≡ OneOperand Next
three Top n e q = absurd (omega arith)
three Mark n e q = absurd (omega arith)
three (OneOperand o) n e q = let is = next_unary o (rw q at e.2) in rw is
three (TwoOperands o) n e q = absurd (omega arith)
three (Count percent) n e q = absurd (omega arith)

pub same_unary : (o o' : Unary) → OneOperand o ≡ OneOperand o' → o ≡ o'
same_unary o o' e = cc
