-- The carts that a count is over, by their word.
use Rattle.std.specs.Prelude.{ℕ, zero, suc, ◌+◌, ◌*◌, ◌/◌, ◌%◌, ◌^◌, ◌<◌, ◌≡◌, refl, Bool, cond, List, eqb}
use Rattle.std.proofs.Common.{sym, ap, ap₂, ◌∙◌}
use Rattle.std.specs.Int.Count.{ones}
use Rattle.std.proofs.Math.Dec.{eqb-suc-zero}
use Rattle.grammar.specs.Grammar.{Inner, counted}
use Rattle.cltl.specs.Counting.{tally}
use Rattle.cltl.specs.Threshold.{threshold, quota}
use Rattle.cltl.specs.Meaning.{Rows, among, size}
use Rattle.cltl.specs.Rules.{asked}
use Rattle.mask.specs.Mask.{on}
use Rattle.mask.specs.EachBit.{on_ones}
use Rattle.quorum.specs.Ones.{counted as counted-ones}
use Rattle.drift.specs.declared.Ground.{Ground}
use Rattle.drift.specs.Tree.{kind_at, second_at, third_at, over_of, amount_at}
use Rattle.drift.specs.Lent.{who_of, Lent}
use Rattle.drift.specs.Answer.{rows_on}

-- the words of the table are those of the fleet and of the groups
pub who_is : (g : Ground) (t b : List ℕ) → Lent g t b → (bears : ℕ → ℕ → ℕ → Bool) (o i : ℕ) → i < g.carts
    → on (who_of b o) i ≡ among (rows_on g.carts g.lasso.h g.lasso.l bears b) (over_of o) i
who_is g t b lent bears zero i p = ap (λ (x : ℕ). on x i) lent.fleet ∙ on_ones g.carts i p
who_is g t b lent bears (suc n) i p = refl

-- a word of carts has as many bits
module _ (P : Rows) (who carts o : ℕ) (low : who < 2 ^ carts) (all : P.carts ≡ carts) (is : (i : ℕ) → i < carts → on who i ≡ among P (over_of o) i) where
  pub size_is : cond (eqb o 0) carts (ones who) ≡ size P (over_of o)
  size_is = go o is
    where
      go : (o : ℕ) → ((i : ℕ) → i < carts → on who i ≡ among P (over_of o) i) → cond (eqb o 0) carts (ones who) ≡ size P (over_of o)
      go zero is = sym all
      go (suc g) is =
          ap (λ (b : Bool). cond b carts (ones who)) (eqb-suc-zero g) ∙ counted-ones carts who (P.member g) (record { low = low; at = is })
          ∙ ap (tally (P.member g)) (sym all)

-- so its threshold is the count's
pub asked_is : (P : Rows) (a : Inner) (nodes : List ℕ) (k : ℕ) (p : Bool) (size' number m : ℕ)
    → size' ≡ size P (over_of (third_at nodes k / 4))
    → number ≡ second_at nodes k + 256 * (third_at nodes k % 4)
    → m ≡ quota p (threshold number (eqb (kind_at nodes k) 11) size') size' → m ≡ asked P (p, counted a (amount_at nodes k))
asked_is P a nodes k p size' number m es en em = em ∙ ap₂ (λ (n z : ℕ). quota p (threshold n (eqb (kind_at nodes k) 11) z) z) en es
