-- Rows that go on where others are after s moves: their run in step is the suffix of the others' from moment s on. Document 02, 7).
use Rattle.std.specs.Prelude.{ℕ, ◌+◌, ◌<◌, ◌≡◌}
use Rattle.grammar.specs.Grammar.{Clause}
use Rattle.row.specs.Lasso.{step_of}
use Rattle.cltl.specs.Meaning.{Rows, InStepAt}

-- Q has the carts and groups of P, and at each counter v of a cart the marks that P has at s + v
pub record Suffix (P Q : Rows) (s : ℕ) : Type 0 where
  pub carts : Q.carts ≡ P.carts
  pub member : (g i : ℕ) → i < P.carts → Q.member g i ≡ P.member g i
  pub bears : (i k v : ℕ) → i < P.carts → Q.bears i (step_of Q.h Q.l v) k ≡ P.bears i (step_of P.h P.l (s + v)) k

-- true in step "at the step on which counter s stood"
abbrev pub TrueOnStep : Rows → ℕ → Clause → Type 0
TrueOnStep P s c = InStepAt P c (step_of P.h P.l s)
