-- The rule of one operator, on the rows of its operands.
use Rattle.std.specs.Prelude.{ℕ, Bool, not, ◌||◌}
use Rattle.grammar.specs.Grammar.{Form, and, or}
use Rattle.grammar.specs.Nodes.{Op₁, neg₁, next₁, ev₁, gl₁, Op₂, and₂, or₂, until₂, release₂}
use Rattle.row.specs.Lasso.{next_step}
use Rattle.cltl.specs.Rules.{join, fix}

-- the flag of an operand
abbrev pub under : Op₁ → Bool → Bool
under neg₁ p = not p
under next₁ p = p
under ev₁ p = p
under gl₁ p = p

-- the or that a binary operator is or asks for, as a flag has it: under a negation a & b is one
abbrev pub or_of : {L : Type 0} → Op₂ → Form L → Form L → Form L
or_of and₂ a b = and a b
or_of or₂ a b = or a b
or_of until₂ a b = or a b
or_of release₂ a b = and a b

-- whether there is one under a flag: a | b and what a U b asks for as they stand, a & b and what a R b asks for negated
abbrev pub is_or : Op₂ → Bool → Bool
is_or and₂ p = not p
is_or or₂ p = p
is_or until₂ p = p
is_or release₂ p = not p

-- under a flag: a negation is in its operand's flag already; F a is true U a, and G a is !F !a
module _ (h l : ℕ) (p : Bool) where
  abbrev pub one_rule : Op₁ → (ℕ → Bool) → ℕ → Bool
  one_rule neg₁ f s = f s
  one_rule next₁ f s = f (next_step h l s)
  one_rule ev₁ f s = fix h l p (λ s. p) f h s
  one_rule gl₁ f s = fix h l (not p) (λ s. not p) f h s

  -- z tells where the or of the operands is also true, be it the operator or what it asks for
  abbrev pub two_rule : Op₂ → (z f g : ℕ → Bool) → ℕ → Bool
  two_rule and₂ z f g s = z s || join p (f s) (g s)
  two_rule or₂ z f g s = z s || join (not p) (f s) (g s)
  two_rule until₂ z f g s = fix h l p (λ s. z s || f s) g h s
  two_rule release₂ z f g s = fix h l (not p) (λ s. z s || f s) g h s

  -- inner text is exact, so that its negation is the complement
  abbrev pub exact_rule : Op₁ → (ℕ → Bool) → ℕ → Bool
  exact_rule neg₁ f s = not (f s)
  exact_rule next₁ f s = one_rule next₁ f s
  exact_rule ev₁ f s = one_rule ev₁ f s
  exact_rule gl₁ f s = one_rule gl₁ f s
