-- What a node is, as the code has it.
use Rattle.std.specs.Prelude.{ℕ, ◌≤◌, ◌<◌, ◌≡◌, Bool, true, false, eqb}
use Rattle.grammar.specs.Nodes.{Op₁, neg₁, next₁, ev₁, gl₁, Op₂, and₂, or₂, until₂, release₂}
use Rattle.token.specs.declared.Unary.{Unary}
use Rattle.token.specs.declared.Unary.TheVariants.{Not, Next, Finally, Globally}
use Rattle.token.specs.declared.Binary.{Binary}
use Rattle.token.specs.declared.Binary.TheVariants.{And, Or, Until, Release}
use Rattle.token.specs.declared.Kind.{Kind}
use Rattle.token.specs.declared.Kind.TheVariants.{Top, Mark, Unary as OneOperand, Binary as TwoOperands, Count}
use Rattle.drift.specs.Tree.{one_of, two_of}

abbrev pub unary_of : Unary → Op₁
unary_of Not = neg₁
unary_of Next = next₁
unary_of Finally = ev₁
unary_of Globally = gl₁

abbrev pub binary_of : Binary → Op₂
binary_of And = and₂
binary_of Or = or₂
binary_of Until = until₂
binary_of Release = release₂

-- the kind that a number stands for
abbrev pub IsKind : Kind → ℕ → Type 0
IsKind Top n = n ≡ 0
IsKind Mark n = n ≡ 1
IsKind (OneOperand o) n = (2 ≤ n) × (n < 6) × (one_of n ≡ unary_of o)
IsKind (TwoOperands o) n = (6 ≤ n) × (n < 10) × (two_of n ≡ binary_of o)
IsKind (Count percent) n = (10 ≤ n) × (percent ≡ eqb n 11)

-- an and or an or hands the counts of both sides on to an or around it
abbrev pub hands_on : Op₂ → Bool
hands_on and₂ = true
hands_on or₂ = true
hands_on until₂ = false
hands_on release₂ = false
