-- The block that holds a clause's nodes, four bytes to each.
use Rattle.std.specs.Prelude.{ℕ, suc, ◌+◌, ◌*◌, ◌/◌, ◌%◌, Bool, true, false, cond, eqb, List, [], ◌∷◌, ◌++◌}
use Rattle.grammar.specs.Grammar.{Over, fleet, group, amount}
use Rattle.grammar.specs.Nodes.{Node, top_n, mark_n, count_n, one_n, two_n, Op₁, neg₁, next₁, ev₁, gl₁, Op₂, and₂, or₂, until₂, release₂}
use Rattle.token.specs.declared.Unary.{Unary}
use Rattle.token.specs.declared.Unary.TheVariants.{Not, Next, Finally, Globally}
use Rattle.token.specs.declared.Binary.{Binary}
use Rattle.token.specs.declared.Binary.TheVariants.{And, Or, Until, Release}
use Rattle.token.specs.declared.Kind.{Kind}
use Rattle.token.specs.declared.Kind.TheVariants.{Top, Mark, Unary as OneOperand, Binary as TwoOperands, Count}

abbrev pub unary_byte : Unary → ℕ
unary_byte Not = 2
unary_byte Next = 3
unary_byte Finally = 4
unary_byte Globally = 5

abbrev pub binary_byte : Binary → ℕ
binary_byte And = 6
binary_byte Or = 7
binary_byte Until = 8
binary_byte Release = 9

-- a count, and whether its number is a percentage
abbrev pub count_byte : Bool → ℕ
count_byte false = 10
count_byte true = 11

-- what a node is, in its first byte
abbrev pub kind_byte : Kind → ℕ
kind_byte Top = 0
kind_byte Mark = 1
kind_byte (OneOperand o) = unary_byte o
kind_byte (TwoOperands o) = binary_byte o
kind_byte (Count percent) = count_byte percent

-- and back; any byte above 11 is taken for a count by number
abbrev pub kind_of : ℕ → Kind
kind_of b =
    cond (eqb b 0) Top
    (cond (eqb b 1) Mark
    (cond (eqb b 2) (OneOperand Not)
    (cond (eqb b 3) (OneOperand Next)
    (cond (eqb b 4) (OneOperand Finally)
    (cond (eqb b 5) (OneOperand Globally)
    (cond (eqb b 6) (TwoOperands And)
    (cond (eqb b 7) (TwoOperands Or) (cond (eqb b 8) (TwoOperands Until) (cond (eqb b 9) (TwoOperands Release) (Count (eqb b 11)))))))))))

abbrev pub one_byte : Op₁ → ℕ
one_byte neg₁ = 2
one_byte next₁ = 3
one_byte ev₁ = 4
one_byte gl₁ = 5

abbrev pub two_byte : Op₂ → ℕ
two_byte and₂ = 6
two_byte or₂ = 7
two_byte until₂ = 8
two_byte release₂ = 9

-- a count's carts
abbrev pub over_number : Over → ℕ
over_number fleet = 0
over_number (group g) = suc g

-- its operands' numbers; a mark's number; a count's inner text and its amount
abbrev pub node_bytes : Node → List ℕ
node_bytes top_n = 0 ∷ 0 ∷ 0 ∷ 0 ∷ []
node_bytes (mark_n k) = 1 ∷ k ∷ 0 ∷ 0 ∷ []
node_bytes (one_n o j) = one_byte o ∷ j ∷ 0 ∷ 0 ∷ []
node_bytes (two_n o j k) = two_byte o ∷ j ∷ k ∷ 0 ∷ []
node_bytes (count_n j (amount n p o)) = count_byte p ∷ j ∷ n % 256 ∷ (n / 256 + 4 * over_number o) ∷ []

unfoldable pub nodes_bytes : List Node → List ℕ
nodes_bytes [] = []
nodes_bytes (x ∷ ns) = node_bytes x ++ nodes_bytes ns
