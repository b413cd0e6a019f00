-- What the bytes before an offset have begun: lines, and in this line nodes and levels. Counted on the bytes, each of which has one role wherever it stands
-- in a sheet of the grammar; so that it needs no sheet within the limits that goes on, and a prefix operator with no node left for its operand has none.
use Rattle.std.specs.Prelude.{ℕ, suc, ◌≡◌, ◌⊎◌, Bool, true, false, ◌||◌, cond, List, [], ◌∷◌, length, take, eqb}
use Prim.Native.Char.{code}
use Prim.Native.String.{String, [] as end, ◌∷◌ as ◌then◌}

-- b is one of these characters
abbrev pub among : String → ℕ → Bool
among end b = false
among (c then s) b = eqb b (code c) || among s b

-- "every mark, `true`, operator and count is one, a count at its `[`"
abbrev pub is_node : ℕ → Bool
is_node b = among "tm!XFGUR&|[" b

-- "the number of open `(` and `[`, prefix operators awaiting their operand and U/R awaiting the end of their right side"
pub data Open : Type 0 where
  bracket operand side : Open

abbrev pub opens_level : ℕ → Bool
opens_level b = among "([!XFGUR" b

-- behind a smallest part no prefix operator before it awaits it
abbrev pub operand_ends : List Open → List Open
operand_ends [] = []
operand_ends (bracket ∷ o) = bracket ∷ o
operand_ends (operand ∷ o) = operand_ends o
operand_ends (side ∷ o) = side ∷ o

-- and behind an until-chain no U or R its right side's end
abbrev pub side_ends : List Open → List Open
side_ends [] = []
side_ends (bracket ∷ o) = bracket ∷ o
side_ends (operand ∷ o) = operand ∷ o
side_ends (side ∷ o) = side_ends o

abbrev pub bracket_ends : List Open → List Open
bracket_ends [] = []
bracket_ends (x ∷ o) = o

-- what is open behind a byte: `true` and a mark are smallest parts, and so is what `)` or `]` ends; no until-chain goes on past `&`, `|`, `,`, `)` or `]`
abbrev pub opened : ℕ → List Open → List Open
opened b o =
    cond (among "([" b) (bracket ∷ o)
    (cond (among "!XFG" b) (operand ∷ o)
    (cond (among "UR" b) (side ∷ o)
    (cond (among "tm" b) (operand_ends o)
    (cond (among "&|," b) (side_ends o)
    (cond (among ")]" b) (operand_ends (bracket_ends (side_ends o)))
    (cond (among "\n" b) [] o))))))

pub record Begun : Type 0 where
  pub lines : ℕ
  pub nodes : ℕ
  pub levels : List Open

-- one byte more
abbrev pub on_by : ℕ → Begun → Begun
on_by b x = record {
  lines = cond (eqb b (code "\n")) (suc x.lines) x.lines;
  nodes = cond (eqb b (code "\n")) 0 (cond (is_node b) (suc x.nodes) x.nodes);
  levels = opened b x.levels;
}

abbrev pub after : Begun → List ℕ → Begun
after x [] = x
after x (b ∷ s) = after (on_by b x) s

-- before offset k
abbrev pub begun : List ℕ → ℕ → Begun
begun s k = after (record { lines = 0; nodes = 0; levels = [] }) (take k s)

-- a token with the first byte b would be the 129th node, or open level 33
abbrev pub TooMany : Begun → ℕ → Type 0
TooMany x b = ((is_node b ≡ true) × (x.nodes ≡ 128)) ⊎ ((opens_level b ≡ true) × (length x.levels ≡ 32))
