-- "A program reads files `floor`, `plan`, `rules` and prints one line: `accepted`, or `refused`, the file's name, the number and its two numbers, single
-- spaces between and byte 10 at the end."
use Rattle.std.specs.Prelude.{ℕ, cond, List, [], ◌∷◌, ◌++◌, eqb}
use Prim.Native.Char.{code}
use Prim.Native.String.{String, [] as end, ◌∷◌ as ◌then◌}
use Rattle.refusal.specs.declared.Code.{Code}
use Rattle.line.specs.Decimal.{decimal}

-- a word's bytes
abbrev pub ascii : String → List ℕ
ascii end = []
ascii (c then s) = code c ∷ ascii s

-- "single spaces between": a word, and behind it the others
abbrev pub spaced : List ℕ → List (List ℕ) → List ℕ
spaced w [] = w
spaced w (v ∷ vs) = w ++ (32 ∷ spaced v vs)

-- "and byte 10 at the end"
abbrev pub with_end : List ℕ → List ℕ
with_end s = s ++ (10 ∷ [])

-- "the file's name": 1 floor, 2 plan, 3 rules; a refusal about no file has none, and its line goes on with the numbers
abbrev pub file_name : ℕ → List (List ℕ)
file_name about =
    cond (eqb about 1) (ascii "floor" ∷ []) (cond (eqb about 2) (ascii "plan" ∷ []) (cond (eqb about 3) (ascii "rules" ∷ []) []))

-- "the number and its two numbers"
abbrev pub three_numbers : Code → List (List ℕ)
three_numbers c = decimal c.number ∷ decimal c.first ∷ decimal c.second ∷ []

-- the line of a verdict: number 0 accepts, whatever it is about
abbrev pub line_of : Code → List ℕ
line_of c = with_end (cond (eqb c.number 0) (ascii "accepted") (spaced (ascii "refused") (file_name c.about ++ three_numbers c)))

-- not document 01's: what `cases` prints where a result was written, its length in bytes
abbrev pub done_line : ℕ → List ℕ
done_line n = with_end (spaced (ascii "done") (decimal n ∷ []))

-- the line of any operation: a verdict with number 0 and a length says what was written
abbrev pub answer_line : Code → List ℕ
answer_line c = cond (eqb c.number 0) (cond (eqb c.first 0) (line_of c) (done_line c.first)) (line_of c)
