-- The part of a sheet that a verdict picks.
use Rattle.std.specs.Prelude.{ℕ, zero, suc, ◌+◌, Bool, cond, ◌&&◌, ◌||◌, List, [], ◌∷◌, eqb, ltb, length, take, drop}
use Rattle.refusal.specs.Codes.{code_in}
use Rattle.clause.specs.declared.Span.{Span}

-- "A clause refused by its number (as in 16 and 17)"; document 02, 6): and as in 21
unfoldable pub names_clause : ℕ → Bool
names_clause n = eqb n 21 || (eqb n 16 || eqb n 17)

-- "picked by the verdict": its 16 bytes are about the rules (3), and its number is one that names a clause
unfoldable pub picks : List ℕ → Bool
picks verdict = eqb (length verdict) 16 && (eqb (code_in verdict).about 3 && names_clause (code_in verdict).number)

-- "each line ended by byte 10"
abbrev pub is_end : ℕ → Bool
is_end b = eqb b 10

-- "Clauses are numbered from 0": line k begins right behind the k-th byte 10. Where there are fewer, it would begin behind the text.
unfoldable pub line_start : ℕ → List ℕ → ℕ
line_start k [] = 0
line_start zero (b ∷ s) = 0
line_start (suc k) (b ∷ s) = suc (line_start (cond (is_end b) k (suc k)) s)

-- "first byte to last before the line end": how many bytes stand before the first byte 10, all where there is none
unfoldable pub line_length : List ℕ → ℕ
line_length [] = 0
line_length (b ∷ s) = cond (is_end b) 0 (suc (line_length s))

-- "the empty part at offset 0"
abbrev pub empty_span : Span
empty_span = record { offset = 0; length = 0 }

-- clause k of a text: line k if byte 10 ends it, else "a clause the sheet lacks"
unfoldable pub clause_in : ℕ → List ℕ → Span
clause_in k s =
    let start = line_start k s in
    let size = line_length (drop start s) in
    cond (ltb (start + size) (length s)) (record { offset = start; length = size }) empty_span

-- "Any other verdict, or a clause the sheet lacks, gives the empty part at offset 0." The clause's number is the first further number.
unfoldable pub span : List ℕ → List ℕ → Span
span sheet verdict = cond (picks verdict) (clause_in (code_in verdict).first sheet) empty_span

-- the bytes there
abbrev pub part : List ℕ → List ℕ → List ℕ
part sheet verdict = take (span sheet verdict).length (drop (span sheet verdict).offset sheet)
