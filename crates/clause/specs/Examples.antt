-- Worked cases: the part that a verdict's bytes pick, by computation.
use Rattle.std.specs.Prelude.{ℕ, ◌≡◌, refl, List, [], ◌∷◌, ◌++◌, take}
use Rattle.endian.specs.Little.{bytes, value}
use Rattle.refusal.specs.Codes.{refused, code_of, bytes_of}
use Rattle.refusal.specs.declared.Verdict.TheVariants.{Accepted, Plan, Rules}
use Rattle.clause.specs.Clause.{names_clause, picks, line_start, line_length, empty_span, clause_in, span, part}
use Rattle.clause.specs.declared.Span.{Span}

-- two clauses, `true` and ` !true`
abbrev two : List ℕ
two = 116 ∷ 114 ∷ 117 ∷ 101 ∷ 10 ∷ 32 ∷ 33 ∷ 116 ∷ 114 ∷ 117 ∷ 101 ∷ 10 ∷ []

-- a refusal of the rules, with the clause as its first further number
abbrev rules : ℕ → ℕ → List ℕ
rules number k = bytes_of (code_of (Rules (refused number k 0)))

-- the definitions that a case computes with, under one name
computing : List ℕ → List ℕ → Span
unfolding span picks names_clause clause_in line_start line_length bytes value
computing sheet verdict = span sheet verdict

pub worked :
    (span two (rules 17 0) ≡ record { offset = 0; length = 4 })
    -- spaces included
    × (part two (rules 16 1) ≡ 32 ∷ 33 ∷ 116 ∷ 114 ∷ 117 ∷ 101 ∷ [])
    × (part two (rules 21 1) ≡ 32 ∷ 33 ∷ 116 ∷ 114 ∷ 117 ∷ 101 ∷ [])
    -- a clause the sheet lacks, and a second line without its byte 10
    × (span two (rules 17 2) ≡ empty_span)
    × (span (take 11 two) (rules 17 1) ≡ empty_span)
    -- a line of no bytes is a clause, and its part is empty where it stands
    × (span (10 ∷ 10 ∷ []) (rules 17 1) ≡ record { offset = 1; length = 0 })
    -- other numbers name no clause: 13 and 15 give an offset, 18 a length, 20 a cart
    × (span two (rules 13 1) ≡ empty_span)
    × (span two (rules 15 1) ≡ empty_span)
    × (span two (rules 18 1) ≡ empty_span)
    × (span two (rules 20 1) ≡ empty_span)
    × (span two (rules 22 1) ≡ empty_span)
    -- about the plan, and accepted
    × (span two (bytes_of (code_of (Plan (refused 17 1 0)))) ≡ empty_span)
    × (span two (bytes_of (code_of (Plan (refused 21 1 0)))) ≡ empty_span)
    × (span two (bytes_of (code_of Accepted)) ≡ empty_span)
    -- 15 and 17 bytes of a verdict
    × (span two (take 15 (rules 17 1)) ≡ empty_span)
    × (span two (rules 17 1 ++ (0 ∷ [])) ≡ empty_span)
unfolding computing
worked = (refl, refl, refl, refl, refl, refl, refl, refl, refl, refl, refl, refl, refl, refl, refl, refl)
