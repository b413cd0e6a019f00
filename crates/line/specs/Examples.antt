-- The lines on small cases, by computation.
use Rattle.std.specs.Prelude.{ℕ, ◌≡◌, refl, List}
use Rattle.refusal.specs.Codes.{refused, code_of}
use Rattle.refusal.specs.declared.Verdict.{Verdict}
use Rattle.refusal.specs.declared.Verdict.TheVariants.{Accepted, Written, Floor, Plan, Rules}
use Rattle.line.specs.Decimal.{spelled}
use Rattle.line.specs.Line.{ascii, line_of, answer_line}

abbrev verdict : Verdict → List ℕ
verdict v = line_of (code_of v)

abbrev answer : Verdict → List ℕ
answer v = answer_line (code_of v)

abbrev numbered : ℕ → ℕ → ℕ → ℕ → List ℕ
numbered about number first second = line_of (record { about = about; number = number; first = first; second = second })

pub lines :
    (verdict Accepted ≡ ascii "accepted\n")
    × (verdict (Rules (refused 17 0 0)) ≡ ascii "refused rules 17 0 0\n")
    × (verdict (Floor (refused 7 0 0)) ≡ ascii "refused floor 7 0 0\n")
    × (verdict (Floor (refused 5 2048 0)) ≡ ascii "refused floor 5 2048 0\n")
    × (verdict (Plan (refused 11 31 62)) ≡ ascii "refused plan 11 31 62\n")
    × (verdict (Plan (refused 19 4294967295 0)) ≡ ascii "refused plan 19 4294967295 0\n")
    × (verdict (Plan (refused 9 10 109)) ≡ ascii "refused plan 9 10 109\n")
    -- about no file, and about one that document 01 does not know
    × (numbered 0 18 32 0 ≡ ascii "refused 18 32 0\n")
    × (numbered 4 18 32 0 ≡ ascii "refused 18 32 0\n")
    -- number 0 accepts, whatever else there is
    × (numbered 2 0 0 0 ≡ ascii "accepted\n")
    × (verdict (Written 26) ≡ ascii "accepted\n")
    -- where a result is written
    × (answer (Written 26) ≡ ascii "done 26\n")
    × (answer Accepted ≡ ascii "accepted\n")
    × (answer (Plan (refused 18 26 0)) ≡ ascii "refused plan 18 26 0\n")
unfolding spelled
lines = (refl, refl, refl, refl, refl, refl, refl, refl, refl, refl, refl, refl, refl, refl)
