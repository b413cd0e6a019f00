-- Worked cases: the verdict on a sheet from its bytes, by computation. The offset is the first further number, and the verdict is about the rules.
use Rattle.std.specs.Prelude.{ℕ, zero, suc, ◌≡◌, refl, List, [], ◌∷◌, ◌++◌}
use Prim.Native.Char.{code}
use Prim.Native.String.{String, [] as end, ◌∷◌ as ◌then◌}
use Rattle.refusal.specs.Codes.{refused}
use Rattle.refusal.specs.declared.Verdict.{Verdict}
use Rattle.refusal.specs.declared.Verdict.TheVariants.{Accepted, Rules as AboutRules}
use Rattle.grammar.specs.Reader.{bind, node, skip, expect_at, expect, literal, digits, number, percent, chain_at, chain_more, chain, and_chain, or_chain, by_kind, small_at, small_of, by_onward, until_at, until_of, deeper, smalls, untils, ors, mark_by, marks, inners, limits, group_digit, over_at, overs, amounts, count_end, count_by, counts, clauses, clause_line, lines, outcome, start, read_sheet}
use Rattle.sheet.specs.Rules.{rules_verdict}

-- a text's bytes
abbrev text : String → List ℕ
text end = []
text (c then s) = code c ∷ text s

-- the bytes of s, k times
abbrev times : ℕ → String → List ℕ
times zero s = []
times (suc k) s = text s ++ times k s

abbrev verdict : String → Verdict
verdict s = rules_verdict (text s)

abbrev rules : ℕ → ℕ → ℕ → Verdict
rules number first second = AboutRules (refused number first second)

-- the definitions that a reading computes with, under one name
reading : List ℕ → Verdict
unfolding
    bind node skip expect_at expect literal digits number percent chain_at chain_more chain and_chain or_chain by_kind small_at small_of by_onward until_at until_of deeper smalls untils ors mark_by marks inners
    limits group_digit over_at overs amounts count_end count_by counts clauses clause_line lines outcome start read_sheet rules_verdict
reading s = rules_verdict s

pub worked :
    (verdict "[m0,1]\n" ≡ Accepted)
    × (verdict "[m31,999] U [m0,100%]\n G true \n" ≡ Accepted)
    -- a byte that cannot stand there, and where it ends early
    × (verdict "[m0,1]x" ≡ rules 13 6 0)
    × (verdict "true\ntrue" ≡ rules 13 9 0)
    -- the empty sheet
    × (verdict "" ≡ rules 7 0 0)
    -- numbers out of range: a mark's first digit, a count's number, a percentage
    × (verdict "true\n[m32,1]\n" ≡ rules 15 7 0)
    × (verdict "[m0,1000]\n" ≡ rules 15 4 0)
    × (verdict "[m0,101%]\n" ≡ rules 15 4 0)
    -- a group behind a count's number, and a digit that no group has
    × (verdict "[m0,1 @7]\n" ≡ Accepted)
    × (verdict "[m0,1@8]\n" ≡ rules 13 6 0)
    -- the 33rd level, and the 33rd line whatever stands in it
    × (rules_verdict (times 33 "!") ≡ rules 14 32 0)
    × (rules_verdict (times 32 "true\n" ++ text "x") ≡ rules 14 160 0)
    -- 16,384 bytes are read, and one more is too many whatever stands there
    × (rules_verdict (times 16384 "x") ≡ rules 13 0 0)
    × (rules_verdict (times 16385 "x") ≡ rules 12 0 0)
unfolding reading
worked = (refl, refl, refl, refl, refl, refl, refl, refl, refl, refl, refl, refl, refl, refl)
