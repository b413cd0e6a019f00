-- The reader on short sheets, and the level of one, by computation.
use Rattle.std.specs.Prelude.{ℕ, zero, suc, ◌≡◌, refl, true, false, List, [], ◌∷◌, ◌++◌, length}
use Prim.Native.String.{String}
use Rattle.grammar.specs.Grammar.{bytes, Part, word, parens, one_small, one_until, one_and, Spaces.none, Rank, top, leaf, neg, and, or, until, release, Inner, fleet, group, amount, counted, Count, Clause}
use Rattle.grammar.specs.Limits.{level, count_level}
use Rattle.grammar.specs.Groups.{groups}
use Rattle.grammar.specs.Begun.{begun}
use Rattle.grammar.specs.Reader.{bind, node, skip, expect_at, expect, literal, digits, number, percent, chain_at, chain_more, chain, and_chain, or_chain, by_kind, small_at, small_of, by_onward, until_at, until_of, deeper, smalls, untils, ors, mark_by, marks, inners, limits, group_digit, over_at, overs, amounts, count_end, count_by, counts, clauses, clause_line, lines, Read, accepted, refused, outcome, start, read_sheet}

-- the bytes of s, k times
abbrev times : ℕ → String → List ℕ
times zero s = []
times (suc k) s = bytes s ++ times k s

-- the definitions that a reading computes with, under one name
reading : List ℕ → Read
unfolding
    bind node skip expect_at expect literal digits number percent chain_at chain_more chain and_chain or_chain by_kind small_at small_of by_onward until_at until_of
    deeper smalls untils ors mark_by marks inners limits group_digit over_at overs amounts count_end count_by counts clauses clause_line lines outcome start
    read_sheet
reading s = read_sheet s

abbrev one : Inner → Read
one a = accepted (leaf (counted a (amount 1 false fleet)) ∷ [])

-- `true` in a chain of k `&`, behind k `!`, and on k lines
abbrev ands : ℕ → Clause
ands zero = top
ands (suc k) = and (ands k) top

abbrev nots : ℕ → Clause
nots zero = top
nots (suc k) = neg (nots k)

abbrev lines_of : ℕ → List Clause
lines_of zero = []
lines_of (suc k) = top ∷ lines_of k

-- The worked cases, one table.
pub worked :
    -- what a text means: "the chain U/R grouping to the right, the others to the left"; `|` over `&` over `U` and `R`
    ((read_sheet (bytes "[m1,1]\n") ≡ one (leaf 1))
    × (read_sheet (bytes "true\n ! true \n") ≡ accepted (top ∷ neg top ∷ []))
    × (read_sheet (bytes "[m0 R m1,1]\n") ≡ one (release (leaf 0) (leaf 1)))
    × (read_sheet (bytes "[m0 U m1 U m2,1]\n") ≡ one (until (leaf 0) (until (leaf 1) (leaf 2))))
    × (read_sheet (bytes "[m0 & m1 & m2,1]\n") ≡ one (and (and (leaf 0) (leaf 1)) (leaf 2)))
    × (read_sheet (bytes "[m0 | m1 | m2,1]\n") ≡ one (or (or (leaf 0) (leaf 1)) (leaf 2)))
    × (read_sheet (bytes "[m0 | m1 & m2 U m3,1]\n") ≡ one (or (leaf 0) (and (leaf 1) (until (leaf 2) (leaf 3)))))
    × (read_sheet (bytes "[m31,999]\n[m31,100%]\n")
    ≡ accepted (leaf (counted (leaf 31) (amount 999 false fleet)) ∷ leaf (counted (leaf 31) (amount 100 true fleet)) ∷ [])))
    -- exactly 128 nodes, level 32, 32 lines and 16,384 bytes are taken, and one more is refused at its first byte: 63 times `true&` are 126 nodes,
    -- and `[`, `!` and `U` count at their own byte. A mark out of range that is a node too many is 14, one without its number 13, a 33rd line 14 by any byte.
    × ((read_sheet (times 63 "true&" ++ bytes "[m1,1]\n") ≡ accepted (and (ands 62) (leaf (counted (leaf 1) (amount 1 false fleet))) ∷ []))
    × (read_sheet (times 63 "true&" ++ bytes "[!m1,1]\n") ≡ refused 14 317)
    × (read_sheet (times 63 "true&" ++ bytes "[!m32,1]\n") ≡ refused 14 317)
    × (read_sheet (times 63 "true&" ++ bytes "[!m,1]\n") ≡ refused 13 318)
    × (read_sheet (times 63 "true&" ++ bytes "!!!true\n") ≡ refused 14 317)
    × (read_sheet (times 63 "true&" ++ bytes "true U true\n") ≡ refused 14 322)
    × (read_sheet (times 64 "true&" ++ bytes "truex\n") ≡ refused 14 320)
    × (read_sheet (times 64 "true&" ++ bytes "[m1,1]\n") ≡ refused 14 320)
    × (read_sheet (times 32 "!" ++ bytes "true\n") ≡ accepted (nots 32 ∷ []))
    × (read_sheet (times 33 "!" ++ bytes "true\n") ≡ refused 14 32)
    × (read_sheet (times 32 "!" ++ bytes "[m0,1]\n") ≡ refused 14 32)
    × (read_sheet (times 31 "!" ++ bytes "(true U true)\n") ≡ refused 14 37)
    × (read_sheet (times 33 "true U " ++ bytes "true\n") ≡ refused 14 229)
    × (read_sheet (times 32 "true\n") ≡ accepted (lines_of 32))
    × (read_sheet (times 33 "true\n") ≡ refused 14 160)
    × (read_sheet (times 32 "true\n" ++ bytes "x") ≡ refused 14 160)
    × (read_sheet (times 32 "true\n" ++ bytes " true\n") ≡ refused 14 160)
    × (read_sheet (times 16384 " ") ≡ refused 13 16384)
    × (read_sheet (times 16385 " ") ≡ refused 12 0))
    -- marks to 31, numbers to 999, percentages to 100, without leading zeros; each line ended; some line
    × ((read_sheet (bytes "[m01,1]\n") ≡ refused 13 3)
    × (read_sheet (bytes "[m32,1]\n") ≡ refused 15 2)
    × (read_sheet (bytes "[m0,1000]\n") ≡ refused 15 4)
    × (read_sheet (bytes "[m0,1000x") ≡ refused 15 4)
    × (read_sheet (bytes "[m0,101%]\n") ≡ refused 15 4)
    × (read_sheet (bytes "[m0,1 %]\n") ≡ refused 13 6)
    × (read_sheet (bytes "[m1,1]") ≡ refused 13 6)
    × (read_sheet (bytes "") ≡ refused 7 0))
    -- a group, one token: no space inside, one digit to 7, and a number out of range goes before it; it is no node and no level
    × ((read_sheet (bytes "[m0,1@0]\n") ≡ accepted (leaf (counted (leaf 0) (amount 1 false (group 0))) ∷ []))
    × (read_sheet (bytes "[m0,1 @0]\n") ≡ accepted (leaf (counted (leaf 0) (amount 1 false (group 0))) ∷ []))
    × (read_sheet (bytes "[m0,50% @7 ]\n") ≡ accepted (leaf (counted (leaf 0) (amount 50 true (group 7))) ∷ []))
    × (read_sheet (bytes "[m0,1@8]\n") ≡ refused 13 6)
    × (read_sheet (bytes "[m0,1@9]\n") ≡ refused 13 6)
    × (read_sheet (bytes "[m0,1@]\n") ≡ refused 13 6)
    × (read_sheet (bytes "[m0,1@") ≡ refused 13 6)
    × (read_sheet (bytes "[m0,1@ 0]\n") ≡ refused 13 6)
    × (read_sheet (bytes "[m0,1@01]\n") ≡ refused 13 7)
    × (read_sheet (bytes "[m0,1@0%]\n") ≡ refused 13 7)
    × (read_sheet (bytes "[m0 @0,1]\n") ≡ refused 13 4)
    × (read_sheet (bytes "[m0,1000@9]\n") ≡ refused 15 4)
    × (read_sheet (times 63 "true&" ++ bytes "[m1,1@3]\n") ≡ accepted (and (ands 62) (leaf (counted (leaf 1) (amount 1 false (group 3)))) ∷ []))
    × ((begun (bytes "[m1,1@3]\n") 8).nodes ≡ 2)
    × (length (begun (bytes "[m1,1@3]\n") 7).levels ≡ 1))
    -- what is begun before an offset: nodes, lines, and levels, which `)` and `]` give back with the prefix operators before them
    × (((begun (times 63 "true&" ++ bytes "[!m1,1]\n") 317).nodes ≡ 128)
    × ((begun (times 32 "true\n" ++ bytes "x") 160).lines ≡ 32)
    × (length (begun (times 31 "!" ++ bytes "(true U true)\n") 37).levels ≡ 32)
    × (length (begun (bytes "!(true U [m0,1]) & true\n") 10).levels ≡ 4)
    × (length (begun (bytes "!(true U [m0,1]) & true\n") 15).levels ≡ 3)
    × (length (begun (bytes "!(true U [m0,1]) & true\n") 16).levels ≡ 0))
unfolding reading
worked = (
  (refl, refl, refl, refl, refl, refl, refl, refl),
  (refl, refl, refl, refl, refl, refl, refl, refl, refl, refl, refl, refl, refl, refl, refl, refl, refl, refl, refl),
  (refl, refl, refl, refl, refl, refl, refl, refl),
  (refl, refl, refl, refl, refl, refl, refl, refl, refl, refl, refl, refl, refl, refl, refl),
  (refl, refl, refl, refl, refl, refl),
)

-- the level of `(true)&(true)`, as the limits have it: the `)` gives it back
abbrev in_parens : {r : List ℕ} → Part Count Rank.untils (bytes "(true)" ++ r) r top
in_parens = one_small (parens none (one_and (one_until (one_small (word none)))) none)

pub level_given_back : level Count count_level (Part.and (one_until in_parens) (none {s = bytes "&(true)"}) (in_parens {r = []})) ≡ 1
level_given_back = refl

-- the groups of `[m0,1@3] & ([m1,1] | ![m2,1@0])` in the order of the text
pub groups-named :
    groups (and (leaf (counted (leaf 0) (amount 1 false (group 3))))
    (or (leaf (counted (leaf 1) (amount 1 false fleet))) (neg (leaf (counted (leaf 2) (amount 1 false (group 0))))))) ≡ (3 ∷ 0 ∷ [])
groups-named = refl
