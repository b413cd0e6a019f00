-- The starred cases of document 01, and further cases, from the bytes of floor, plan and sheet to the verdict, by computation.
use Rattle.std.specs.Prelude.{ℕ, ◌≡◌, refl}
use Prim.Native.Char.{code}
use Prim.Native.String.{String, [] as end, ◌∷◌ as ◌then◌}
use mathlib.Core.List.{List, [], ◌∷◌, ◌++◌, flatten}
use Rattle.endian.specs.Little.{value}
use Rattle.refusal.specs.Codes.{refused}
use Rattle.refusal.specs.declared.Verdict.{Verdict}
use Rattle.refusal.specs.declared.Verdict.TheVariants.{Accepted, Floor as AboutFloor, Plan as AboutPlan, Rules as AboutRules}
use Rattle.record.specs.Record.{split, records_in}
use Rattle.record.specs.Parts.{parts_in, parts}
use Rattle.floor.specs.Floor.{judged, walk, read_floor}
use Rattle.floor.specs.Numbers.{bodies_of}
use Rattle.plan.specs.Plan.{judged_head, judged_places, judged_row, read_rows, read_plan}
use Rattle.plan.specs.After.{after_reading}
use Rattle.row.specs.Lasso.{next_step, step_of}
use Rattle.row.specs.Moves.{some_lane_opens, is_open, lowest_shut, judged_moves}
use Rattle.moves.specs.Carts.{judged_carts}
use Rattle.conflict.specs.Search.{clear, earliest_verdict, narrow_verdict}
use Rattle.conflict.specs.OfPlan.{named}
use Rattle.grammar.specs.Reader.{bind, node, skip, expect_at, expect, literal, digits, number, percent, chain_at, chain_more, chain, and_chain, or_chain, by_kind, small_at, small_of, by_onward, until_at, until_of, deeper, smalls, untils, ors, mark_by, marks, inners, limits, group_digit, over_at, overs, amounts, count_end, count_by, counts, clauses, clause_line, lines, outcome, start, read_sheet}
use Rattle.sheet.specs.Rules.{rules_verdict}
use Rattle.cltl.specs.Counting.{tally, every}
use Rattle.cltl.specs.Threshold.{threshold, quota}
use Rattle.cltl.specs.Rules.{fix, window, quorum, judge, leaves, mark, inner, count, slack, some_text, same_carts, all_over, uniform, joint, joined, rules}
use Rattle.cltl.specs.Step.{lowest, failing}
use Rattle.plancheck.specs.Check.{group_verdict, next_verdict, kept_verdict, checked}

-- place 0 with m0 only, place 1 with m1 only; lanes 0→1 and 1→0 for classes 255 and then these; two carts of class 0 from place 0
abbrev floor_with : List ℕ → List ℕ
floor_with lanes =
    4 ∷ 0 ∷ 1 ∷ 0 ∷ 1 ∷ 0 ∷ 0 ∷ 0 ∷
    4 ∷ 0 ∷ 1 ∷ 0 ∷ 2 ∷ 0 ∷ 0 ∷ 0 ∷
    3 ∷ 0 ∷ 2 ∷ 0 ∷ 0 ∷ 1 ∷ 255 ∷
    3 ∷ 0 ∷ 2 ∷ 0 ∷ 1 ∷ 0 ∷ 255 ∷
    (lanes ++
    (2 ∷ 0 ∷ 3 ∷ 0 ∷ 0 ∷ 0 ∷
    2 ∷ 0 ∷ 3 ∷ 0 ∷ 0 ∷ 0 ∷ []))

-- document 01's floor: 0→0 and 1→1 besides
abbrev floor : List ℕ
floor = floor_with (3 ∷ 0 ∷ 2 ∷ 0 ∷ 0 ∷ 0 ∷ 255 ∷ 3 ∷ 0 ∷ 2 ∷ 0 ∷ 1 ∷ 1 ∷ 255 ∷ [])

-- h 4, l and the drift; rows 0 1 1 0 and 0 0 1 1
abbrev plan_from : ℕ → ℕ → List ℕ
plan_from l d =
    6 ∷ 0 ∷ 4 ∷ 0 ∷ 4 ∷ 0 ∷ l ∷ 0 ∷ d ∷ 0 ∷
    4 ∷ 0 ∷ 5 ∷ 0 ∷ 0 ∷ 1 ∷ 1 ∷ 0 ∷
    4 ∷ 0 ∷ 5 ∷ 0 ∷ 0 ∷ 0 ∷ 1 ∷ 1 ∷ []

-- a clause's text and byte 10
abbrev sheet : String → List ℕ
sheet end = 10 ∷ []
sheet (c then s) = code c ∷ sheet s

abbrev verdict_on : List ℕ → String → ℕ → Verdict
verdict_on floor clause d = checked floor (plan_from 0 d) (sheet clause)

abbrev verdict : String → ℕ → Verdict
verdict = verdict_on floor

-- the definitions that a check computes with, under one name
computing : List ℕ → List ℕ → List ℕ → Verdict
unfolding
    flatten value split records_in parts_in parts judged walk read_floor bodies_of judged_head judged_places judged_row read_rows read_plan after_reading
    next_step step_of some_lane_opens is_open lowest_shut judged_moves judged_carts named clear earliest_verdict narrow_verdict
    bind node skip expect_at expect literal digits number percent chain_at chain_more chain and_chain or_chain by_kind
    small_at small_of by_onward until_at until_of deeper smalls untils ors mark_by marks inners limits group_digit over_at overs amounts count_end count_by counts clauses
    clause_line lines outcome start read_sheet rules_verdict
    quota threshold tally every fix window quorum judge leaves mark inner count slack some_text same_carts all_over uniform joint joined rules lowest failing
    group_verdict next_verdict kept_verdict checked
computing floor plan sheet = checked floor plan sheet

-- document 01's starred cases, on a floor
abbrev Cases : List ℕ → Type 0
Cases floor =
    (verdict_on floor "F [m1,2]" 0 ≡ Accepted)
    × (verdict_on floor "F [m1,2]" 1 ≡ AboutRules (refused 17 0 0))
    × (verdict_on floor "F [m1,1]" 1 ≡ Accepted)
    × (verdict_on floor "F [m1,1]" 2 ≡ Accepted)
    × (verdict_on floor "G ![m1,2]" 0 ≡ AboutRules (refused 17 0 2))
    × (verdict_on floor "G [m0,1]" 0 ≡ AboutRules (refused 17 0 2))
    × (verdict_on floor "G [m0,1]" 1 ≡ AboutRules (refused 17 0 1))
    × (verdict_on floor "[G F m1,2]" 16 ≡ Accepted)
    × (verdict_on floor "X [m1,1]" 0 ≡ Accepted)
    × (verdict_on floor "X [m1,1]" 1 ≡ AboutRules (refused 16 0 0))
    × (verdict_on floor "[m0,0]" 16 ≡ Accepted)
    × (verdict_on floor "[m0,3]" 0 ≡ AboutRules (refused 17 0 0))

pub starred : Cases floor
unfolding computing
starred = (refl, refl, refl, refl, refl, refl, refl, refl, refl, refl, refl, refl)

-- document 02, 1): carts park, so the same without the lanes from a place to itself
pub parked : Cases (floor_with [])
unfolding computing
parked = (refl, refl, refl, refl, refl, refl, refl, refl, refl, refl, refl, refl)

---- Document 02, 2): document 01's plan where place 1 is narrow, before any sheet and behind the moves.
abbrev narrowing : ℕ → List ℕ
narrowing q = floor ++ (1 ∷ 0 ∷ 6 ∷ 0 ∷ q ∷ [])

-- both carts from place 0, where the first row begins on place 1
abbrev astray : List ℕ
astray = 6 ∷ 0 ∷ 4 ∷ 0 ∷ 1 ∷ 0 ∷ 0 ∷ 0 ∷ 0 ∷ 0 ∷ 1 ∷ 0 ∷ 5 ∷ 0 ∷ 1 ∷ 1 ∷ 0 ∷ 5 ∷ 0 ∷ 0 ∷ []

-- each cart goes to place 1 and back, the second two steps after the first
abbrev trailing : ℕ → List ℕ
trailing d =
    6 ∷ 0 ∷ 4 ∷ 0 ∷ 4 ∷ 0 ∷ 0 ∷ 0 ∷ d ∷ 0 ∷
    4 ∷ 0 ∷ 5 ∷ 0 ∷ 0 ∷ 1 ∷ 0 ∷ 0 ∷
    4 ∷ 0 ∷ 5 ∷ 0 ∷ 0 ∷ 0 ∷ 0 ∷ 1 ∷ []

-- the two places, both lanes, carts from place 0 and from place 1, and narrow places; each goes to the other's place and back
abbrev facing : List ℕ → List ℕ
facing narrow =
    4 ∷ 0 ∷ 1 ∷ 0 ∷ 1 ∷ 0 ∷ 0 ∷ 0 ∷
    4 ∷ 0 ∷ 1 ∷ 0 ∷ 2 ∷ 0 ∷ 0 ∷ 0 ∷
    3 ∷ 0 ∷ 2 ∷ 0 ∷ 0 ∷ 1 ∷ 255 ∷
    3 ∷ 0 ∷ 2 ∷ 0 ∷ 1 ∷ 0 ∷ 255 ∷
    2 ∷ 0 ∷ 3 ∷ 0 ∷ 0 ∷ 0 ∷
    2 ∷ 0 ∷ 3 ∷ 0 ∷ 0 ∷ 1 ∷ narrow

abbrev changing : List ℕ
changing = 6 ∷ 0 ∷ 4 ∷ 0 ∷ 2 ∷ 0 ∷ 0 ∷ 0 ∷ 0 ∷ 0 ∷ 2 ∷ 0 ∷ 5 ∷ 0 ∷ 0 ∷ 1 ∷ 2 ∷ 0 ∷ 5 ∷ 0 ∷ 1 ∷ 0 ∷ []

pub narrowed :
    (verdict_on (narrowing 1) "F [m1,1]" 0 ≡ AboutPlan (refused 20 0 2))
    × (verdict_on (narrowing 1) "F [m1,1]" 1 ≡ AboutPlan (refused 20 0 1))
    × (verdict_on (narrowing 0) "F [m1,1]" 1 ≡ AboutPlan (refused 20 0 0))
    -- ahead of every refusal of the sheet, 16 and 17, and behind 10
    × (checked (narrowing 1) (plan_from 0 1) [] ≡ AboutPlan (refused 20 0 1))
    × (verdict_on (narrowing 1) "X [m0,3]" 1 ≡ AboutPlan (refused 20 0 1))
    × (checked (narrowing 1) astray [] ≡ AboutPlan (refused 10 0 0))
    -- two counters apart: one tick of drift keeps them apart, two do not, and without the record nothing is narrow
    × (checked (narrowing 1) (trailing 1) (sheet "true") ≡ Accepted)
    × (checked (narrowing 1) (trailing 2) (sheet "true") ≡ AboutPlan (refused 20 0 1))
    × (checked floor (trailing 2) (sheet "true") ≡ Accepted)
    -- every record names its place, the same one as often as it likes; both places of an exchange must be named
    × (verdict_on (narrowing 1 ++ (1 ∷ 0 ∷ 6 ∷ 0 ∷ 1 ∷ [])) "true" 0 ≡ AboutPlan (refused 20 0 2))
    × (checked (facing (1 ∷ 0 ∷ 6 ∷ 0 ∷ 0 ∷ 1 ∷ 0 ∷ 6 ∷ 0 ∷ 1 ∷ [])) changing (sheet "true") ≡ AboutPlan (refused 20 0 0))
    × (checked (facing (1 ∷ 0 ∷ 6 ∷ 0 ∷ 0 ∷ 1 ∷ 0 ∷ 6 ∷ 0 ∷ 0 ∷ [])) changing (sheet "true") ≡ Accepted)
    × (checked (facing (1 ∷ 0 ∷ 6 ∷ 0 ∷ 1 ∷ [])) changing (sheet "true") ≡ Accepted)
unfolding computing
narrowed = (refl, refl, refl, refl, refl, refl, refl, refl, refl, refl, refl, refl, refl)

---- Document 02, 3): percentages to the nearest cart, a half going up.
-- five carts from place 0; each goes to the place given for it and back
abbrev five_carts : List ℕ
five_carts = floor ++ (2 ∷ 0 ∷ 3 ∷ 0 ∷ 0 ∷ 0 ∷ 2 ∷ 0 ∷ 3 ∷ 0 ∷ 0 ∷ 0 ∷ 2 ∷ 0 ∷ 3 ∷ 0 ∷ 0 ∷ 0 ∷ [])

abbrev going : (a b c d e : ℕ) → List ℕ
going a b c d e =
    6 ∷ 0 ∷ 4 ∷ 0 ∷ 2 ∷ 0 ∷ 0 ∷ 0 ∷ 0 ∷ 0 ∷
    2 ∷ 0 ∷ 5 ∷ 0 ∷ 0 ∷ a ∷
    2 ∷ 0 ∷ 5 ∷ 0 ∷ 0 ∷ b ∷
    2 ∷ 0 ∷ 5 ∷ 0 ∷ 0 ∷ c ∷
    2 ∷ 0 ∷ 5 ∷ 0 ∷ 0 ∷ d ∷
    2 ∷ 0 ∷ 5 ∷ 0 ∷ 0 ∷ e ∷ []

pub percentages :
    -- "25% of 5 is 1, 30% of 5 is 2, 50% of 5 is 3": so many on place 1, and one less
    (checked five_carts (going 0 0 0 0 1) (sheet "X [m1,25%]") ≡ Accepted)
    × (checked five_carts (going 0 0 0 0 0) (sheet "X [m1,25%]") ≡ AboutRules (refused 17 0 0))
    × (checked five_carts (going 1 0 0 0 1) (sheet "X [m1,30%]") ≡ Accepted)
    × (checked five_carts (going 1 0 0 0 0) (sheet "X [m1,30%]") ≡ AboutRules (refused 17 0 0))
    × (checked five_carts (going 0 1 1 1 0) (sheet "X [m1,50%]") ≡ Accepted)
    × (checked five_carts (going 0 1 1 0 0) (sheet "X [m1,50%]") ≡ AboutRules (refused 17 0 0))
    -- rounded, then negated: three of the five carts elsewhere are enough
    × (checked five_carts (going 0 1 1 0 0) (sheet "X ![m1,50%]") ≡ Accepted)
    × (checked five_carts (going 0 1 1 1 0) (sheet "X ![m1,50%]") ≡ AboutRules (refused 17 0 0))
    -- 24% of two carts is less than half a cart, so none: true always, its negation never; 25% is half a cart, so one
    × (verdict "G [!true,24%]" 16 ≡ Accepted)
    × (verdict "F ![!true,24%]" 0 ≡ AboutRules (refused 17 0 0))
    × (verdict "F [!true,25%]" 0 ≡ AboutRules (refused 17 0 0))
    × (verdict "G [m0,25%]" 1 ≡ AboutRules (refused 17 0 1))
    -- up to 74% is one, with the all-carts case; 75% is one and a half, so two, without it
    × (verdict "F [m1,50%]" 2 ≡ Accepted)
    × (verdict "F [m1,74%]" 2 ≡ Accepted)
    × (verdict "F [m1,75%]" 0 ≡ Accepted)
    × (verdict "F [m1,75%]" 2 ≡ AboutRules (refused 17 0 0))
    -- their negations ask for two, without the all-carts case, and for one, with it
    × (verdict "F ![m0,74%]" 2 ≡ AboutRules (refused 17 0 0))
    × (verdict "F ![m0,75%]" 2 ≡ Accepted)
unfolding computing
percentages = (refl, refl, refl, refl, refl, refl, refl, refl, refl, refl, refl, refl, refl, refl, refl, refl, refl, refl)

---- Document 02, 4): either table will do.
-- places with m1, with m2 and with no mark, lanes 0→1, 0→2 and 1→2, two carts from place 0 and one from place 1
abbrev tables : List ℕ
tables =
    4 ∷ 0 ∷ 1 ∷ 0 ∷ 2 ∷ 0 ∷ 0 ∷ 0 ∷
    4 ∷ 0 ∷ 1 ∷ 0 ∷ 4 ∷ 0 ∷ 0 ∷ 0 ∷
    4 ∷ 0 ∷ 1 ∷ 0 ∷ 0 ∷ 0 ∷ 0 ∷ 0 ∷
    3 ∷ 0 ∷ 2 ∷ 0 ∷ 0 ∷ 1 ∷ 255 ∷
    3 ∷ 0 ∷ 2 ∷ 0 ∷ 0 ∷ 2 ∷ 255 ∷
    3 ∷ 0 ∷ 2 ∷ 0 ∷ 1 ∷ 2 ∷ 255 ∷
    2 ∷ 0 ∷ 3 ∷ 0 ∷ 0 ∷ 0 ∷
    2 ∷ 0 ∷ 3 ∷ 0 ∷ 0 ∷ 0 ∷
    2 ∷ 0 ∷ 3 ∷ 0 ∷ 0 ∷ 1 ∷ []

-- document 002's example 3: one always on m1, one on m1 once and then on m2, one always on m2
abbrev three : ℕ → List ℕ
three d =
    6 ∷ 0 ∷ 4 ∷ 0 ∷ 2 ∷ 0 ∷ 1 ∷ 0 ∷ d ∷ 0 ∷
    2 ∷ 0 ∷ 5 ∷ 0 ∷ 0 ∷ 0 ∷
    2 ∷ 0 ∷ 5 ∷ 0 ∷ 0 ∷ 1 ∷
    2 ∷ 0 ∷ 5 ∷ 0 ∷ 1 ∷ 1 ∷ []

-- and then all on neither
abbrev leaving : ℕ → List ℕ
leaving d =
    6 ∷ 0 ∷ 4 ∷ 0 ∷ 3 ∷ 0 ∷ 2 ∷ 0 ∷ d ∷ 0 ∷
    3 ∷ 0 ∷ 5 ∷ 0 ∷ 0 ∷ 0 ∷ 2 ∷
    3 ∷ 0 ∷ 5 ∷ 0 ∷ 0 ∷ 1 ∷ 2 ∷
    3 ∷ 0 ∷ 5 ∷ 0 ∷ 1 ∷ 1 ∷ 2 ∷ []

pub either_table :
    -- neither side is true with drift 1, so that it was refused; now it is accepted, and with drift 0 as before
    (checked tables (three 1) (sheet "[m1,2]") ≡ AboutRules (refused 17 0 0))
    × (checked tables (three 1) (sheet "[m2,2]") ≡ AboutRules (refused 17 0 0))
    × (checked tables (three 1) (sheet "[m1,2] | [m2,2]") ≡ Accepted)
    × (checked tables (three 0) (sheet "[m1,2] | [m2,2]") ≡ Accepted)
    -- more carts than the sum, not as many
    × (checked tables (three 1) (sheet "[m1,2] | [m2,3]") ≡ AboutRules (refused 17 0 0))
    -- which are ors: under a negation an and, and no written or
    × (checked tables (three 1) (sheet "!(![m1,2] & ![m2,2])") ≡ Accepted)
    × (checked tables (three 1) (sheet "!([m1,2] | [m2,2])") ≡ AboutRules (refused 17 0 0))
    -- grouped as written, and without parentheses from the left
    × (checked tables (three 1) (sheet "([m1,2] | [m2,2]) | [m3,3]") ≡ Accepted)
    × (checked tables (three 1) (sheet "[m1,2] | ([m2,2] | [m3,3])") ≡ AboutRules (refused 17 0 0))
    × (checked tables (three 1) (sheet "[m1,2] | [m2,2] | [m3,3]") ≡ Accepted)
    -- not all counts
    × (checked tables (three 1) (sheet "[m1,2] | F [m3,1] | [m2,2]") ≡ AboutRules (refused 17 0 0))
    -- U asks for the or, and its right side is still to be reached
    × (checked tables (three 1) (sheet "[m1,2] U [m2,2]") ≡ Accepted)
    × (checked tables (three 1) (sheet "!(![m1,2] R ![m2,2])") ≡ Accepted)
    × (checked tables (three 1) (sheet "([m1,2] | [m2,2]) U [m3,1]") ≡ AboutRules (refused 17 0 0))
    -- the lowest step where the body fails is by the new rule: with drift 1 step 1, with drift 2 step 0
    × (checked tables (leaving 1) (sheet "true\nG ([m1,2] | [m2,2])") ≡ AboutRules (refused 17 1 1))
    × (checked tables (leaving 2) (sheet "true\nG ([m1,2] | [m2,2])") ≡ AboutRules (refused 17 1 0))
unfolding computing
either_table = (refl, refl, refl, refl, refl, refl, refl, refl, refl, refl, refl, refl, refl, refl, refl, refl)

---- Document 02, 6): counts over a group.
abbrev group : ℕ → List ℕ
group carts = 4 ∷ 0 ∷ 7 ∷ 0 ∷ carts ∷ 0 ∷ 0 ∷ 0 ∷ []

-- group 0 is cart 0, group 1 has no cart, group 2 is both carts
abbrev grouped : List ℕ
grouped = floor ++ (group 1 ++ group 0 ++ group 3)

pub groups-counted :
    -- "then only that group's carts are counted": cart 0 is on place 1 after a step, and at two counters in a row
    (verdict_on grouped "[m0,1@0]" 0 ≡ Accepted)
    × (verdict_on grouped "[m1,1@0]" 0 ≡ AboutRules (refused 17 0 0))
    × (verdict_on grouped "[m0,2@0]" 0 ≡ AboutRules (refused 17 0 0))
    × (verdict_on grouped "F [m1,1@0]" 1 ≡ Accepted)
    -- "The all-carts case for threshold 1 is used only where the group is the whole fleet"
    × (verdict_on grouped "F [m1,1@0]" 2 ≡ AboutRules (refused 17 0 0))
    × (verdict_on grouped "F [m1,1@2]" 2 ≡ Accepted)
    -- an empty group
    × (verdict_on grouped "[m0,0@1]" 16 ≡ Accepted)
    × (verdict_on grouped "[true,1@1]" 0 ≡ AboutRules (refused 17 0 0))
    × (verdict_on grouped "![true,1@1]" 16 ≡ Accepted)
    × (verdict_on grouped "[m1,100%@1]" 16 ≡ Accepted)
    -- "Percentages and negation use the group's size": two carts of five
    × (checked (five_carts ++ group 3) (going 1 0 0 0 0) (sheet "X [m1,50%@0]") ≡ Accepted)
    × (checked (five_carts ++ group 3) (going 1 0 0 0 0) (sheet "X ![m1,1@0]") ≡ AboutRules (refused 17 0 0))
    × (checked (five_carts ++ group 3) (going 0 0 1 1 1) (sheet "X ![m1,1@0]") ≡ Accepted)
    -- "An or is joined as in 4) only if all its counts are over the same carts", as a set
    × (checked (tables ++ (group 7 ++ group 3)) (three 1) (sheet "[m1,2@0] | [m2,2]") ≡ Accepted)
    × (checked (tables ++ (group 7 ++ group 3)) (three 1) (sheet "[m1,2@1] | [m2,2]") ≡ AboutRules (refused 17 0 0))
unfolding computing
groups-counted = (refl, refl, refl, refl, refl, refl, refl, refl, refl, refl, refl, refl, refl, refl, refl)

pub groups-lacking :
    -- "for a group the floor lacks": of none, and of three
    (verdict "[m0,0@0]" 0 ≡ AboutRules (refused 21 0 0))
    × (verdict_on grouped "[m0,0@3]" 0 ≡ AboutRules (refused 21 0 3))
    × (verdict_on grouped "G [m0,0@0] & [m0,0@1] & [m0,0@2]" 16 ≡ Accepted)
    -- "lowest clause", by its number, and "its first such group" in the text
    × (verdict_on grouped "[m0,0@2]\n[m0,0@4]\n[m0,0@3]" 0 ≡ AboutRules (refused 21 1 4))
    × (verdict "[m0,0@3] | [m0,0@2]" 0 ≡ AboutRules (refused 21 0 3))
    × (verdict_on grouped "[m0,0@1] U (!X [m0,0@7] R F [m0,0@5])" 0 ≡ AboutRules (refused 21 0 7))
    -- "after the sheet is read and before 16", of a lower clause too, and so before 17
    × (verdict "[m0,0@3]\n(" 0 ≡ AboutRules (refused 13 10 0))
    × (verdict_on (narrowing 1) "[m0,0@0]" 1 ≡ AboutPlan (refused 20 0 1))
    × (verdict_on (floor ++ group 1) "X [m1,1]\n[m1,1@1]" 1 ≡ AboutRules (refused 21 1 1))
    × (verdict_on (floor ++ group 1) "X [m1,1]\n[m1,1@0]" 1 ≡ AboutRules (refused 16 0 0))
    × (verdict "[m0,3]\n[m0,0@0]" 0 ≡ AboutRules (refused 21 1 0))
unfolding computing
groups-lacking = (refl, refl, refl, refl, refl, refl, refl, refl, refl, refl, refl)

---- Further cases, so that no definition here has another reading.
-- the two places, lanes 1→0 and 0→1 for these classes, a cart of class 2 from place 1; and a plan that goes to place 0 and back
abbrev another : ℕ → List ℕ
another classes =
    4 ∷ 0 ∷ 1 ∷ 0 ∷ 1 ∷ 0 ∷ 0 ∷ 0 ∷
    4 ∷ 0 ∷ 1 ∷ 0 ∷ 2 ∷ 0 ∷ 0 ∷ 0 ∷
    3 ∷ 0 ∷ 2 ∷ 0 ∷ 1 ∷ 0 ∷ classes ∷
    3 ∷ 0 ∷ 2 ∷ 0 ∷ 0 ∷ 1 ∷ classes ∷
    2 ∷ 0 ∷ 3 ∷ 0 ∷ 2 ∷ 1 ∷ []

abbrev away : List ℕ
away = 6 ∷ 0 ∷ 4 ∷ 0 ∷ 2 ∷ 0 ∷ 0 ∷ 0 ∷ 0 ∷ 0 ∷ 2 ∷ 0 ∷ 5 ∷ 0 ∷ 1 ∷ 0 ∷ []

-- and one that parks on place 1
abbrev stay : List ℕ
stay = 6 ∷ 0 ∷ 4 ∷ 0 ∷ 1 ∷ 0 ∷ 0 ∷ 0 ∷ 0 ∷ 0 ∷ 1 ∷ 0 ∷ 5 ∷ 0 ∷ 1 ∷ []

pub worked :
    -- the stages in order: the floor before the sheet, which is empty here, the moves before it, and 16 before a 17 of a lower clause
    (checked [] (plan_from 0 0) [] ≡ AboutFloor (refused 7 0 0))
    × (checked floor astray [] ≡ AboutPlan (refused 10 0 0))
    × (verdict "[m0,3]\nX [m1,1]" 1 ≡ AboutRules (refused 16 1 0))
    -- the lowest clause, by its number
    × (verdict "X true\nX true" 1 ≡ AboutRules (refused 16 0 0))
    × (verdict "[m0,0]\n[m0,3]" 0 ≡ AboutRules (refused 17 1 0))
    × (verdict "[m0,3]\n[m0,3]" 0 ≡ AboutRules (refused 17 0 0))
    -- the lap's first step, a cart's class and start
    × (checked floor (plan_from 3 0) (sheet "F G [m1,1]") ≡ Accepted)
    × (checked (another 4) away (sheet "G F [m1,1]") ≡ Accepted)
    × (checked (another 251) away (sheet "G F [m1,1]") ≡ AboutPlan (refused 11 0 0))
    × (checked (another 251) stay (sheet "G [m1,1]") ≡ Accepted)
    -- no other operator is X, and none inside a count
    × (verdict "true" 1 ≡ Accepted)
    × (verdict "[m0,0] U [m0,0]" 1 ≡ Accepted)
    × (verdict "[m0,3] R [m0,0]" 1 ≡ Accepted)
    × (verdict "[X m1,1]" 1 ≡ Accepted)
    -- a step other than 0 for an outermost G alone
    × (verdict "!F [m1,2]" 0 ≡ AboutRules (refused 17 0 0))
    × (verdict "[m0,1] & [m0,3]" 0 ≡ AboutRules (refused 17 0 0))
    × (verdict "[m0,3] R [m0,1]" 0 ≡ AboutRules (refused 17 0 0))
    × (verdict "[m0,1] U [m0,3]" 0 ≡ AboutRules (refused 17 0 0))
    × (verdict "X [m0,2]" 0 ≡ AboutRules (refused 17 0 0))
unfolding computing
worked = (
  refl,
  refl,
  refl,
  refl,
  refl,
  refl,
  refl,
  refl,
  refl,
  refl,
  refl,
  refl,
  refl,
  refl,
  refl,
  refl,
  refl,
  refl,
  refl,
)
