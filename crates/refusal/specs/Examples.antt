-- Refusals, verdicts and what writing gives on small cases, by computation.
use Rattle.std.specs.Prelude.{ℕ, ◌≡◌, refl, true, false, List, [], ◌∷◌}
use Rattle.endian.specs.Little.{bytes}
use Rattle.refusal.specs.Codes.{refused, at_offset, first_fault, code_of, bytes_of}
use Rattle.refusal.specs.Stages.{and_then}
use Rattle.refusal.specs.Outcome.{unchanged, written}
use Rattle.refusal.specs.Given.{reading_floor, checking_moves, reading_sheet, checking_plan, replacing_row}
use Rattle.refusal.specs.Numbered.{among}
use Rattle.refusal.specs.declared.Verdict.{Verdict}
use Rattle.refusal.specs.declared.Verdict.TheVariants.{Accepted, Written, Floor, Plan, Rules}

abbrev wire : Verdict → List ℕ
wire v = bytes_of (code_of v)

-- "for files and sheets these are a byte offset and 0"; `[m0,1]x` is 13 at offset 6
pub verdicts :
    (wire (Rules (at_offset 13 6)) ≡ 3 ∷ 0 ∷ 0 ∷ 0 ∷ 13 ∷ 0 ∷ 0 ∷ 0 ∷ 6 ∷ 0 ∷ 0 ∷ 0 ∷ 0 ∷ 0 ∷ 0 ∷ 0 ∷ [])
    × (wire (Plan (refused 11 1 2)) ≡ 2 ∷ 0 ∷ 0 ∷ 0 ∷ 11 ∷ 0 ∷ 0 ∷ 0 ∷ 1 ∷ 0 ∷ 0 ∷ 0 ∷ 2 ∷ 0 ∷ 0 ∷ 0 ∷ [])
    × (wire (Floor (at_offset 7 258)) ≡ 1 ∷ 0 ∷ 0 ∷ 0 ∷ 7 ∷ 0 ∷ 0 ∷ 0 ∷ 2 ∷ 1 ∷ 0 ∷ 0 ∷ 0 ∷ 0 ∷ 0 ∷ 0 ∷ [])
    × (wire Accepted ≡ 0 ∷ 0 ∷ 0 ∷ 0 ∷ 0 ∷ 0 ∷ 0 ∷ 0 ∷ 0 ∷ 0 ∷ 0 ∷ 0 ∷ 0 ∷ 0 ∷ 0 ∷ 0 ∷ [])
    × (wire (Written 22) ≡ 0 ∷ 0 ∷ 0 ∷ 0 ∷ 0 ∷ 0 ∷ 0 ∷ 0 ∷ 22 ∷ 0 ∷ 0 ∷ 0 ∷ 0 ∷ 0 ∷ 0 ∷ 0 ∷ [])
    × (first_fault ((false, 3) ∷ (true, 4) ∷ (true, 5) ∷ []) ≡ 4)
    × (first_fault ((false, 3) ∷ (false, 4) ∷ []) ≡ 0)
    × (and_then (Floor (at_offset 7 0)) (Plan (at_offset 7 0)) ≡ Floor (at_offset 7 0))
    × (and_then Accepted (Plan (at_offset 7 0)) ≡ Plan (at_offset 7 0))
    -- 18 is (needed length, 0), and the buffer is as it was; with room, what stands behind the result stays
    × (written Plan (1 ∷ 2 ∷ 3 ∷ []) (9 ∷ 9 ∷ []) ≡ unchanged (Plan (refused 18 3 0)) (9 ∷ 9 ∷ []))
    × (written Floor (1 ∷ 2 ∷ 3 ∷ []) (9 ∷ 9 ∷ 9 ∷ []) ≡ record { answer = Written 3; out = 1 ∷ 2 ∷ 3 ∷ [] })
    × (written Floor (1 ∷ 2 ∷ 3 ∷ []) (9 ∷ 9 ∷ 9 ∷ 9 ∷ []) ≡ record { answer = Written 3; out = 1 ∷ 2 ∷ 3 ∷ 9 ∷ [] })
    -- reading a floor is never 8 or 18; a check is 17 about the rules, not about the plan; 19 is only a replacement's; 20 is
    -- only a check's, and about the plan
    × (among reading_floor.floor 8 ≡ false)
    × (among checking_plan.rules 17 ≡ true)
    × (among checking_plan.plan 17 ≡ false)
    × (among replacing_row.plan 19 ≡ true)
    × (among checking_plan.plan 20 ≡ true)
    × (among checking_plan.rules 20 ≡ false)
    × (among checking_moves.plan 20 ≡ false)
    × (among replacing_row.plan 20 ≡ false)
    -- 21 is only a check's, and about the rules; the rules' numbers in the order of the check: behind the sheet's 21, then 16, then 17
    × (among reading_sheet.rules 21 ≡ false)
    × (among checking_plan.plan 21 ≡ false)
    × (checking_plan.rules ≡ 12 ∷ 13 ∷ 14 ∷ 15 ∷ 7 ∷ 21 ∷ 16 ∷ 17 ∷ [])
unfolding bytes
verdicts = (refl, refl, refl, refl, refl, refl, refl, refl, refl, refl, refl, refl, refl, refl, refl, refl, refl, refl, refl, refl, refl, refl, refl)
