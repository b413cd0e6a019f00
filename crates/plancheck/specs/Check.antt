-- "Checking a plan: floor, plan, moves, sheet as above; then 16 with d above 0, X outside a count (lowest clause, 0); then 17, lowest clause
-- not true (clause, step)." Document 02: 2) between moves and sheet 20, 6) "after the sheet is read and before 16" 21.
use Rattle.std.specs.Prelude.{ℕ, suc, cond, List, [], ◌∷◌, eqb, ltb, get_or}
use Rattle.refusal.specs.Results.{told}
use Rattle.refusal.specs.Codes.{refused}
use Rattle.refusal.specs.Stages.{and_then}
use Rattle.refusal.specs.declared.Verdict.{Verdict}
use Rattle.refusal.specs.declared.Verdict.TheVariants.{Accepted, Rules as AboutRules}
use Rattle.floor.specs.Numbers.{numbers_of}
use Rattle.floor.specs.declared.Floor.{Floor}
use Rattle.plan.specs.Plan.{PlanNumbers, place_on_step}
use Rattle.plan.specs.After.{after_reading}
use Rattle.row.specs.Moves.{bit}
use Rattle.moves.specs.Carts.{moves_verdict}
use Rattle.conflict.specs.OfPlan.{conflict_verdict}
use Rattle.grammar.specs.Grammar.{Clause}
use Rattle.grammar.specs.Groups.{groups}
use Rattle.grammar.specs.Reader.{Read, read_sheet}
use Rattle.grammar.specs.Reader as reader
use Rattle.sheet.specs.Rules.{rules_verdict}
use Rattle.cltl.specs.Meaning.{Rows}
use Rattle.cltl.specs.Rules.{rules, has_next}
use Rattle.cltl.specs.Step.{failing}

-- the number of place q: "one bit for each mark m0 (lowest) to m31"
abbrev pub marks_at : List ℕ → ℕ → ℕ
marks_at floor q = get_or (numbers_of floor).places q 0

-- the number of group g, "bit n for cart n"; a group that the floor lacks has no cart, and is refused before any clause is judged
abbrev pub carts_at : List ℕ → ℕ → ℕ
carts_at floor g = get_or (numbers_of floor).groups g 0

-- "Rows and marks are those of the files", and so are the groups
abbrev pub plan_rows : List ℕ → Floor → PlanNumbers → Rows
plan_rows floor f p = record {
  carts = f.carts;
  h = p.head.steps;
  l = p.head.stem;
  bears = λ i s k. bit k (marks_at floor (place_on_step p i s));
  member = λ g i. bit i (carts_at floor g);
}

-- a sheet's clauses; a refused one has none
abbrev pub clauses_of : Read → List Clause
clauses_of (reader.accepted cs) = cs
clauses_of (reader.refused w k) = []

-- of groups in order, those that a floor with so many lacks
abbrev pub lacked : ℕ → List ℕ → List ℕ
lacked many [] = []
lacked many (g ∷ gs) = cond (ltb g many) (lacked many gs) (g ∷ lacked many gs)

-- 21 for clause n alone, with "its first such group", if there is one
abbrev pub lack_verdict : ℕ → List ℕ → Verdict
lack_verdict n [] = Accepted
lack_verdict n (g ∷ gs) = AboutRules (refused 21 n g)

-- 21, from clause n on: "(lowest clause, its first such group) for a group the floor lacks"
unfoldable pub group_verdict : ℕ → ℕ → List Clause → Verdict
group_verdict many n [] = Accepted
group_verdict many n (c ∷ cs) = and_then (lack_verdict n (lacked many (groups c))) (group_verdict many (suc n) cs)

-- 16, from clause n on: "X outside a count (lowest clause, 0)"
unfoldable pub next_verdict : ℕ → List Clause → Verdict
next_verdict n [] = Accepted
next_verdict n (c ∷ cs) = cond (has_next c) (AboutRules (refused 16 n 0)) (next_verdict (suc n) cs)

module _ (P : Rows) (d : ℕ) where
  -- 17 for clause n alone, if it is not kept
  abbrev pub clause_verdict : ℕ → Clause → Verdict
  clause_verdict n c = cond (rules P d c 0) Accepted (AboutRules (refused 17 n (failing P d c)))

  -- 17, from clause n on: "A plan is kept if every clause is true at step 0."
  unfoldable pub kept_verdict : ℕ → List Clause → Verdict
  kept_verdict n [] = Accepted
  kept_verdict n (c ∷ cs) = cond (rules P d c 0) (kept_verdict (suc n) cs) (AboutRules (refused 17 n (failing P d c)))

  -- 21 on a floor with so many groups, 16 "with d above 0", then 17
  abbrev pub clauses_verdict : ℕ → List Clause → Verdict
  clauses_verdict many cs = and_then (group_verdict many 0 cs) (and_then (cond (eqb d 0) Accepted (next_verdict 0 cs)) (kept_verdict 0 cs))

-- the stages in order, once floor and plan are read; document 02, 2): 20 stands "after 11 and before the sheet"
abbrev pub stages : List ℕ → List ℕ → Floor → PlanNumbers → Verdict
stages floor sheet f p =
    and_then (moves_verdict floor f p)
    (and_then (conflict_verdict floor f p)
    (and_then (rules_verdict sheet) (clauses_verdict (plan_rows floor f p) p.head.drift f.groups (clauses_of (read_sheet sheet)))))

unfoldable pub checked : List ℕ → List ℕ → List ℕ → Verdict
checked floor plan sheet = after_reading told (stages floor sheet) floor plan
