-- What the verdicts of the check mean.
use Rattle.std.specs.Prelude.{ℕ, ◌≤◌, ◌<◌, ◌≡◌, ◌⊎◌, List, [], ◌∷◌, ◌++◌, T, length, take, drop, get_or, Ok}
use Rattle.refusal.specs.declared.Refusal.{Refusal}
use Rattle.refusal.specs.declared.Verdict.TheVariants.{Plan as AboutPlan, Rules as AboutRules}
use Rattle.record.specs.All.{All}
use Rattle.floor.specs.Floor.{read_floor}
use Rattle.floor.specs.declared.Floor.{Floor}
use Rattle.plan.specs.Plan.{PlanNumbers, rejected, read_plan}
use Rattle.plan.specs.Numbers.{head_of}
use Rattle.plan.specs.After.{ReadAs}
use Rattle.clause.specs.Meaning.{IsClause}
use Rattle.clause.specs.declared.Span.{Span}
use Rattle.moves.specs.Promises.{AllUnending, Moving, FirstRefused}
use Rattle.conflict.specs.Meaning.{Earliest}
use Rattle.conflict.specs.OfPlan.{plan_routes, ConflictFree}
use Rattle.grammar.specs.Grammar.{top, gl, Clause, Sheet}
use Rattle.grammar.specs.Groups.{groups}
use Rattle.grammar.specs.Answers.{AcceptedSheet}
use Rattle.sheet.specs.Promises.{RulesRead}
use Rattle.cltl.specs.Meaning.{Rows}
use Rattle.cltl.specs.Rules.{rules, has_next}
use Rattle.plancheck.specs.Check.{plan_rows}

-- the same plan with drift d
abbrev pub drifted : PlanNumbers → ℕ → PlanNumbers
drifted p d = record { head = head_of p.head.steps p.head.stem d; rows = p.rows }

-- document 02, 6): every group that a clause names is one of the floor's, which has so many
abbrev pub HasGroups : ℕ → Clause → Type 0
HasGroups many c = All (λ (g : ℕ). g < many) (groups c)

-- g is the first of these groups that a floor with so many lacks
pub record FirstLacking (many : ℕ) (gs : List ℕ) (g : ℕ) : Type 0 where
  pub index : ℕ
  pub there : index < length gs
  pub group : get_or gs index 0 ≡ g
  pub lacking : many ≤ g
  pub before : (j : ℕ) → j < index → get_or gs j 0 < many

-- "next" only inside counts
abbrev pub Plain : Clause → Type 0
Plain c = T (has_next c) → ⊥

module _ (P : Rows) (d : ℕ) where
  -- true at step 0 by the drift rules
  abbrev pub Kept : Clause → Type 0
  Kept c = T (rules P d c 0)

  -- s is the lowest step where a fails by the drift rules
  pub record LowestFailing (a : Clause) (s : ℕ) : Type 0 where
    pub inside : s < P.h
    pub fails : T (rules P d a s) → ⊥
    pub before : (j : ℕ) → j < s → T (rules P d a j)

  -- "The step is the lowest where the body fails if the clause's outermost operator is G, else 0."
  pub record FailingStep (c : Clause) (s : ℕ) : Type 0 where
    pub globally : (a : Clause) → c ≡ gl a → LowestFailing a s
    pub otherwise : ((a : Clause) → c ≡ gl a → ⊥) → s ≡ 0

module _ (floor plan : List ℕ) where
  -- document 02, 2): "20 (lowest cart in any conflict, the step of its earliest counter in one ..)", where the moves are open without end
  pub record Conflict20 (c s : ℕ) : Type 0 where
    pub moving : Moving floor plan
    pub earliest : Earliest (plan_routes floor moving.floor_is moving.numbers) moving.numbers.head.drift c s

  -- about the plan, but for 20: refused as it is read, or, once read, as the first cart is whose moves are refused
  abbrev pub PlanRefused : Refusal → Type 0
  PlanRefused x =
      (f : Floor) × (read_floor floor ≡ Ok f)
      × ((read_plan f plan ≡ rejected x) ⊎ ((p : PlanNumbers) × ReadAs floor plan f p × FirstRefused floor f p (AboutPlan x)))

module _ (floor plan sheet : List ℕ) where
  -- floor, plan and sheet can be read, the plan begins at its carts' starts, and its moves are open at every counter
  pub record ReadAndOpen (f : Floor) (p : PlanNumbers) (cs : List Clause) : Type 0 where
    pub files : ReadAs floor plan f p
    pub moves : AllUnending floor f p
    pub clauses : AcceptedSheet sheet cs

  -- "Ahead of the clauses stand all refusals of the check but 17": there is none
  pub record NoneAhead (f : Floor) (p : PlanNumbers) (cs : List Clause) : Type 0 where
    pub readable : ReadAndOpen f p cs
    pub no_20 : ConflictFree floor f p
    pub no_21 : All (HasGroups f.groups) cs
    pub no_16 : (p.head.drift ≡ 0) ⊎ All Plain cs

  -- document 02, 6): "21 (lowest clause, its first such group) for a group the floor lacks, after the sheet is read and before 16": floor, plan, moves and
  -- sheet are not refused, nor by 20, clause k is the lowest, and g the first such group in its text
  pub record Lacks21 (k g : ℕ) : Type 0 where
    pub floor_is : Floor
    pub numbers : PlanNumbers
    pub clauses : List Clause
    pub readable : ReadAndOpen floor_is numbers clauses
    pub no_20 : ConflictFree floor floor_is numbers
    pub there : k < length clauses
    pub first : FirstLacking floor_is.groups (groups (get_or clauses k top)) g
    pub before : (j : ℕ) → j < k → HasGroups floor_is.groups (get_or clauses j top)

  -- "16 with d above 0, X outside a count (lowest clause, 0)": floor, plan, moves and sheet are not refused, nor by 20 or 21, and clause k
  -- is the lowest
  pub record Next16 (k : ℕ) : Type 0 where
    pub floor_is : Floor
    pub numbers : PlanNumbers
    pub clauses : List Clause
    pub readable : ReadAndOpen floor_is numbers clauses
    pub no_20 : ConflictFree floor floor_is numbers
    pub no_21 : All (HasGroups floor_is.groups) clauses
    pub drift : 0 < numbers.head.drift
    pub there : k < length clauses
    pub next : T (has_next (get_or clauses k top))
    pub before : (j : ℕ) → j < k → Plain (get_or clauses j top)

  -- "17, lowest clause not true (clause, step)": nothing is refused ahead, every clause before k is kept, and k is not
  pub record Fails17 (k s : ℕ) : Type 0 where
    pub floor_is : Floor
    pub numbers : PlanNumbers
    pub clauses : List Clause
    pub ahead : NoneAhead floor_is numbers clauses
    pub there : k < length clauses
    pub not_kept : Kept (plan_rows floor floor_is numbers) numbers.head.drift (get_or clauses k top) → ⊥
    pub before : (j : ℕ) → j < k → Kept (plan_rows floor floor_is numbers) numbers.head.drift (get_or clauses j top)
    pub step : FailingStep (plan_rows floor floor_is numbers) numbers.head.drift (get_or clauses k top) s

  -- about the sheet: the moves are open without end and free of conflicts, and the sheet is refused as it is read
  abbrev pub SheetRefused : Refusal → Type 0
  SheetRefused x = (m : Moving floor plan) × ConflictFree floor m.floor_is m.numbers × RulesRead sheet (AboutRules x)

-- the first further number k of a refusal is a clause that the sheet has, and the second one small: a step of the plan, a group, or 0
pub record NamesClause (sheet : List ℕ) (k s : ℕ) : Type 0 where
  pub clauses : List Clause
  pub read : AcceptedSheet sheet clauses
  pub there : k < length clauses
  pub small : s < 64

-- part p of a sheet is its line k, and this line, alone, is a sheet of the clause c and no other
pub record IsLineOf (sheet : List ℕ) (k : ℕ) (c : Clause) (p : Span) : Type 0 where
  pub line : IsClause sheet k p
  pub alone : Sheet (take p.length (drop p.offset sheet) ++ (10 ∷ [])) (c ∷ [])
