-- What the functions for C promise, in the four numbers that C sees: `number` is 0 exactly if the operation accepted or was done.
use Rattle.std.specs.Prelude.{ℕ, ◌+◌, ◌≤◌, ◌<◌, ◌≡◌, ◌⊎◌, ◌↔◌, length, take, drop, get_or, Ok, Err}
use mathlib.Core.List.{List, ◌++◌, flatten}
use Rattle.plan.specs.declared.PlanRead.{PlanRead}
use Rattle.refusal.specs.Results.{checked}
use Rattle.refusal.specs.Codes.{code_of, bytes_of}
use Rattle.refusal.specs.Given.{OneOf, Refusals, Answered, reading_floor, reading_plan, writing_floor, writing_plan, checking_moves, reading_sheet, clause_numbers, checking_plan, moving_on, replacing_row}
use Rattle.refusal.specs.Outcome.{Outcome, written}
use Rattle.refusal.specs.declared.Code.{Code}
use Rattle.refusal.specs.declared.Refusal.{Refusal}
use Rattle.refusal.specs.declared.Verdict.{Verdict}
use Rattle.refusal.specs.declared.Verdict.TheVariants.{Plan as AboutPlan}
use Rattle.record.specs.Parts.{parts}
use Rattle.floor.specs.Floor.{read_floor, floor_verdict}
use Rattle.floor.specs.Numbers.{FloorNumbers, floor_bytes, numbers_of, write_floor}
use Rattle.floor.specs.Valid.{ValidFloor}
use Rattle.floor.specs.Promises.{FloorRead}
use Rattle.floor.specs.declared.Floor.{Floor}
use Rattle.plan.specs.Plan.{PlanNumbers, accepted as acceptedNumbers, read_plan, read_both}
use Rattle.plan.specs.Numbers.{plan_bytes, write_plan}
use Rattle.plan.specs.Valid.{ValidPlan, RowFits}
use Rattle.plan.specs.After.{ReadAs}
use Rattle.plan.specs.Promises.{PlanReads, AcceptedPlan}
use Rattle.plan.specs.declared.Head.{Head}
use Rattle.grammar.specs.Grammar.{top, Clause}
use Rattle.grammar.specs.Reader.{read_sheet, refused}
use Rattle.grammar.specs.Answers.{AcceptedSheet}
use Rattle.grammar.specs.Promises.{Promises}
use Rattle.clause.specs.Promises.{Picked}
use Rattle.clause.specs.declared.Span.{Span}
use Rattle.sheet.specs.Rules.{rules_verdict}
use Rattle.moves.specs.Carts.{checked_moves}
use Rattle.moves.specs.Promises.{AllUnending, CartUnending, LowestLeft, Moving, FirstRefused}
use Rattle.edit.specs.Moved.{moved, move_on}
use Rattle.edit.specs.Replaced.{replaced, replace_row}
use Rattle.edit.specs.Promises.{file_length, Later, NewRow}
use Rattle.conflict.specs.Meaning.{Conflict}
use Rattle.conflict.specs.OfPlan.{plan_routes}
use Rattle.plancheck.specs.Check.{plan_rows, checked as checked_plan}
use Rattle.plancheck.specs.Meaning.{IsLineOf, Conflict20, Lacks21, Next16, Fails17, PlanRefused, SheetRefused}
use Rattle.plancheck.specs.Promises.{Means}
use Rattle.suffix.specs.Promises.{TrueLater}

-- the refusal that four numbers tell
abbrev pub refusal_in : Code → Refusal
refusal_in c = record { number = c.number; first = c.first; second = c.second }

-- the four numbers of an operation's answer, which is one that document 01 or 02 names for it
pub record Coded (t : Refusals) (v : Verdict) (c : Code) : Type 0 where
  pub code : c ≡ code_of v
  pub answered : Answered t c

-- the same with a lent buffer: every byte afterwards, and a refusal changes none
pub record CodedOut (t : Refusals) (o : Outcome) (before : List ℕ) (c : Code) (after : List ℕ) : Type 0 where
  pub coded : Coded t o.answer c
  pub out : after ≡ o.out
  pub kept : (c.number ≡ 0 → ⊥) → after ≡ before

-- cartplan_read_floor
pub record FloorReadCode (floor : List ℕ) (c : Code) : Type 0 where
  pub coded : Coded reading_floor (floor_verdict (read_floor floor)) c
  -- number 0 exactly if the floor is read; and what was read: numbers of the table, which write back as the same bytes
  pub accepted : (c.number ≡ 0) ↔ ((f : Floor) × (read_floor floor ≡ Ok f))
  pub read : FloorRead floor (read_floor floor)

-- cartplan_read_plan
pub record PlanReadCode (floor plan : List ℕ) (c : Code) : Type 0 where
  pub coded : Coded reading_plan (checked (read_both floor plan)) c
  -- number 0 exactly if floor and plan are read, as numbers of the table, which write back as the same bytes
  pub accepted : (c.number ≡ 0) ↔ ((r : PlanRead) × AcceptedPlan floor plan r)
  pub read : PlanReads floor plan (read_both floor plan)

-- cartplan_write_floor
pub record FloorWrittenCode (n : FloorNumbers) (before : List ℕ) (c : Code) (after : List ℕ) : Type 0 where
  pub coded : CodedOut writing_floor (write_floor n before) before c after
  -- numbers of the table are written if there is room
  pub complete : (f : Floor) → ValidFloor n f → length (floor_bytes n) ≤ length before → c.number ≡ 0
  -- number 0: the floor's bytes, `first` of them, and behind them the buffer's own
  pub written : c.number ≡ 0 → (c.first ≡ length (floor_bytes n)) × (after ≡ floor_bytes n ++ drop c.first before)
  pub reads_back : c.number ≡ 0 → (f : Floor) × (read_floor (take c.first after) ≡ Ok f) × (numbers_of (take c.first after) ≡ n)

-- cartplan_write_plan
pub record PlanWrittenCode (floor : List ℕ) (h : Head) (rows before : List ℕ) (c : Code) (after : List ℕ) : Type 0 where
  pub coded : CodedOut writing_plan (write_plan floor h rows before) before c after
  pub complete : (f : Floor) → read_floor floor ≡ Ok f → ValidPlan (record { head = h; rows = parts h.steps rows }) f
      → length (plan_bytes h rows) ≤ length before → c.number ≡ 0
  pub written : c.number ≡ 0 → (c.first ≡ length (plan_bytes h rows)) × (after ≡ plan_bytes h rows ++ drop c.first before)
  pub reads_back : c.number ≡ 0 → (f : Floor) × (n : PlanNumbers) × (read_floor floor ≡ Ok f)
      × (read_plan f (take c.first after) ≡ acceptedNumbers n) × (n.head ≡ h) × (flatten n.rows ≡ rows)

-- cartplan_read_rules
pub record RulesReadCode (rules : List ℕ) (c : Code) : Type 0 where
  pub coded : Coded reading_sheet (rules_verdict rules) c
  -- number 0 exactly if the grammar derives the sheet within the limits
  pub accepted : (c.number ≡ 0) ↔ ((cs : List Clause) × AcceptedSheet rules cs)
  -- refused by `number` at offset `first`, and what that means in the words of the grammar and the limits
  pub refused_at : (c.number ≡ 0 → ⊥) → (read_sheet rules ≡ refused c.number c.first) × (c.second ≡ 0)
  pub meaning : Promises rules

-- cartplan_check_moves
pub record MovesCheckedCode (floor plan : List ℕ) (c : Code) : Type 0 where
  pub coded : Coded checking_moves (checked_moves floor plan) c
  -- number 0 exactly if floor and plan are read, each cart begins at its start, and its move at every counter is open
  pub accepted : (c.number ≡ 0) ↔ Moving floor plan
  -- floor and plan read, and refused: the first cart refused, and for 11 its lowest step
  pub first : (f : Floor) (p : PlanNumbers) → ReadAs floor plan f p → (c.number ≡ 0 → ⊥) → FirstRefused floor f p (checked_moves floor plan)
  -- 11, by the cart in `first` and the step in `second`: the lowest step that it leaves by a move that is not open, and it leaves it for another place
  pub shut_11 : (f : Floor) (p : PlanNumbers) → ReadAs floor plan f p → c.number ≡ 11 → LowestLeft floor p c.first c.second

-- cartplan_check
pub record PlanCheckedCode (floor plan rules : List ℕ) (c : Code) : Type 0 where
  pub coded : Coded checking_plan (checked_plan floor plan rules) c
  -- demands 2 and 3, from number 0
  pub means : Means floor plan rules (c.number ≡ 0)
  -- 11, by the cart in `first` and the step in `second`, as for cartplan_check_moves
  pub shut_11 : (f : Floor) (p : PlanNumbers) → ReadAs floor plan f p → c.number ≡ 11 → LowestLeft floor p c.first c.second
  -- 20, by the cart in `first` and the step in `second`: the moves are open without end, and they are the lowest cart in any conflict of a run within the
  -- drift and the step of its earliest counter in one; and where that is so, it is told
  pub conflict_20 : c.number ≡ 20 → Conflict20 floor plan c.first c.second
  pub told_20 : (a s : ℕ) → Conflict20 floor plan a s → (c.about ≡ 2) × (c.number ≡ 20) × (c.first ≡ a) × (c.second ≡ s)
  -- "Where no earlier refusal comes .., a plan is refused on this ground exactly if such a run exists."
  pub exists_20 : (m : Moving floor plan) → let P = plan_routes floor m.floor_is m.numbers in let d = m.numbers.head.drift in
      (c.number ≡ 20) ↔ ((a : ℕ) × (k : ℕ) × Conflict P d a k)
  -- 21, by the clause in `first` and the group in `second`: nothing is refused before, and they are the lowest clause that names a group the floor lacks and
  -- the first such group in its text; and where that is so, it is told
  pub lacks_21 : c.number ≡ 21 → Lacks21 floor plan rules c.first c.second
  pub told_21 : (k g : ℕ) → Lacks21 floor plan rules k g → (c.about ≡ 3) × (c.number ≡ 21) × (c.first ≡ k) × (c.second ≡ g)
  -- 16 and 17, by the clause in `first` and the step in `second`
  pub next_16 : c.number ≡ 16 → (c.second ≡ 0) × Next16 floor plan rules c.first
  pub fails_17 : c.number ≡ 17 → Fails17 floor plan rules c.first c.second
  -- and what cartplan_clause picks by these four numbers is that clause's line, which alone is a sheet of the clause that was judged
  pub shown : OneOf clause_numbers c.number → (cs : List Clause) → AcceptedSheet rules cs → (p : Span) → Picked rules (bytes_of c) p
      → (c.first < length cs) × IsLineOf rules c.first (get_or cs c.first top) p
  -- every other refusal is that of the floor, the plan, its moves or the sheet, in this order
  pub floor_refused : c.about ≡ 1 → read_floor floor ≡ Err (refusal_in c)
  pub plan_refused : c.about ≡ 2 → (c.number ≡ 20 → ⊥) → PlanRefused floor plan (refusal_in c)
  pub sheet_refused : c.about ≡ 3 → (OneOf clause_numbers c.number → ⊥) → SheetRefused floor plan rules (refusal_in c)

-- cartplan_move_on
pub record MovedOnCode (floor plan : List ℕ) (s : ℕ) (before : List ℕ) (c : Code) (after : List ℕ) : Type 0 where
  pub coded : CodedOut moving_on (move_on floor plan s before) before c after
  -- number 0: `first` bytes, a plan whose place at counter i is the plan's at s + i; bytes past them stay
  pub later : c.number ≡ 0 → Later floor plan s c.first after
  pub stays : c.number ≡ 0 → drop c.first after ≡ drop c.first before
  -- a plan that is read is moved on if there is room
  pub room : (f : Floor) (p : PlanNumbers) → ReadAs floor plan f p → file_length f (moved s p) ≤ length before
      → (c.number ≡ 0) × (c.first ≡ file_length f (moved s p))

-- cartplan_move_on: what it promises of a second move and of clauses, beside MovedOnCode
pub record MovesAddUpCode (floor plan : List ℕ) (s : ℕ) (before : List ℕ) (c : Code) (after : List ℕ) : Type 0 where
  -- document 02, 7): "moving on by 0 gives the plan back": answer and bytes are those of putting the plan itself
  pub by_0 : s ≡ 0 → (f : Floor) (p : PlanNumbers) → ReadAs floor plan f p → CodedOut moving_on (written AboutPlan plan before) before c after
  -- "Moving on by s and then by u must give the very bytes of moving on by s + u": whatever the buffer, the result, moved on by u in turn, has the outcome of
  -- the plan moved on by s + u, the answer and every byte. The function's number has two bytes, so no call has a greater sum than 65,535
  pub adds_up : c.number ≡ 0 → (u : ℕ) (out : List ℕ) → move_on floor (take c.first after) u out ≡ move_on floor plan (s + u) out
  -- "A clause is true in step at the start of the moved plan exactly when it was true at the step on which counter s stood", "next" outside counts included and
  -- whatever the drift; and so all clauses of a sheet are exactly when all were
  pub truth : c.number ≡ 0 → (f : Floor) (p q : PlanNumbers) → ReadAs floor plan f p → ReadAs floor (take c.first after) f q
      → TrueLater (plan_rows floor f p) (plan_rows floor f q) s

-- cartplan_replace_row
pub record RowReplacedCode (floor before : List ℕ) (cart : ℕ) (row : List ℕ) (c : Code) (after : List ℕ) : Type 0 where
  pub coded : CodedOut replacing_row (replace_row floor before cart row) before c after
  -- number 0: the plan with that row and no other difference, its moves accepted as before
  pub replaces : c.number ≡ 0 → NewRow floor before cart row after
  -- a row that fits a cart of the floor, and whose moves go on without end as those of the plan do, is not refused
  pub complete : (f : Floor) (p : PlanNumbers) → ReadAs floor before f p → AllUnending floor f p → cart < f.carts
      → RowFits p.head.steps f.places row → CartUnending floor (replaced cart row p) cart → c.number ≡ 0
  -- 11, as for cartplan_check_moves: of the plan as it is or, where its moves go on without end, of this cart with the new row
  pub shut_11 : (f : Floor) (p : PlanNumbers) → ReadAs floor before f p → c.number ≡ 11
      → LowestLeft floor p c.first c.second
      ⊎ (AllUnending floor f p × (c.first ≡ cart) × LowestLeft floor (replaced cart row p) c.first c.second)
