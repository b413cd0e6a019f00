-- What a C caller concludes from the promises alone, by testing `number`.
use Rattle.std.specs.Prelude.{ℕ, ◌+◌, ◌≤◌, ◌<◌, ◌≡◌, refl, ◌⊎◌, ◌↔◌, Bool, cond, length, take, drop, get_or, Ok}
use Rattle.std.proofs.Common.{arith, sym, ap, subst, subst₂, ◌∙◌, inl, inr, ⊎_elim, le-ltb}
use mathlib.Core.List.{List, ◌++◌, flatten}
use Rattle.endian.specs.Little.{bytes}
use Rattle.refusal.specs.Codes.{refused, code_of}
use Rattle.refusal.specs.Given.{RefusedAs, checking_plan, moving_on}
use Rattle.refusal.specs.Numbered.{zero_writes}
use Rattle.refusal.specs.Held.{with_room}
use Rattle.refusal.specs.Outcome.{Outcome, unchanged, written}
use Rattle.refusal.specs.declared.Code.{Code}
use Rattle.refusal.specs.declared.Verdict.{Verdict}
use Rattle.refusal.specs.declared.Verdict.TheVariants.{Written, Plan as AboutPlan}
use Rattle.record.specs.All.{All}
use Rattle.record.specs.Buffer.{stored}
use Rattle.floor.specs.Numbers.{FloorNumbers, numbers_of}
use Rattle.floor.specs.declared.Floor.{Floor}
use Rattle.plan.specs.Plan.{PlanNumbers, plan_of, read_both}
use Rattle.plan.specs.After.{ReadAs}
use Rattle.plan.specs.declared.Head.{Head}
use Rattle.plan.specs.declared.PlanRead.{PlanRead}
use Rattle.moves.specs.Promises.{Moving, CartDeparts}
use Rattle.moves.specs.Demands.{read_once}
use Rattle.edit.specs.Moved.{moved, move_on}
use Rattle.edit.specs.Replaced.{replaced}
use Rattle.edit.proofs.Refusing.{moving_given}
use Rattle.edit.proofs.MovedWritten.{result_read, one_result, held_too}
use Rattle.grammar.specs.Grammar.{top, Clause}
use Rattle.grammar.specs.Groups.{groups}
use Rattle.grammar.specs.Answers.{AcceptedSheet}
use Rattle.cltl.specs.Meaning.{Run, TrueOf, TrueInStep}
use Rattle.cltl.specs.Suffix.{TrueOnStep}
use Rattle.conflict.specs.Meaning.{Vertex, Swap, Conflict, Earliest}
use Rattle.conflict.specs.OfPlan.{plan_routes, ConflictFree}
use Rattle.plancheck.specs.Check.{plan_rows}
use Rattle.plancheck.specs.Meaning.{HasGroups, FirstLacking, Plain, Kept, ReadAndOpen, NoneAhead}
use Rattle.plancheck.proofs.FirstClause.{first_21}
use Rattle.plancheck.proofs.Stages.{same_clauses}
use Rattle.plancheck.proofs.Demands.{never_meet, never_exchanged}
use Rattle.suffix.specs.Promises.{TrueLater}
use Rattle.controller.specs.Told.{read_both_lem}
use Rattle.controller.specs.Edge.{FloorReadCode, PlanReadCode, FloorWrittenCode, PlanWrittenCode, RulesReadCode, MovesCheckedCode, PlanCheckedCode, MovedOnCode, MovesAddUpCode, RowReplacedCode}

---- Files: "floor and plan files read and write back to the same bytes".
-- cartplan_read_floor says 0: cartplan_write_floor of the numbers that the file holds says 0, with its length, and gives its bytes
pub read_then_write : (floor before after : List ℕ) (c c' : Code) → FloorReadCode floor c → c.number ≡ 0
    → FloorWrittenCode (numbers_of floor) before c' after → length floor ≤ length before
    → (c'.number ≡ 0) × (c'.first ≡ length floor) × (after ≡ floor ++ drop c'.first before)
read_then_write floor before after c c' r z w room =
    let x = r.accepted.0 z in
    let a = r.read.accepted x.0 x.1 in
    let e = a.writes_back in
    let done = w.complete x.0 a.valid (omega (arith, ap length e)) in
    let out = w.written done in
    (done, out.0 ∙ ap length e, subst (λ (s : List ℕ). after ≡ s ++ drop c'.first before) e out.1)

-- cartplan_write_floor says 0: cartplan_read_floor of what it wrote says 0, and the numbers are the same
pub write_then_read : (n : FloorNumbers) (before after : List ℕ) (c c' : Code) → FloorWrittenCode n before c after → c.number ≡ 0
    → FloorReadCode (take c.first after) c' → (c'.number ≡ 0) × (numbers_of (take c.first after) ≡ n)
write_then_read n before after c c' w z r = let b = w.reads_back z in (r.accepted.1 (b.0, b.1), b.2)

-- cartplan_read_plan says 0: so do plans, on their floor
pub plan_read_then_write : (floor s before after : List ℕ) (c c' : Code) (r : PlanReadCode floor s c) (z : c.number ≡ 0)
    → let n = (r.accepted.0 z).1.numbers in
    PlanWrittenCode floor n.head (flatten n.rows) before c' after → length s ≤ length before
    → (c'.number ≡ 0) × (c'.first ≡ length s) × (after ≡ s ++ drop (length s) before)
plan_read_then_write floor s before after c c' r z w room =
    let put : Outcome = record { answer = Written (length s); out = s ++ drop (length s) before } in
    let e = (r.accepted.0 z).1.written_again before
    ∙ ap (λ (b : Bool). cond b (unchanged (AboutPlan (refused 18 (length s) 0)) before) put) (le-ltb (length before) (length s) room) in
    let code : c' ≡ code_of (Written (length s)) = w.coded.coded.code ∙ ap (λ (o : Outcome). code_of o.answer) e in
    (ap (λ (x : Code). x.number) code, ap (λ (x : Code). x.first) code, w.coded.out ∙ ap (λ (o : Outcome). o.out) e)

-- cartplan_write_plan says 0: what it wrote reads back, with that head and those rows
pub plan_write_then_read : (floor : List ℕ) (h : Head) (rows before after : List ℕ) (c c' : Code) → PlanWrittenCode floor h rows before c after → c.number ≡ 0
    → PlanReadCode floor (take c.first after) c' → c'.number ≡ 0
plan_write_then_read floor h rows before after c c' w z r =
    let b = w.reads_back z in
    let x : PlanRead = record { floor = b.0; plan = plan_of b.1 } in
    let e : read_both floor (take c.first after) ≡ Ok x =
    read_both_lem floor (take c.first after) b.0 b.1 (record { floor_read = b.2; plan_read_lem = b.3 }) in
    r.accepted.1 (x, r.read.accepted x e)

---- Refusals: any number but 0 is listed, and changes no byte.
pub check_refused : (floor plan rules : List ℕ) (c : Code) → PlanCheckedCode floor plan rules c → (c.number ≡ 0 → ⊥) → RefusedAs checking_plan c
check_refused floor plan rules c w n = w.coded.answered.refused n

pub moved_kept : (floor plan : List ℕ) (s : ℕ) (before after : List ℕ) (c : Code) → MovedOnCode floor plan s before c after → (c.number ≡ 0 → ⊥)
    → after ≡ before
moved_kept floor plan s before after c w n = w.coded.kept n

pub replaced_kept : (floor before : List ℕ) (cart : ℕ) (row after : List ℕ) (c : Code) → RowReplacedCode floor before cart row c after → (c.number ≡ 0 → ⊥)
    → after ≡ before
replaced_kept floor before cart row after c w n = w.coded.kept n

-- replacing says 0: the plan with that row is read, and cartplan_check_moves says 0 of it
pub replaced_moves : (floor before : List ℕ) (cart : ℕ) (row after : List ℕ) (c c' : Code) → RowReplacedCode floor before cart row c after → c.number ≡ 0
    → MovesCheckedCode floor after c' → c'.number ≡ 0
replaced_moves floor before cart row after c c' w z m = ap (λ (x : Code). x.number) m.coded.code ∙ ap (λ (v : Verdict). (code_of v).number) (w.replaces z).moves

---- Moving on.
-- number 0 is a result of `first` bytes
moved_is : (floor plan : List ℕ) (s : ℕ) (before after : List ℕ) (c : Code) → MovedOnCode floor plan s before c after → c.number ≡ 0
    → (move_on floor plan s before).answer ≡ Written c.first
moved_is floor plan s before after c w z =
    let code = sym w.coded.coded.code in
    zero_writes moving_on refl refl (move_on floor plan s before).answer (moving_given floor plan s before) (ap (λ (x : Code). x.number) code ∙ z)
    ∙ ap (λ (x : Code). Written x.first) code

module _ (floor plan : List ℕ) (s : ℕ) (before after : List ℕ) (c : Code) (a : MovesAddUpCode floor plan s before c after) where
  -- by 0, into a buffer that holds it: 0, the plan's length and its very bytes, and behind them the buffer's own
  pub plan_back : s ≡ 0 → (f : Floor) (p : PlanNumbers) → ReadAs floor plan f p → length plan ≤ length before
      → (c.number ≡ 0) × (c.first ≡ length plan) × (after ≡ plan ++ drop (length plan) before)
  plan_back z f p files enough =
      let x = a.by_0 z f p files in
      let o = written AboutPlan plan before in
      let put = with_room AboutPlan plan before o.answer o.out (record { answer = refl; out = refl }) enough in
      let code = x.coded.code ∙ ap code_of put.0 in
      (ap (λ (y : Code). y.number) code, ap (λ (y : Code). y.first) code, x.out ∙ put.1)

  module _ (z : c.number ≡ 0) where
    -- floor and plan can be read, and so can the result; a clause, and a sheet, is true in step at its start exactly if it was at the step of counter s
    pub moved_truth : MovedOnCode floor plan s before c after → (f : Floor) × (p : PlanNumbers) × (q : PlanNumbers) × ReadAs floor plan f p
        × ReadAs floor (take c.first after) f q × TrueLater (plan_rows floor f p) (plan_rows floor f q) s
    moved_truth w =
        let x = w.later z in
        let result = result_read floor plan s c.first after x in
        (x.floor_is, x.numbers, moved s x.numbers, x.read, result, a.truth z x.floor_is x.numbers (moved s x.numbers) x.read result)

    -- the result has drift 0 and cartplan_check says 0 of it: every clause of the sheet was true in step at the step of counter s
    pub moved_checked : (rules : List ℕ) (c' : Code) → PlanCheckedCode floor (take c.first after) rules c' → c'.number ≡ 0
        → (f : Floor) (p q : PlanNumbers) → ReadAs floor plan f p → ReadAs floor (take c.first after) f q → q.head.drift ≡ 0
        → (cs : List Clause) × AcceptedSheet rules cs × All (TrueOnStep (plan_rows floor f p) s) cs
    moved_checked rules c' k zero f p q files again none =
        let x = (k.means.in_step f q again none).0 zero in
        (x.0, x.1.clauses, ((a.truth z f p q files again).sheet x.0).0 x.4)

    -- moved on by u once more, and the plan moved on by s + u at once
    module _ (u : ℕ) (before' after' : List ℕ) (c' : Code) (w' : MovedOnCode floor (take c.first after) u before' c' after')
        (before'' after'' : List ℕ) (c'' : Code) (w'' : MovedOnCode floor plan (s + u) before'' c'' after'') (zero : c''.number ≡ 0) where
      -- both are written: "the very bytes"
      pub same_bytes : c'.number ≡ 0 → (c'.first ≡ c''.first) × (take c'.first after' ≡ take c''.first after'')
      same_bytes e =
          one_result floor (take c.first after) plan u (s + u) (a.adds_up z u)
          before' (move_on floor (take c.first after) u before').answer after' (record { answer = refl; out = w'.coded.out })
          before'' (move_on floor plan (s + u) before'').answer after'' (record { answer = refl; out = w''.coded.out }) c''.first
          (moved_is floor plan (s + u) before'' after'' c'' w'' zero) c'.first (moved_is floor (take c.first after) u before' after' c' w' e)

      -- and they are "as long as .. the buffers hold each result"
      pub moves_add : c''.first ≤ length before' → (c'.number ≡ 0) × (c'.first ≡ c''.first) × (take c'.first after' ≡ take c''.first after'')
      moves_add enough =
          let held =
          held_too floor (take c.first after) plan u (s + u) (a.adds_up z u)
          before' (move_on floor (take c.first after) u before').answer after' (record { answer = refl; out = w'.coded.out })
          before'' (move_on floor plan (s + u) before'').answer after'' (record { answer = refl; out = w''.coded.out }) c''.first
          (moved_is floor plan (s + u) before'' after'' c'' w'' zero) enough in
          let e : c'.number ≡ 0 = ap (λ (x : Code). x.number) w'.coded.coded.code ∙ ap (λ (v : Verdict). (code_of v).number) held in
          (e, (same_bytes e).0, (same_bytes e).1)

---- 11: the cart leaves the step for another place, so that it is never given for a step on which a cart is parked.
module _ (floor plan : List ℕ) (f : Floor) (p : PlanNumbers) (files : ReadAs floor plan f p) (c : Code) (e : c.number ≡ 11) where
  pub moves_departs : MovesCheckedCode floor plan c → CartDeparts p c.first c.second
  moves_departs w = (w.shut_11 f p files e).departs

  pub check_departs : (rules : List ℕ) → PlanCheckedCode floor plan rules c → CartDeparts p c.first c.second
  check_departs rules w = (w.shut_11 f p files e).departs

  pub replace_departs : (cart : ℕ) (row after : List ℕ) → RowReplacedCode floor plan cart row c after
      → CartDeparts p c.first c.second ⊎ CartDeparts (replaced cart row p) c.first c.second
  replace_departs cart row after w = ⊎_elim (λ of_plan. inl of_plan.departs) (λ of_row. inr of_row.2.departs) (w.shut_11 f p files e)

---- The check.
module _ (floor plan rules : List ℕ) (c : Code) (w : PlanCheckedCode floor plan rules c) where
  -- 0: all can be read, nothing is refused ahead, and with "next" only inside counts every clause is true of every run within the drift
  pub zero_runs : c.number ≡ 0 → (f : Floor) × (p : PlanNumbers) × (cs : List Clause) × NoneAhead floor plan rules f p cs
      × (All Plain cs → (r : Run f.carts p.head.drift) → All (TrueOf (plan_rows floor f p) r) cs)
  zero_runs z =
      let a = w.means.readable z in
      (a.0, a.1, a.2, a.3, λ plain r. w.means.runs z a.0 a.1 a.2 a.3.readable plain r)

  -- and no run within the drift has two carts in one narrow place at a moment, nor exchanges two between narrow places in one tick
  module _ (z : c.number ≡ 0) (f : Floor) (p : PlanNumbers) (files : ReadAs floor plan f p) (run : Run f.carts p.head.drift) (t a b : ℕ)
      (here : a < f.carts) (there : b < f.carts) (two : a ≡ b → ⊥) where
    pub zero_apart : Vertex (plan_routes floor f p) run.at t a b → ⊥
    zero_apart = never_meet floor plan rules (c.number ≡ 0) w.means z f p files run t a b here there two

    pub zero_unexchanged : Swap (plan_routes floor f p) run.at t a b → ⊥
    zero_unexchanged = never_exchanged floor plan rules (c.number ≡ 0) w.means z f p files run t a b here there two

  -- 20: cartplan_check_moves says 0, and in the caller's own reading of floor and plan `first` is the lowest cart in any conflict and `second` the step of its
  -- earliest counter in one
  pub twenty_moves : c.number ≡ 20 → (c' : Code) → MovesCheckedCode floor plan c' → c'.number ≡ 0
  twenty_moves e c' m = m.accepted.1 (w.conflict_20 e).moving

  pub twenty_earliest : c.number ≡ 20 → (f : Floor) (p : PlanNumbers) → ReadAs floor plan f p
      → Earliest (plan_routes floor f p) p.head.drift c.first c.second
  twenty_earliest e f p files =
      let x = w.conflict_20 e in
      let m = x.moving in
      let same = read_once floor plan m.floor_is f m.numbers p m.read files in
      subst₂ (λ (g : Floor) (q : PlanNumbers). Earliest (plan_routes floor g q) q.head.drift c.first c.second) same.0 same.1 x.earliest

  -- moves open without end: 20 about the plan, with those numbers, where some run within the drift has a conflict; and where it is not 20 no run has one
  module _ (m : Moving floor plan) where
    pub earliest_twenty : (a s : ℕ) → Earliest (plan_routes floor m.floor_is m.numbers) m.numbers.head.drift a s
        → (c.about ≡ 2) × (c.number ≡ 20) × (c.first ≡ a) × (c.second ≡ s)
    earliest_twenty a s e = w.told_20 a s (record { moving = m; earliest = e })

    pub conflict_twenty : (a k : ℕ) → Conflict (plan_routes floor m.floor_is m.numbers) m.numbers.head.drift a k → c.number ≡ 20
    conflict_twenty a k x = (w.exists_20 m).1 (a, k, x)

    pub not_twenty : (c.number ≡ 20 → ⊥) → ConflictFree floor m.floor_is m.numbers
    not_twenty n r t a b here there two x =
        n (conflict_twenty a (r.at t a)
        (record { run = r; moment = t; other = b; cart_there = here; other_there = there; two = two; counter = refl; conflicting = x }))

  -- 21: cartplan_check_moves and cartplan_read_rules say 0, and in the caller's own reading `first` is the lowest clause that names a group the floor lacks and
  -- `second` the first such group in its text
  pub twenty_one_moves : c.number ≡ 21 → (c' : Code) → MovesCheckedCode floor plan c' → c'.number ≡ 0
  twenty_one_moves e c' m =
      let x = w.lacks_21 e in
      m.accepted.1 (record { floor_is = x.floor_is; numbers = x.numbers; read = x.readable.files; unending = x.readable.moves })

  pub twenty_one_rules : c.number ≡ 21 → (c' : Code) → RulesReadCode rules c' → c'.number ≡ 0
  twenty_one_rules e c' r = let x = w.lacks_21 e in r.accepted.1 (x.clauses, x.readable.clauses)

  module _ (f : Floor) (p : PlanNumbers) (cs : List Clause) (r : ReadAndOpen floor plan rules f p cs) where
    pub twenty_one_lacking : c.number ≡ 21
        → (c.first < length cs) × FirstLacking f.groups (groups (get_or cs c.first top)) c.second
        × ((j : ℕ) → j < c.first → HasGroups f.groups (get_or cs j top))
    twenty_one_lacking e =
        let x = w.lacks_21 e in
        let same = read_once floor plan x.floor_is f x.numbers p x.readable.files r.files in
        subst₂
        (λ (g : Floor) (ds : List Clause). (c.first < length ds)
        × FirstLacking g.groups (groups (get_or ds c.first top)) c.second × ((j : ℕ) → j < c.first → HasGroups g.groups (get_or ds j top)))
        same.0 (same_clauses rules x.clauses cs x.readable.clauses r.clauses) (x.there, x.first, x.before)

    -- all read without a conflict: 21 about the rules, with those numbers, where a clause names such a group; and where it is not 21 no clause does
    pub lacking_twenty_one : ConflictFree floor f p → (k g : ℕ) → k < length cs → FirstLacking f.groups (groups (get_or cs k top)) g
        → ((j : ℕ) → j < k → HasGroups f.groups (get_or cs j top)) → (c.about ≡ 3) × (c.number ≡ 21) × (c.first ≡ k) × (c.second ≡ g)
    lacking_twenty_one free k g l x before = w.told_21 k g
        (record { floor_is = f; numbers = p; clauses = cs; readable = r; no_20 = free; there = l; first = x; before = before })

    pub not_twenty_one : ConflictFree floor f p → (c.number ≡ 21 → ⊥) → All (HasGroups f.groups) cs
    not_twenty_one free n =
        ⊎_elim (λ a. a.0) (λ x. absurd (n (lacking_twenty_one free x.index _ x.there x.bad x.before).1)) (first_21 f.groups cs)

  -- 0 too for the plan with the bytes of a smaller drift
  pub zero_smaller : c.number ≡ 0 → (f : Floor) (p : PlanNumbers) → ReadAs floor plan f p → (d : ℕ) → d ≤ p.head.drift
      → (c' : Code) → PlanCheckedCode floor (stored plan 8 (bytes 2 d)) rules c' → c'.number ≡ 0
  zero_smaller z f p files d less c' w' =
      ap (λ (x : Code). x.number) w'.coded.code ∙ ap (λ (v : Verdict). (code_of v).number) (w.means.smaller z f p files d less).1

  -- at drift 0: 0 exactly if floor, plan and sheet are read, moves are open without end, no run of drift 0 has a conflict, no clause names a group that the
  -- floor lacks, and every clause is true in step
  pub zero_in_step : (f : Floor) (p : PlanNumbers) → ReadAs floor plan f p → p.head.drift ≡ 0
      → (c.number ≡ 0) ↔ ((cs : List Clause) × ReadAndOpen floor plan rules f p cs × ConflictFree floor f p × All (HasGroups f.groups) cs
      × All (TrueInStep (plan_rows floor f p)) cs)
  zero_in_step f p files none = w.means.in_step f p files none

  -- nothing refused ahead: 0 exactly if the drift rules keep every clause
  pub zero_kept : (f : Floor) (p : PlanNumbers) (cs : List Clause) → NoneAhead floor plan rules f p cs
      → (c.number ≡ 0) ↔ All (Kept (plan_rows floor f p) p.head.drift) cs
  zero_kept f p cs a = w.means.kept f p cs a

  -- so its moves and its sheet say 0 too
  pub zero_moves : c.number ≡ 0 → (c' : Code) → MovesCheckedCode floor plan c' → c'.number ≡ 0
  zero_moves z c' m =
      let a = w.means.readable z in
      m.accepted.1 (record { floor_is = a.0; numbers = a.1; read = a.3.readable.files; unending = a.3.readable.moves })

  pub zero_rules : c.number ≡ 0 → (c' : Code) → RulesReadCode rules c' → c'.number ≡ 0
  zero_rules z c' r = let a = w.means.readable z in r.accepted.1 (a.2, a.3.readable.clauses)
