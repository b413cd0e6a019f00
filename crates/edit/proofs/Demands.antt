-- What the promises of moving on and of replacing a row alone give a caller: a law for each field.
use Rattle.std.specs.Prelude.{ℕ, ◌+◌, ◌≤◌, ◌<◌, ◌≡◌, refl, true, false, ◌⊎◌, ◌↔◌, List, [], ◌++◌, length, take, drop, get_or}
use Rattle.std.proofs.Common.{arith, sym, ◌∙◌, inl, inr, ⊎_elim, get_or-set_same}
use Rattle.std.proofs.Math.Path.{ap, subst}
use Rattle.refusal.specs.Results.{told}
use Rattle.refusal.specs.Codes.{refused, code_of}
use Rattle.refusal.specs.Given.{Given, moving_on, replacing_row}
use Rattle.refusal.specs.Numbered.{zero_accepts, zero_writes}
use Rattle.refusal.specs.Held.{about_plan, with_room, without_room}
use Rattle.refusal.specs.Stages.{is_accepted}
use Rattle.refusal.specs.Outcome.{Outcome, Gives, unchanged, written}
use Rattle.refusal.specs.declared.Refusal.{Refusal}
use Rattle.refusal.specs.declared.Verdict.{Verdict}
use Rattle.refusal.specs.declared.Verdict.TheVariants.{Accepted, Written, Floor as AboutFloor, Plan as AboutPlan, Rules as AboutRules}
use Rattle.record.specs.Buffer.{stored}
use Rattle.floor.specs.declared.Floor.{Floor}
use Rattle.plan.specs.Plan.{PlanNumbers, accepted, read_plan}
use Rattle.plan.specs.Numbers.{plan_file, row_at}
use Rattle.plan.specs.After.{ReadAs}
use Rattle.plan.specs.Valid.{RowFits}
use Rattle.plan.specs.RoundTrip.{valid}
use Rattle.plan.specs.Read.{ReadingCases, floor_refused, plan_refused, both_read, reading_cases}
use Rattle.row.specs.Round.{pick}
use Rattle.moves.specs.Promises.{AllUnending, CartUnending, CartDeparts, LowestLeft, Moving}
use Rattle.moves.specs.Unending.{sound}
use Rattle.moves.specs.Demands.{read_once}
use Rattle.edit.specs.Moved.{moved, move_on}
use Rattle.edit.specs.Replaced.{replaced}
use Rattle.edit.specs.Promises.{cart_place_at, file_length, Later, MovedOn, MovesAddUp, NewRow, RowReplaced}
use Rattle.edit.proofs.MovedReads.{length_moved}
use Rattle.edit.proofs.MovedWritten.{read_moves, one_result, held_too}
use Rattle.edit.proofs.ReplacedReads.{left}

---- Moving on.
-- a plan that goes on where p is after s moves
pub record GoesOn (f : Floor) (p q : PlanNumbers) (s : ℕ) : Type 0 where
  pub drift : q.head.drift ≡ p.head.drift
  pub place : (c i : ℕ) → c < f.carts → cart_place_at q c i ≡ cart_place_at p c (s + i)

module _ (floor plan : List ℕ) (s : ℕ) (before : List ℕ) (v : Verdict) (after : List ℕ) (w : MovedOn floor plan s before v after) where
  -- number 0 is a result of the length that is told; no refusal is about the rules
  pub zero_written : (code_of v).number ≡ 0 → v ≡ Written (code_of v).first
  zero_written z = zero_writes moving_on refl refl v w.numbers z

  pub moving_never_rules : (x : Refusal) → v ≡ AboutRules x → ⊥
  moving_never_rules x e = subst (Given moving_on) e w.numbers

  -- a refusal leaves the buffer as it is
  pub moving_keeps : ((code_of v).number ≡ 0 → ⊥) → after ≡ before
  unfolding move_on
  moving_keeps n = go (reading_cases (λ e. unchanged (told e) before) (λ f p. written AboutPlan (plan_file (moved s p)) before) floor plan)
    where
      go : ReadingCases (λ e. unchanged (told e) before) (λ f p. written AboutPlan (plan_file (moved s p)) before) floor plan → after ≡ before
      go (floor_refused x q) = w.outcome.out ∙ ap (λ (o : Outcome). o.out) q
      go (plan_refused x q) = w.outcome.out ∙ ap (λ (o : Outcome). o.out) q
      go (both_read f p r q) =
          let bytes = plan_file (moved s p) in
          let g : Gives (written AboutPlan bytes before) v after = subst (λ (o : Outcome). Gives o v after) q w.outcome in
          pick (length before) (length bytes) (after ≡ before) (λ l. (without_room AboutPlan bytes before v after g l).1)
          (λ l. absurd (n (ap (λ (x : Verdict). (code_of x).number) (with_room AboutPlan bytes before v after g l).0)))

  module _ (f : Floor) (p : PlanNumbers) (r : ReadAs floor plan f p) where
    -- with room enough: the moved plan's bytes, and every byte past them stays
    pub all_bytes : file_length f (moved s p) ≤ length before → after ≡ plan_file (moved s p) ++ drop (length (plan_file (moved s p))) before
    all_bytes enough =
        let bytes = plan_file (moved s p) in
        let size = length_moved f p (valid f plan p r.plan_read_lem) s in
        let g : Gives (written AboutPlan bytes before) v after = subst (λ (o : Outcome). Gives o v after) (read_moves floor plan s before f p r) w.outcome in
        (with_room AboutPlan bytes before v after g (omega arith)).1

    -- never refused with room enough
    pub never_short : file_length f (moved s p) ≤ length before → (x : Refusal) → v ≡ AboutPlan x → ⊥
    never_short enough x e = about_plan x (file_length f (moved s p)) (sym e ∙ w.room f p r enough)

    -- what is written is as long as the moved plan's file, and reads back as a plan that goes on from step s
    module _ (k : ℕ) (e : v ≡ Written k) where
      it : Later floor plan s k after
      it = w.later k e

      same : (it.floor_is ≡ f) × (it.numbers ≡ p)
      same = read_once floor plan it.floor_is f it.numbers p it.read r

      pub length_written : k ≡ file_length f (moved s p)
      length_written =
          it.size ∙ ap (λ (g : Floor). file_length g (moved s it.numbers)) same.0 ∙ ap (λ (n : PlanNumbers). file_length f (moved s n)) same.1

      pub goes_on : (q : PlanNumbers) × (read_plan f (take k after) ≡ accepted q) × GoesOn f p q s
      goes_on =
          let z : it.numbers ≡ p = same.1 in
          let carts : (c : ℕ) → c < f.carts → c < it.floor_is.carts = λ c l. subst (λ (g : Floor). c < g.carts) (sym same.0) l in (
            moved s it.numbers,
            ap (λ (g : Floor). read_plan g (take k after)) (sym same.0) ∙ it.reads,
            record {
              drift = it.drift ∙ ap (λ (n : PlanNumbers). n.head.drift) z;
              place = λ c i l. it.place c i (carts c l) ∙ ap (λ (n : PlanNumbers). cart_place_at n c (s + i)) z;
            },
          )

---- Moving on, added up.
module _ (floor plan : List ℕ) (s : ℕ) (before : List ℕ) (v : Verdict) (after : List ℕ) (a : MovesAddUp floor plan s before v after) where
  -- "moving on by 0 gives the plan back": with room enough its length, its very bytes, and every byte past them stays
  pub plan_back : (f : Floor) (p : PlanNumbers) → ReadAs floor plan f p → s ≡ 0 → length plan ≤ length before
      → (v ≡ Written (length plan)) × (after ≡ plan ++ drop (length plan) before)
  plan_back f p r z enough = with_room AboutPlan plan before v after (a.by_0 z f p r) enough

  -- Moved on by s and then by u, and by s + u, whichever buffers are lent
  module _ (k : ℕ) (e : v ≡ Written k) (u : ℕ) (before' : List ℕ) (v' : Verdict) (after' : List ℕ) (w' : MovedOn floor (take k after) u before' v' after')
      (before'' : List ℕ) (v'' : Verdict) (after'' : List ℕ) (w'' : MovedOn floor plan (s + u) before'' v'' after'') where
    -- into buffers that are alike: the same answer and bytes, also where they are too short
    pub same_outcome : before' ≡ before'' → (v' ≡ v'') × (after' ≡ after'')
    same_outcome alike =
        let q = ap (λ (out : List ℕ). move_on floor (take k after) u out) alike ∙ a.adds_up k e u before'' in (
          w'.outcome.answer ∙ ap (λ (o : Outcome). o.answer) q ∙ sym w''.outcome.answer,
          w'.outcome.out ∙ ap (λ (o : Outcome). o.out) q ∙ sym w''.outcome.out,
        )

    module _ (n : ℕ) (z : v'' ≡ Written n) where
      -- "the very bytes": if both are written
      pub same_bytes : (m : ℕ) → v' ≡ Written m → (m ≡ n) × (take m after' ≡ take n after'')
      same_bytes = one_result floor (take k after) plan u (s + u) (a.adds_up k e u) before' v' after' w'.outcome before'' v'' after'' w''.outcome n z

      -- and the second is, "as long as .. the buffers hold each result"
      pub second_written : n ≤ length before' → v' ≡ Written n
      second_written = held_too floor (take k after) plan u (s + u) (a.adds_up k e u) before' v' after' w'.outcome before'' v'' after'' w''.outcome n z

---- Replacing a row.
not_accepted : (v : Verdict) → ((code_of v).number ≡ 0 → ⊥) → is_accepted v ≡ false
not_accepted Accepted n = absurd (n refl)
not_accepted (Written k) n = refl
not_accepted (AboutFloor r) n = refl
not_accepted (AboutPlan r) n = refl
not_accepted (AboutRules r) n = refl

module _ (floor before : List ℕ) (c : ℕ) (row : List ℕ) (v : Verdict) (after : List ℕ) (w : RowReplaced floor before c row v after) where
  -- number 0 is done; any other leaves the plan as it is
  pub zero_replaced : (code_of v).number ≡ 0 → v ≡ Accepted
  zero_replaced z = zero_accepts replacing_row refl refl v w.numbers z

  pub refused_keeps : ((code_of v).number ≡ 0 → ⊥) → after ≡ before
  refused_keeps n = w.kept (not_accepted v n)

  pub replacing_never_rules : (x : Refusal) → v ≡ AboutRules x → ⊥
  replacing_never_rules x e = subst (Given replacing_row) e w.numbers

  module _ (f : Floor) (p : PlanNumbers) (r : ReadAs floor before f p) where
    -- "only that row's bytes change"
    pub only_that_row : v ≡ Accepted → after ≡ stored before (row_at p.head.steps c) row
    only_that_row e = left floor before c row v after w.outcome f p r true (ap is_accepted e)

    module _ (e : v ≡ Accepted) where
      new : NewRow floor before c row after
      new = w.replaces e

      one_plan : (new.floor_is ≡ f) × (new.numbers ≡ p)
      one_plan = read_once floor before new.floor_is f new.numbers p new.read r

      cart : c < f.carts
      cart = subst (λ (g : Floor). c < g.carts) one_plan.0 new.cart

      -- the plan with that row
      pub reads_replaced : read_plan f after ≡ accepted (replaced c row p)
      reads_replaced =
          ap (λ (g : Floor). read_plan g after) (sym one_plan.0) ∙ new.reads ∙ ap (λ (n : PlanNumbers). accepted (replaced c row n)) one_plan.1

      new_there : get_or (replaced c row p).rows c [] ≡ row
      new_there = let d = valid f before p r.plan_read_lem in get_or-set_same p.rows c row [] (omega (arith, cart, d.carts))

      -- done is never said with no byte written, unless the row is the old one
      pub some_byte : (row ≡ get_or p.rows c [] → ⊥) → after ≡ before → ⊥
      some_byte other none =
          let q : accepted p ≡ accepted (replaced c row p) = sym r.plan_read_lem ∙ ap (read_plan f) (sym none) ∙ reads_replaced in
          let z : p ≡ replaced c row p = cc in
          other (sym new_there ∙ ap (λ (n : PlanNumbers). get_or n.rows c []) (sym z))

      read_after : ReadAs floor after f (replaced c row p)
      read_after = record { floor_read = r.floor_read; plan_read_lem = reads_replaced }

      old_unending : AllUnending floor f p
      old_unending =
          let m : Moving floor before = sound floor before new.moves_before in
          let q = read_once floor before m.floor_is f m.numbers p m.read r in
          subst (AllUnending floor f) q.1 (subst (λ (g : Floor). AllUnending floor g m.numbers) q.0 m.unending)

      new_unending : AllUnending floor f (replaced c row p)
      new_unending =
          let m : Moving floor after = sound floor after new.moves in
          let q = read_once floor after m.floor_is f m.numbers (replaced c row p) m.read read_after in
          subst (AllUnending floor f) q.1 (subst (λ (g : Floor). AllUnending floor g m.numbers) q.0 m.unending)

      fits : RowFits p.head.steps f.places row
      fits =
          let d = valid f after (replaced c row p) reads_replaced in
          let size : length row ≡ p.head.steps = ap length (sym new_there) ∙ d.steps c cart in
          record { size = size; there = λ t l. subst (λ (x : List ℕ). get_or x t 0 < f.places) new_there (d.places c t cart (omega arith)) }

    module _ (n k : ℕ) (e : v ≡ AboutPlan (refused 11 n k)) where
      -- 11 of another cart is the plan's own
      pub other_11 : (n ≡ c → ⊥) → LowestLeft floor p n k
      other_11 other = ⊎_elim (λ of_plan. of_plan) (λ of_row. absurd (other of_row.1)) (w.shut_11 f p r n k e)

      -- and in either case the step is left for another place
      pub replaced_departs : CartDeparts p n k ⊎ CartDeparts (replaced c row p) n k
      replaced_departs = ⊎_elim (λ of_plan. inl of_plan.departs) (λ of_row. inr of_row.2.departs) (w.shut_11 f p r n k e)

    -- done exactly if the plan's moves go on without end, the cart is there, and the row fits it and goes on without end
    pub replaced-exactly :
        (v ≡ Accepted) ↔ (AllUnending floor f p × (c < f.carts) × RowFits p.head.steps f.places row × CartUnending floor (replaced c row p) c)
    replaced-exactly = (λ e. (old_unending e, cart e, fits e, new_unending e c (cart e)), λ x. w.complete f p r x.0 x.1 x.2 x.3)
