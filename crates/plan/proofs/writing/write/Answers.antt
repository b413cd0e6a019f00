use Rattle.std.specs.Prelude.{Result, Ok, Err}
use Rattle.std.proofs.lemmas.Result.{err_from_is_err_and}
use Rattle.refusal.specs.Results.{wrote}
use Rattle.plan.proofs.Wrapped.{kept, refused}
use Rattle.refusal.specs.Outcome.{written}
use Rattle.refusal.specs.declared.Verdict.TheVariants.{Plan as AboutPlan}
use Rattle.record.specs.Parts.{parts}
use Rattle.floor.specs.RoundTrip.{accepted_within}
use Rattle.floor.specs.declared.Floor.{Floor}
use Rattle.plan.specs.Plan.{PlanAnswer, read_plan}
use Rattle.plan.specs.Valid.{ValidPlan}
use Rattle.plan.specs.Complete.{complete}
use Rattle.plan.specs.Numbers.{plan_bytes, by_reading, judged_numbers}
use Rattle.plan.specs.Judged.{good, refusal_of}
use Prim.Native.Nat.{ℕ, ◌<◌}
use native.Mathlib.Omega.{arith}
use mathlib.Core.Path.{◌≡◌, refl, sym, ap, subst, ◌∙◌}
use mathlib.Core.List.{List}
use Rattle.refusal.specs.Outcome.{Gives}
use Rattle.refusal.specs.declared.Verdict.{Verdict}
use Rattle.floor.specs.Floor.{read_floor}
use Rattle.plan.specs.Numbers.{head_of, by_floor, write_plan}
use Rattle.plan.specs.Promises.{PlanWritten}
use Rattle.plan.specs.Refusing.{writing_given}
use Rattle.refusal.specs.Given.{Given, writing_plan}
use Rattle.plan.specs.Numbers.{Narrow}
use Rattle.plan.specs.RoundTrip.{reads_back}
use Rattle.plan.specs.declared.Head.{Head}
use Rattle.plan.proofs.writing.write.Goals as goal
use Rattle.refusal.specs.declared.Refusal.{Refusal}

by_answer : (a x : PlanAnswer) (bytes before : List ℕ) (v : Verdict) (after : List ℕ) → a ≡ x → Gives (by_reading x bytes before) v after
    → Gives (by_reading a bytes before) v after
by_answer a x bytes before v after e g = subst (λ (y : PlanAnswer). Gives (by_reading y bytes before) v after) (sym e) g

-- a valid plan for an accepted floor is written, if there is room
completes : (floor : List ℕ) (h : Head) (rows before : List ℕ) (v : Verdict) (after : List ℕ) → Gives (write_plan floor h rows before) v after
    → (f : Floor) → read_floor floor ≡ Ok f → ValidPlan (record { head = h; rows = parts h.steps rows }) f
    → Gives (written AboutPlan (plan_bytes h rows) before) v after
unfolding write_plan
completes floor h rows before v after g f e w =
    subst (λ (x : PlanAnswer). Gives (by_reading x (plan_bytes h rows) before) v after) (complete f h rows (accepted_within floor f e).carts w)
    (subst (λ (x : Result Floor Refusal). Gives (by_floor x h rows before) v after) e g)

promise : (floor : List ℕ) (h : Head) (rows before : List ℕ) (v : Verdict) (after : List ℕ) → Narrow h → (a : Result Floor Refusal) → read_floor floor ≡ a
    → Gives (by_floor a h rows before) v after → PlanWritten floor h rows before v after
unfolding write_plan
promise floor h rows before v after w a e g =
    let o : Gives (write_plan floor h rows before) v after = subst (λ (x : Result Floor Refusal). Gives (by_floor x h rows before) v after) (sym e) g in
    record {
      outcome = o;
      numbers = subst (Given writing_plan) (sym o.answer) (writing_given floor h rows before);
      complete = completes floor h rows before v after o;
      reads_back = λ k q. reads_back floor h rows before v after w k q o;
    }

-- three numbers of two bytes are a head that a file can hold
narrow : (steps stem drift : ℕ) → steps < 65536 → stem < 65536 → drift < 65536 → Narrow (head_of steps stem drift)
narrow steps stem drift a b c = record { steps = a; stem = b; drift = c }

-- the numbers judged, by the head that was passed
judged : (f : Floor) (h g : Head) (rows : List ℕ) (r x : Result (Unit {0}) Refusal) → r ≡ judged_numbers (read_plan f (plan_bytes h rows)) → h ≡ g → r ≡ x
    → judged_numbers (read_plan f (plan_bytes g rows)) ≡ x
judged f h g rows r x e q p = sym (ap (λ (y : Head). judged_numbers (read_plan f (plan_bytes y rows))) q) ∙ sym e ∙ p

pub returns-in_err-f : goal.returns-in_err-f
returns-in_err-f c =
    let e = refused _ c.read.result _ c.map_err.ensures.cases _ c.in_err-f.was in
    let p = err_from_is_err_and c.from_residual.result c.from_residual.ensures.1 in
    promise _ _ _ _ _ _ (narrow _ _ _ (omega arith) (omega arith) (omega arith)) _ (sym c.read.ensures.answer ∙ e.1)
    (record { answer = ap wrote (p.1 ∙ ap Err (p.2 ∙ e.2)); out = refl })

pub put_numbers-requires : goal.put_numbers-requires
put_numbers-requires c =
    let a = c.args in
    let e = kept _ c.judge_numbers.result _ c.map_err-2.ensures.cases _ c.in_ok-map_err.was in
    let g = good c.in_ok-f.f (head_of a.steps a.stem a.drift) a.rows.now (narrow _ _ _ (omega arith) (omega arith) (omega arith))
    (judged c.in_ok-f.f _ _ a.rows.now _ _ c.judge_numbers.ensures c.head_of.ensures e) in
    (g.some, g.short)

pub returns-in_err-map_err : goal.returns-in_err-map_err
returns-in_err-map_err c =
    let a = c.args in
    let f = kept _ c.read.result _ c.map_err.ensures.cases _ c.in_ok-f.was in
    let e = refused _ c.judge_numbers.result _ c.map_err-2.ensures.cases _ c.in_err-map_err.was in
    let p = err_from_is_err_and c.from_residual-in_err-map_err.result c.from_residual-in_err-map_err.ensures.1 in
    promise _ _ _ _ _ _ (narrow _ _ _ (omega arith) (omega arith) (omega arith)) _ (sym c.read.ensures.answer ∙ f)
    (by_answer _ _ (plan_bytes (head_of a.steps a.stem a.drift) a.rows.now) a.out.now _ _
    (refusal_of _ _ (judged c.in_ok-f.f _ _ a.rows.now _ _ c.judge_numbers.ensures c.head_of.ensures e.1))
    (record { answer = ap wrote (p.1 ∙ ap Err (p.2 ∙ e.2)); out = refl }))

pub returns : goal.returns
returns c =
    let a = c.args in
    let f = kept _ c.read.result _ c.map_err.ensures.cases _ c.in_ok-f.was in
    let e = kept _ c.judge_numbers.result _ c.map_err-2.ensures.cases _ c.in_ok-map_err.was in
    let g = good c.in_ok-f.f (head_of a.steps a.stem a.drift) a.rows.now (narrow _ _ _ (omega arith) (omega arith) (omega arith))
    (judged c.in_ok-f.f _ _ a.rows.now _ _ c.judge_numbers.ensures c.head_of.ensures e) in
    promise _ _ _ _ _ _ (narrow _ _ _ (omega arith) (omega arith) (omega arith)) _ (sym c.read.ensures.answer ∙ f)
    (by_answer _ _ (plan_bytes (head_of a.steps a.stem a.drift) a.rows.now) a.out.now _ _ g.reads c.put_numbers.ensures)
