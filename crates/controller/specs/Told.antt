-- What the operations promise of a verdict, told by its four numbers.
use Rattle.std.specs.Prelude.{ℕ, ◌≡◌, refl, Bool, true, false, cond, List, [], ◌∷◌, ◌++◌, ltb, length, drop, Result, Ok, Err}
use Rattle.std.proofs.Common.{arith, sym, ap, ap₂, subst, ◌∙◌, inl, inr}
use Rattle.std.proofs.Math.Seq.{drop-append_seam}
use Rattle.endian.specs.Little.{Bytes}
use Rattle.refusal.specs.declared.Refused.{Refused}
use Rattle.refusal.specs.Accepting.{accepted_gives}
use Rattle.refusal.specs.Results.{told, checked}
use Rattle.refusal.specs.Codes.{refused, code_of}
use Rattle.refusal.specs.Given.{OneOf, Refusals, Given, reading_floor, reading_plan, writing_floor, writing_plan, checking_moves, reading_sheet, clause_numbers, checking_plan, moving_on, replacing_row}
use Rattle.refusal.specs.Numbered.{among, not_among, apart, not_both, numbered, zero_accepts, zero_writes, answered}
use Rattle.refusal.specs.Outcome.{Outcome, unchanged, written, Gives}
use Rattle.refusal.specs.Held.{about_floor, about_plan, written_if}
use Rattle.refusal.specs.Stages.{is_accepted}
use Rattle.refusal.specs.declared.Code.{Code}
use Rattle.refusal.specs.declared.Refusal.{Refusal}
use Rattle.refusal.specs.declared.Verdict.{Verdict}
use Rattle.refusal.specs.declared.Verdict.TheVariants.{Accepted, Written, Floor as AboutFloor, Plan as AboutPlan, Rules as AboutRules}
use Rattle.floor.specs.Floor.{read_floor, floor_verdict}
use Rattle.floor.specs.Numbers.{FloorNumbers, floor_bytes, by_reading, write_floor}
use Rattle.floor.specs.Promises.{FloorRead, FloorWritten}
use Rattle.floor.specs.declared.Floor.{Floor}
use Rattle.plan.specs.Plan.{PlanNumbers, PlanAnswer, read_plan, accepted_read, read_both}
use Rattle.plan.specs.Plan as plan
use Rattle.plan.specs.Numbers.{plan_bytes, plan_file, by_floor, write_plan}
use Rattle.plan.specs.Numbers as numbers
use Rattle.plan.specs.After.{after_reading, ReadAs}
use Rattle.plan.specs.Read.{ReadingCases, floor_refused, plan_refused, both_read, reading_cases, read_on_lem}
use Rattle.plan.specs.Promises.{AcceptedPlan, PlanReads, PlanWritten}
use Rattle.plan.specs.declared.Head.{Head}
use Rattle.plan.specs.declared.PlanRead.{PlanRead}
use Rattle.grammar.specs.Grammar.{Clause}
use Rattle.grammar.specs.Reader as reader
use Rattle.grammar.specs.Reader.{Read, read_sheet}
use Rattle.sheet.specs.Rules.{read_verdict, rules_verdict}
use Rattle.sheet.specs.Promises.{RulesRead}
use Rattle.moves.specs.Carts.{checked_moves}
use Rattle.moves.specs.Promises.{FirstRefused, MovesChecked}
use Rattle.moves.specs.Demands.{lowest_left}
use Rattle.edit.specs.Moved.{moved, move_on}
use Rattle.edit.specs.Replaced.{replace_row}
use Rattle.edit.specs.Promises.{MovedOn, MovesAddUp, RowReplaced}
use Rattle.plancheck.specs.Check.{checked as checked_plan}
use Rattle.plancheck.proofs.Claims.{means_as}
use Rattle.plancheck.specs.Promises.{PlanChecked}
use Rattle.plancheck.proofs.Demands.{check_11}
use Rattle.plancheck.proofs.ShownClause.{shown_clause}
use Rattle.suffix.proofs.PlanSuffix.{true_of_result}
use Rattle.controller.specs.Edge.{Coded, CodedOut, refusal_in, FloorReadCode, PlanReadCode, FloorWrittenCode, PlanWrittenCode, RulesReadCode, MovesCheckedCode, PlanCheckedCode, MovedOnCode, MovesAddUpCode, RowReplacedCode}

abbrev num : Verdict → ℕ
num v = (code_of v).number

-- what is not done does not accept
not_accepted : (v : Verdict) → (num v ≡ 0 → ⊥) → is_accepted v ≡ false
not_accepted Accepted n = absurd (n refl)
not_accepted (Written k) n = refl
not_accepted (AboutFloor r) n = refl
not_accepted (AboutPlan r) n = refl
not_accepted (AboutRules r) n = refl

coded_as : (t : Refusals) → numbered t ≡ true → (v u : Verdict) → v ≡ u → Given t v → Coded t u (code_of v)
coded_as t ok v u e g = record { code = ap code_of e; answered = answered t ok v g }

---- Buffers.
-- an outcome that leaves the buffer as it was, or puts a file into it as far as there is room
data Writes (before file : List ℕ) : Outcome → Type 0 where
  stays : (v : Verdict) → ((k : ℕ) → v ≡ Written k → ⊥) → Writes before file (unchanged v before)
  puts : (about : Refusal → Verdict) → ((r : Refusal) (k : ℕ) → about r ≡ Written k → ⊥) → Writes before file (written about file before)

module _ (before file : List ℕ) where
  -- the outcome of putting the file, by whether the buffer is too short
  abbrev put_by : (Refusal → Verdict) → Bool → Outcome
  put_by about b =
      cond b (unchanged (about (refused 18 (length file) 0)) before) (record { answer = Written (length file); out = file ++ drop (length file) before })

  kept_out : {o : Outcome} → Writes before file o → (num o.answer ≡ 0 → ⊥) → o.out ≡ before
  kept_out (stays v f) n = refl
  kept_out (puts about f) n = go (ltb (length before) (length file)) n
    where
      go : (b : Bool) → (num (put_by about b).answer ≡ 0 → ⊥) → (put_by about b).out ≡ before
      go true n = refl
      go false n = absurd (n refl)

  put_out : {o : Outcome} → Writes before file o → (k : ℕ) → o.answer ≡ Written k → (k ≡ length file) × (o.out ≡ file ++ drop k before)
  put_out (stays v f) k e = absurd (f k e)
  put_out (puts about f) k e = go (ltb (length before) (length file)) e
    where
      go : (b : Bool) → (put_by about b).answer ≡ Written k → (k ≡ length file) × ((put_by about b).out ≡ file ++ drop k before)
      go true e = absurd (f (refused 18 (length file) 0) k e)
      go false e = let n : k ≡ length file = cc in (n, ap (λ (i : ℕ). file ++ drop i before) (sym n))

module _ (t : Refusals) (ok : numbered t ≡ true) (o : Outcome) (before after : List ℕ) (v : Verdict) (g : Gives o v after) (w : Given t v) where
  coded_out : ((num o.answer ≡ 0 → ⊥) → o.out ≡ before) → CodedOut t o before (code_of v) after
  coded_out kept = record {
    coded = coded_as t ok v o.answer g.answer w;
    out = g.out;
    kept = λ n. g.out ∙ kept (λ z. n (ap num g.answer ∙ z));
  }

---- Reading.
floor_read_as : (s : List ℕ) (r : Result Floor Refusal) → FloorRead s r → Given reading_floor (floor_verdict r) → FloorReadCode s (code_of (floor_verdict r))
floor_read_as s r w g = record {
  coded = coded_as reading_floor refl (floor_verdict r) (floor_verdict (read_floor s)) (ap floor_verdict w.answer) g;
  accepted = (
    λ z. let f = by r (zero_accepts reading_floor refl refl (floor_verdict r) g z) in (f.0, sym w.answer ∙ f.1),
    λ f. ap (λ (a : Result Floor Refusal). num (floor_verdict a)) (w.answer ∙ f.1),
  );
  read = subst (FloorRead s) w.answer w;
}
  where
    by : (r : Result Floor Refusal) → floor_verdict r ≡ Accepted → (f : Floor) × (r ≡ Ok f)
    by (Ok f) e = (f, refl)
    by (Err x) e = let z : ◌≡◌ {A = ℕ} 0 1 = cc in absurd (omega arith)

pub floor_read : (s : List ℕ) (r : Result Floor Refusal) → FloorRead s r → Given reading_floor (floor_verdict r) → (v : Verdict) → v ≡ floor_verdict r
    → (c : Code) → c ≡ code_of v → FloorReadCode s c
floor_read s r w g v e c q = subst (FloorReadCode s) (sym (q ∙ ap code_of e)) (floor_read_as s r w g)

-- what reading gives of a floor and a plan that are read
pub read_both_lem : (floor s : List ℕ) (f : Floor) (n : PlanNumbers) → ReadAs floor s f n → read_both floor s ≡ accepted_read f n
unfolding read_both after_reading
read_both_lem floor s f n w = read_on_lem Err accepted_read floor s f n w

read_accepts : (floor s : List ℕ) (r : PlanRead) → AcceptedPlan floor s r → checked (read_both floor s) ≡ Accepted
read_accepts floor s r a = ap checked (read_both_lem floor s r.floor a.numbers (record { floor_read = a.floor_read; plan_read_lem = a.plan_read_lem }))

pub plan_read_lem : (floor s : List ℕ) (r : Result PlanRead Refused) → PlanReads floor s r → Given reading_plan (checked r) → (c : Code)
    → c ≡ code_of (checked r) → PlanReadCode floor s c
plan_read_lem floor s r w g c q =
    let e : checked r ≡ checked (read_both floor s) = ap checked w.answer in
    let whole : PlanReads floor s (read_both floor s) = subst (PlanReads floor s) w.answer w in
    subst (PlanReadCode floor s) (sym q) (record {
      coded = coded_as reading_plan refl (checked r) (checked (read_both floor s)) e g;
      accepted = (
        λ z. let x = accepted_gives (read_both floor s) (sym e ∙ zero_accepts reading_plan refl refl (checked r) g z) in (x.0, whole.accepted x.0 x.1),
        λ a. ap num (e ∙ read_accepts floor s a.0 a.1),
      );
      read = whole;
    })

---- Writing.
floor_writes : (n : FloorNumbers) (before : List ℕ) → Writes before (floor_bytes n) (write_floor n before)
unfolding write_floor
floor_writes n before = go (read_floor (floor_bytes n))
  where
    go : (a : Result Floor Refusal) → Writes before (floor_bytes n) (by_reading a (floor_bytes n) before)
    go (Err r) = stays (AboutFloor r) (about_floor r)
    go (Ok f) = puts AboutFloor about_floor

pub floor_written : (n : FloorNumbers) (before : List ℕ) (v : Verdict) (after : List ℕ) → FloorWritten n before v after → Given writing_floor v → (c : Code)
    → c ≡ code_of v → FloorWrittenCode n before c after
floor_written n before v after w g c q =
    let o = write_floor n before in
    let done : num v ≡ 0 → v ≡ Written (code_of v).first = zero_writes writing_floor refl refl v g in
    subst (λ (x : Code). FloorWrittenCode n before x after) (sym q) (record {
      coded = coded_out writing_floor refl o before after v w.outcome g (kept_out before (floor_bytes n) (floor_writes n before));
      complete = λ f valid room. ap num (written_if AboutFloor (floor_bytes n) before v after (w.complete f valid) room);
      written = λ z. let p = put_out before (floor_bytes n) (floor_writes n before) (code_of v).first (sym w.outcome.answer ∙ done z) in
          (p.0, w.outcome.out ∙ p.1);
      reads_back = λ z. w.reads_back (code_of v).first (done z);
    })

plan_writes : (floor : List ℕ) (h : Head) (rows before : List ℕ) → Writes before (plan_bytes h rows) (write_plan floor h rows before)
unfolding write_plan
plan_writes floor h rows before = on_floor_lem (read_floor floor)
  where
    on_plan : (a : PlanAnswer) → Writes before (plan_bytes h rows) (numbers.by_reading a (plan_bytes h rows) before)
    on_plan (plan.accepted n) = puts AboutPlan about_plan
    on_plan (plan.rejected r) = stays (AboutPlan r) (about_plan r)

    on_floor_lem : (a : Result Floor Refusal) → Writes before (plan_bytes h rows) (by_floor a h rows before)
    on_floor_lem (Ok f) = on_plan (read_plan f (plan_bytes h rows))
    on_floor_lem (Err r) = stays (AboutFloor r) (about_floor r)

pub plan_written : (floor : List ℕ) (h : Head) (rows before : List ℕ) (v : Verdict) (after : List ℕ) → PlanWritten floor h rows before v after
    → Given writing_plan v → (c : Code) → c ≡ code_of v → PlanWrittenCode floor h rows before c after
plan_written floor h rows before v after w g c q =
    let o = write_plan floor h rows before in
    let done : num v ≡ 0 → v ≡ Written (code_of v).first = zero_writes writing_plan refl refl v g in
    subst (λ (x : Code). PlanWrittenCode floor h rows before x after) (sym q) (record {
      coded = coded_out writing_plan refl o before after v w.outcome g (kept_out before (plan_bytes h rows) (plan_writes floor h rows before));
      complete = λ f e valid room. ap num (written_if AboutPlan (plan_bytes h rows) before v after (w.complete f e valid) room);
      written = λ z. let p = put_out before (plan_bytes h rows) (plan_writes floor h rows before) (code_of v).first (sym w.outcome.answer ∙ done z) in
          (p.0, w.outcome.out ∙ p.1);
      reads_back = λ z. w.reads_back (code_of v).first (done z);
    })

---- The sheet.
pub rules_read_lem : (s : List ℕ) (v : Verdict) → RulesRead s v → Given reading_sheet v → (c : Code) → c ≡ code_of v → RulesReadCode s c
unfolding rules_verdict
rules_read_lem s v w g c q = subst (RulesReadCode s) (sym q) (record {
  coded = coded_as reading_sheet refl v (rules_verdict s) w.answer g;
  accepted = (
    λ z. let r = yes (read_sheet s) (sym w.answer ∙ zero_accepts reading_sheet refl refl v g z) in (r.0, w.meaning.sound r.0 r.1),
    λ a. ap num w.answer ∙ ap (λ (r : Read). num (read_verdict r))
        (w.meaning.complete a.0 a.1.sheet a.1.fits a.1.few a.1.some a.1.short),
  );
  refused_at = λ n. no (read_sheet s) w.answer n;
  meaning = w.meaning;
})
  where
    yes : (r : Read) → read_verdict r ≡ Accepted → (cs : List Clause) × (r ≡ reader.accepted cs)
    yes (reader.accepted cs) e = (cs, refl)
    yes (reader.refused x k) e = let z : ◌≡◌ {A = ℕ} 0 1 = cc in absurd (omega arith)

    no : (r : Read) → v ≡ read_verdict r → (num v ≡ 0 → ⊥) → (r ≡ reader.refused (num v) (code_of v).first) × ((code_of v).second ≡ 0)
    no (reader.accepted cs) e n = absurd (n (ap num e))
    no (reader.refused x k) e n = (
      ap₂ reader.refused (sym (ap num e)) (sym (ap (λ (u : Verdict). (code_of u).first) e)),
      ap (λ (u : Verdict). (code_of u).second) e,
    )

---- The file that a number tells.
-- a number that no refusal of the floor has: the plan's if none of the sheet has it, the sheet's if none of the plan has it
of_number : (t : Refusals) (m : ℕ) → among (0 ∷ t.floor) m ≡ false → (v : Verdict) → Given t v → num v ≡ m
    → (among t.rules m ≡ false → v ≡ AboutPlan (refused m (code_of v).first (code_of v).second))
    × (among t.plan m ≡ false → v ≡ AboutRules (refused m (code_of v).first (code_of v).second))
of_number t m f Accepted g e = absurd (not_among (0 ∷ t.floor) m 0 f (inl refl) e)
of_number t m f (Written k) g e = absurd (not_among (0 ∷ t.floor) m 0 f (inl refl) e)
of_number t m f (AboutFloor r) g e = absurd (not_among (0 ∷ t.floor) m r.number f (inr g) e)
of_number t m f (AboutPlan r) g e =
    (λ u. ap (λ (n : ℕ). AboutPlan (refused n r.first r.second)) e, λ p. absurd (not_among t.plan m r.number p g e))
of_number t m f (AboutRules r) g e =
    (λ u. absurd (not_among t.rules m r.number u g e), λ p. ap (λ (n : ℕ). AboutRules (refused n r.first r.second)) e)

-- one of several numbers that no refusal of the floor or the plan has
of_numbers : (t : Refusals) (ms : List ℕ) → apart (0 ∷ t.floor) ms ≡ true → apart t.plan ms ≡ true → (v : Verdict) → Given t v → OneOf ms (num v)
    → v ≡ AboutRules (refusal_in (code_of v))
of_numbers t ms f p Accepted g o = absurd (not_both ms (0 ∷ t.floor) 0 f o (inl refl))
of_numbers t ms f p (Written k) g o = absurd (not_both ms (0 ∷ t.floor) 0 f o (inl refl))
of_numbers t ms f p (AboutFloor r) g o = absurd (not_both ms (0 ∷ t.floor) r.number f o (inr g))
of_numbers t ms f p (AboutPlan r) g o = absurd (not_both ms t.plan r.number p o g)
of_numbers t ms f p (AboutRules r) g o = refl

---- Moves, moving on, replacing.
pub moves_checked : (floor s : List ℕ) (v : Verdict) → MovesChecked floor s v → Given checking_moves v → (c : Code) → c ≡ code_of v
    → MovesCheckedCode floor s c
moves_checked floor s v w g c q = subst (MovesCheckedCode floor s) (sym q) (record {
  coded = coded_as checking_moves refl v (checked_moves floor s) w.answer g;
  accepted = (λ z. w.sound (zero_accepts checking_moves refl refl v g z), λ m. ap num (w.complete m));
  first = λ f p files n. subst (FirstRefused floor f p) w.answer (w.first f p files (not_accepted v n));
  shut_11 = λ f p files e. lowest_left floor s v w f p files (code_of v).first (code_of v).second ((of_number checking_moves 11 refl v g e).0 refl);
})

move_writes : (floor s : List ℕ) (k : ℕ) (before : List ℕ) → (file : List ℕ) × Writes before file (move_on floor s k before)
unfolding move_on
move_writes floor s k before = go (reading_cases (λ e. unchanged (told e) before) (λ f p. written AboutPlan (plan_file (moved k p)) before) floor s)
  where
    go : ReadingCases (λ e. unchanged (told e) before) (λ f p. written AboutPlan (plan_file (moved k p)) before) floor s
        → (file : List ℕ) × Writes before file
        (after_reading (λ e. unchanged (told e) before) (λ f p. written AboutPlan (plan_file (moved k p)) before) floor s)
    go (floor_refused r e) = ([], subst (Writes before []) (sym e) (stays (AboutFloor r) (about_floor r)))
    go (plan_refused r e) = ([], subst (Writes before []) (sym e) (stays (AboutPlan r) (about_plan r)))
    go (both_read f p w e) = (plan_file (moved k p), subst (Writes before (plan_file (moved k p))) (sym e) (puts AboutPlan about_plan))

pub moved_on : (floor s : List ℕ) (k : ℕ) (before : List ℕ) (v : Verdict) (after : List ℕ) → MovedOn floor s k before v after → Given moving_on v
    → (c : Code) → c ≡ code_of v → MovedOnCode floor s k before c after
moved_on floor s k before v after w g c q =
    let o = move_on floor s k before in
    let m = move_writes floor s k before in
    let done : num v ≡ 0 → v ≡ Written (code_of v).first = zero_writes moving_on refl refl v g in
    subst (λ (x : Code). MovedOnCode floor s k before x after) (sym q) (record {
      coded = coded_out moving_on refl o before after v w.outcome g (kept_out before m.0 m.1);
      later = λ z. w.later (code_of v).first (done z);
      stays = λ z. let p = put_out before m.0 m.1 (code_of v).first (sym w.outcome.answer ∙ done z) in
          ap₂ drop p.0 (w.outcome.out ∙ p.1) ∙ drop-append_seam m.0 (drop (code_of v).first before);
      room = λ f p files fits. let e = w.room f p files fits in (ap num e, ap (λ (u : Verdict). (code_of u).first) e);
    })

-- and of a second move and of clauses
pub moves_added : (floor s : List ℕ) → Bytes floor → (k : ℕ) (before : List ℕ) (v : Verdict) (after : List ℕ) → MovedOn floor s k before v after
    → MovesAddUp floor s k before v after → Given moving_on v → (c : Code) → c ≡ code_of v → MovesAddUpCode floor s k before c after
moves_added floor s b k before v after w a g c q =
    let done : num v ≡ 0 → v ≡ Written (code_of v).first = zero_writes moving_on refl refl v g in
    subst (λ (x : Code). MovesAddUpCode floor s k before x after) (sym q) (record {
      by_0 = λ z f p files. coded_out moving_on refl (written AboutPlan s before) before after v (a.by_0 z f p files) g
          (kept_out before s (puts AboutPlan about_plan));
      adds_up = λ z. a.adds_up (code_of v).first (done z);
      truth = λ z. true_of_result floor s b k (code_of v).first after (w.later (code_of v).first (done z));
    })

pub row_replaced : (floor before : List ℕ) (cart : ℕ) (row : List ℕ) (v : Verdict) (after : List ℕ) → RowReplaced floor before cart row v after
    → Given replacing_row v → (c : Code) → c ≡ code_of v → RowReplacedCode floor before cart row c after
row_replaced floor before cart row v after w g c q = subst (λ (x : Code). RowReplacedCode floor before cart row x after) (sym q) (record {
  coded = record {
    coded = coded_as replacing_row refl v (replace_row floor before cart row).answer w.outcome.answer g;
    out = w.outcome.out;
    kept = λ n. w.kept (not_accepted v n);
  };
  replaces = λ z. w.replaces (zero_accepts replacing_row refl refl v g z);
  complete = λ f p files u l fits new. ap num (w.complete f p files u l fits new);
  shut_11 = λ f p files e. w.shut_11 f p files (code_of v).first (code_of v).second ((of_number replacing_row 11 refl v g e).0 refl);
})

---- The check.
-- the file tells the case
of_floor : (v : Verdict) → (code_of v).about ≡ 1 → v ≡ AboutFloor (refusal_in (code_of v))
of_floor Accepted e = absurd (omega arith)
of_floor (Written k) e = absurd (omega arith)
of_floor (AboutFloor r) e = refl
of_floor (AboutPlan r) e = absurd (omega arith)
of_floor (AboutRules r) e = absurd (omega arith)

of_plan : (v : Verdict) → (code_of v).about ≡ 2 → v ≡ AboutPlan (refusal_in (code_of v))
of_plan Accepted e = absurd (omega arith)
of_plan (Written k) e = absurd (omega arith)
of_plan (AboutFloor r) e = absurd (omega arith)
of_plan (AboutPlan r) e = refl
of_plan (AboutRules r) e = absurd (omega arith)

of_rules : (v : Verdict) → (code_of v).about ≡ 3 → v ≡ AboutRules (refusal_in (code_of v))
of_rules Accepted e = absurd (omega arith)
of_rules (Written k) e = absurd (omega arith)
of_rules (AboutFloor r) e = absurd (omega arith)
of_rules (AboutPlan r) e = absurd (omega arith)
of_rules (AboutRules r) e = refl

pub plan_checked : (floor s sheet : List ℕ) (v : Verdict) → PlanChecked floor s sheet v → Given checking_plan v → (c : Code) → c ≡ code_of v
    → PlanCheckedCode floor s sheet c
plan_checked floor s sheet v w g c q = subst (PlanCheckedCode floor s sheet) (sym q) (record {
  coded = coded_as checking_plan refl v (checked_plan floor s sheet) w.verdict g;
  means = means_as floor s sheet (λ e. ap num e, zero_accepts checking_plan refl refl v g) w.means;
  shut_11 = λ f p files e. check_11 floor s sheet v w f p files (code_of v).first (code_of v).second ((of_number checking_plan 11 refl v g e).0 refl);
  conflict_20 = λ e. (w.conflict_20 (code_of v).first (code_of v).second).0 ((of_number checking_plan 20 refl v g e).0 refl);
  told_20 = λ a k x. let e = (w.conflict_20 a k).1 x in
      (ap (λ (u : Verdict). (code_of u).about) e, ap num e, ap (λ (u : Verdict). (code_of u).first) e, ap (λ (u : Verdict). (code_of u).second) e);
  exists_20 = λ m. (
    λ e. (w.exists_20 m).0 ((code_of v).first, (code_of v).second, (of_number checking_plan 20 refl v g e).0 refl),
    λ x. ap num ((w.exists_20 m).1 x).2,
  );
  lacks_21 = λ e. (w.lacks_21 (code_of v).first (code_of v).second).0 ((of_number checking_plan 21 refl v g e).1 refl);
  told_21 = λ k x y. let e = (w.lacks_21 k x).1 y in
      (ap (λ (u : Verdict). (code_of u).about) e, ap num e, ap (λ (u : Verdict). (code_of u).first) e, ap (λ (u : Verdict). (code_of u).second) e);
  next_16 = λ e. w.next_16 (code_of v).first (code_of v).second ((of_number checking_plan 16 refl v g e).1 refl);
  fails_17 = λ e. w.fails_17 (code_of v).first (code_of v).second ((of_number checking_plan 17 refl v g e).1 refl);
  shown = λ o cs a p picked. shown_clause floor s sheet v w cs a (refusal_in (code_of v)) (of_numbers checking_plan clause_numbers refl refl v g o) o p picked;
  floor_refused = λ e. w.floor_refused (refusal_in (code_of v)) (of_floor v e);
  plan_refused = λ e n20. w.plan_refused (refusal_in (code_of v)) (of_plan v e) n20;
  sheet_refused = λ e. w.sheet_refused (refusal_in (code_of v)) (of_rules v e);
})
