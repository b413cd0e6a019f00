-- What moving on writes reads as a plan, which goes on where the first one is after s moves.
use Rattle.std.specs.Prelude.{ℕ, zero, suc, ◌+◌, ◌*◌, ◌≤◌, ◌<◌, ◌≡◌, refl, List, [], ◌∷◌, map, length, get_or}
use Rattle.std.proofs.Common.{arith, sym, ap, subst, ◌∙◌}
use Rattle.std.proofs.lemmas.List.{length-map}
use Rattle.endian.specs.Little.{Bytes}
use Rattle.refusal.specs.Results.{told}
use Rattle.refusal.specs.Given.{Given, moving_on}
use Rattle.refusal.specs.Outcome.{Outcome, Gives, unchanged, written}
use Rattle.refusal.specs.Held.{about_floor, about_plan, written_front, written-length, written_if}
use Rattle.refusal.specs.declared.Refused.{Refused}
use Rattle.refusal.specs.declared.Verdict.{Verdict}
use Rattle.refusal.specs.declared.Verdict.TheVariants.{Written, Plan as AboutPlan}
use Rattle.floor.specs.Located.{accepts}
use Rattle.floor.specs.declared.Floor.{Floor}
use Rattle.plan.specs.Plan.{PlanNumbers, accepted, read_plan}
use Rattle.plan.specs.Numbers.{head_of, plan_file}
use Rattle.plan.specs.After.{ReadAs}
use Rattle.plan.specs.Valid.{HeadInRange, ValidPlan}
use Rattle.plan.specs.Passed.{row_sizes}
use Rattle.plan.specs.RoundTrip.{valid}
use Rattle.plan.specs.Complete.{file_reads, file_length_lem}
use Rattle.plan.specs.Read.{ReadingCases, floor_refused, plan_refused, both_read, reading_cases, read_on_lem}
use Rattle.plan.specs.declared.Head.{Head}
use Rattle.row.specs.Lasso.{step_of}
use Rattle.row.specs.Round.{pick, step_low, step_below}
use Rattle.edit.specs.Moved.{moved_row, moved_head, moved, move_on}
use Rattle.edit.specs.Promises.{cart_place_at, file_length, Later, MovedOn}
use Rattle.edit.proofs.Refusing.{moving_given}
use Rattle.edit.proofs.Later.{head_early, head_late, drift_stays, row-length, place_later}

pub row_of : (f : List ℕ → List ℕ) (rows : List (List ℕ)) (c : ℕ) → c < length rows → get_or (map f rows) c [] ≡ f (get_or rows c [])
row_of f [] c l = absurd (omega arith)
row_of f (row ∷ rows) zero l = refl
row_of f (row ∷ rows) (suc c) l = row_of f rows c (omega arith)

range_of : (h l d : ℕ) → l < h → h ≤ 64 → d ≤ 16 → HeadInRange (head_of h l d)
range_of h l d a b c = record { some = omega arith; steps = b; stem = a; drift = c }

pub head_moved : (s : ℕ) (h : Head) → HeadInRange h → HeadInRange (moved_head s h)
head_moved s h r =
    pick h.stem s (HeadInRange (moved_head s h))
    (λ p. subst HeadInRange (sym (head_late s h p)) (range_of _ _ _ (omega (arith, r.stem)) (omega (arith, r.steps)) r.drift))
    (λ p. subst HeadInRange (sym (head_early s h p)) (range_of _ _ _ (omega (arith, r.stem)) (omega (arith, r.steps)) r.drift))

module _ (f : Floor) (p : PlanNumbers) (v : ValidPlan p f) (s : ℕ) where
  abbrev h : Head
  h = p.head

  abbrev row : ℕ → List ℕ
  row c = get_or p.rows c []

  row_is : (c : ℕ) → c < f.carts → get_or (moved s p).rows c [] ≡ moved_row h.steps h.stem s (row c)
  row_is c l = row_of (moved_row h.steps h.stem s) p.rows c (omega (arith, v.carts))

  pub place_moved : (c w : ℕ) → c < f.carts → cart_place_at (moved s p) c w ≡ cart_place_at p c (s + w)
  place_moved c w l =
      ap (λ (x : List ℕ). get_or x (step_of (moved_head s h).steps (moved_head s h).stem w) 0) (row_is c l)
      ∙ place_later s h v.head.stem (row c) (v.steps c l) w

  pub valid_moved : ValidPlan (moved s p) f
  valid_moved = record {
    head = head_moved s h v.head;
    carts = length-map p.rows (moved_row h.steps h.stem s) ∙ v.carts;
    steps = λ c l. ap length (row_is c l) ∙ row-length s h v.head.stem (row c) (v.steps c l);
    places = λ c j l m.
        let e : step_of (moved_head s h).steps (moved_head s h).stem j ≡ j = step_low (moved_head s h).steps (moved_head s h).stem j m in
        let q : get_or (get_or (moved s p).rows c []) j 0 ≡ cart_place_at p c (s + j) =
        ap (λ (i : ℕ). get_or (get_or (moved s p).rows c []) i 0) (sym e) ∙ place_moved c j l in
        subst (λ (x : ℕ). x < f.places) (sym q)
        (v.places c (step_of h.steps h.stem (s + j)) l (step_below h.steps h.stem v.head.stem (s + j)));
  }

  pub reads_moved : f.carts ≤ 32 → read_plan f (plan_file (moved s p)) ≡ accepted (moved s p)
  reads_moved few = file_reads f (moved s p) few valid_moved

  pub length_moved : length (plan_file (moved s p)) ≡ file_length f (moved s p)
  length_moved =
      let v = valid_moved in
      let k = (moved s p).head.steps in
      file_length_lem (moved s p) v.head.some (row_sizes (moved s p) f v) ∙ ap (λ (n : ℕ). 10 + n * (4 + k)) v.carts

module _ (floor plan : List ℕ) (b : Bytes floor) (s : ℕ) (before : List ℕ) (v : Verdict) (after : List ℕ) (g : Gives (move_on floor plan s before) v after) where
  refuse : Refused → Outcome
  refuse e = unchanged (told e) before

  step : Floor → PlanNumbers → Outcome
  step f p = written AboutPlan (plan_file (moved s p)) before

  -- with floor and plan read: the moved plan is written if there is room
  writes : (f : Floor) (n : PlanNumbers) → ReadAs floor plan f n → Gives (written AboutPlan (plan_file (moved s n)) before) v after
  unfolding move_on refuse step
  writes f n w = subst (λ (o : Outcome). Gives o v after) (read_on_lem refuse step floor plan f n w) g

  later : (k : ℕ) → v ≡ Written k → Later floor plan s k after
  unfolding move_on refuse step
  later k e = go (reading_cases refuse step floor plan)
    where
      go : ReadingCases refuse step floor plan → Later floor plan s k after
      go (floor_refused x q) = absurd (about_floor x k (sym (g.answer ∙ ap (λ (o : Outcome). o.answer) q) ∙ e))
      go (plan_refused x q) = absurd (about_plan x k (sym (g.answer ∙ ap (λ (o : Outcome). o.answer) q) ∙ e))
      go (both_read f n w r) =
          let d = valid f plan n w.plan_read_lem in
          let few : f.carts ≤ 32 = (accepts floor f b w.floor_read).valid.few_carts in
          let front = written_front AboutPlan about_plan (plan_file (moved s n)) before v after k (writes f n w) e in
          let size = written-length AboutPlan about_plan (plan_file (moved s n)) before v after k (writes f n w) e in
          record {
            floor_is = f;
            numbers = n;
            read = w;
            reads = ap (read_plan f) front ∙ reads_moved f n d s few;
            size = size ∙ length_moved f n d s;
            drift = drift_stays s n.head;
            place = λ c i l. place_moved f n d s c i l;
          }

  room : (f : Floor) (p : PlanNumbers) → ReadAs floor plan f p → file_length f (moved s p) ≤ length before → v ≡ Written (file_length f (moved s p))
  room f p w enough =
      let e = length_moved f p (valid f plan p w.plan_read_lem) s in
      written_if AboutPlan (plan_file (moved s p)) before v after (writes f p w) (omega arith) ∙ ap Written e

  pub promise : MovedOn floor plan s before v after
  promise = record { outcome = g; numbers = subst (Given moving_on) (sym g.answer) (moving_given floor plan s before); later = later; room = room }
