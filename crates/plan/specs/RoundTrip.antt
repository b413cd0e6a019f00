-- What is written reads back as the same numbers, and what was read writes back as the same bytes.
use Rattle.std.specs.Prelude.{ℕ, zero, suc, ◌+◌, ◌*◌, ◌≤◌, ◌<◌, ◌≡◌, Bool, true, false, cond, ltb, length, take, drop, get_or, Result, Ok, Err}
use Rattle.std.proofs.Common.{arith, sym, ap, ap₂, subst, ◌∙◌, length-append, length-drop, take-append-drop, take_all, length-take-le, drop-drop, ltb-false}
use Rattle.std.proofs.Math.Path.{refl}
use mathlib.Core.List.{List, [], ◌∷◌, ◌++◌, map, flatten, append-nil, append_assoc}
use Rattle.endian.specs.Little.{bytes, value, Bytes}
use Rattle.endian.specs.RoundTrip.{value-bytes, bytes-value, bytes_take, bytes_drop}
use Rattle.refusal.specs.Codes.{at_offset}
use Rattle.record.specs.Record.{Record, Split, encoded, layout, records_in}
use Rattle.record.specs.Parts.{parts, of_kind, laid}
use Rattle.record.specs.All.{All, AllOf, each}
use Rattle.record.specs.Laid.{parts-flatten, flatten-parts, short_encodable}
use Rattle.record.specs.RoundTrip.{AllEncodable, length-encoded, records-layout, layout-records, AllBytes, records_bytes}
use Rattle.refusal.specs.Outcome.{Gives, written}
use Rattle.refusal.specs.Held.{about_floor, about_plan, written_front}
use Rattle.refusal.specs.declared.Verdict.{Verdict}
use Rattle.refusal.specs.declared.Verdict.TheVariants.{Written, Plan as AboutPlan}
use Rattle.floor.specs.Floor.{read_floor}
use Rattle.floor.specs.declared.Floor.{Floor}
use Rattle.plan.specs.Plan.{plan_of, PlanNumbers, PlanAnswer, accepted, rejected, head_from, judged_places, judged_head, row_fault, onward, read_rows, behind_head, read_records, read_plan, block_of, plan_read, on_floor, read_both}
use Rattle.plan.specs.Numbers.{Narrow, head_bytes, row_records, plan_records, plan_bytes, by_reading, by_floor, write_plan}
use Rattle.plan.specs.After.{ReadAs}
use Rattle.plan.specs.Promises.{AcceptedPlan}
use Rattle.plan.specs.declared.PlanRead.{PlanRead}
use Rattle.plan.specs.Valid.{HeadInRange, ValidPlan}
use Rattle.plan.specs.Block.{row_at, short_all}
use Rattle.plan.specs.Passed.{all_on_floor, head_passed, row_passed}
use Rattle.plan.specs.declared.Head.{Head}
use Rattle.refusal.specs.declared.Refusal.{Refusal}

-- every place of every row is on the floor
abbrev AllOn : ℕ → List (List ℕ) → Type 0
AllOn places rows = All (λ (row : List ℕ). judged_places places 0 row ≡ Ok tt) rows

-- the records behind an accepted head are rows, one for each cart, of the head's steps
pub record Rows (f : Floor) (h : Head) (done : List (List ℕ)) (rs : List Record) (cut : Bool) (n : PlanNumbers) : Type 0 where
  pub bodies : List (List ℕ)
  pub records : rs ≡ map (of_kind 5) bodies
  pub sizes : AllOf h.steps bodies
  pub places : AllOn f.places bodies
  pub numbers : n ≡ record { head = h; rows = done ++ bodies }
  pub uncut : cut ≡ false
  pub carts : length done ≤ f.carts → length (done ++ bodies) ≡ f.carts

pub rows_read : (f : Floor) (h : Head) (rs : List Record) (done : List (List ℕ)) (at : ℕ) (cut : Bool) (n : PlanNumbers)
    → read_rows f h done at rs cut ≡ accepted n → Rows f h done rs cut n
unfolding read_rows
rows_read f h [] done at true n e = let z : ◌≡◌ {A = ℕ} 0 1 = cc in absurd (omega arith)
rows_read f h [] done at false n e = go (ltb (length done) f.carts) refl e
  where
    go : (b : Bool) → ltb (length done) f.carts ≡ b
        → cond b (rejected (at_offset 7 at)) (accepted (record { head = h; rows = done })) ≡ accepted n → Rows f h done [] false n
    go true p e = let z : ◌≡◌ {A = ℕ} 0 1 = cc in absurd (omega arith)
    go false p e =
        let q : record { head = h; rows = done } ≡ n = cc in
        let a = append-nil done in
        record {
          bodies = [];
          records = refl;
          sizes = tt;
          places = tt;
          numbers = sym q ∙ ap (λ (x : List (List ℕ)). record { head = h; rows = x }) (sym a);
          uncut = refl;
          carts = λ m. let l : f.carts ≤ length done = ltb-false _ _ p in ap length a ∙ omega arith;
        }
rows_read f h (r ∷ rs) done at cut n e =
    go (row_fault f h (length done) r.kind r.body) refl (rows_read f h rs (done ++ (r.body ∷ [])) (at + 4 + length r.body) cut n) e
  where
    go : (m : ℕ) → row_fault f h (length done) r.kind r.body ≡ m
        → (read_rows f h (done ++ (r.body ∷ [])) (at + 4 + length r.body) rs cut ≡ accepted n → Rows f h (done ++ (r.body ∷ [])) rs cut n)
        → onward m at (read_rows f h (done ++ (r.body ∷ [])) (at + 4 + length r.body) rs cut) ≡ accepted n → Rows f h done (r ∷ rs) cut n
    go (suc m) q ih e = let z : ◌≡◌ {A = ℕ} 0 1 = cc in absurd (omega arith)
    go zero q ih e =
        let p = row_passed f h (length done) r.kind r.body q in
        let w = ih e in
        let a = append_assoc done (r.body ∷ []) w.bodies in
        record {
          bodies = r.body ∷ w.bodies;
          records = ap₂ (λ (k : ℕ) (t : List Record). of_kind k r.body ∷ t) p.kind_is w.records;
          sizes = (p.size, w.sizes);
          places = (p.there, w.places);
          numbers = w.numbers ∙ ap (λ (x : List (List ℕ)). record { head = h; rows = x }) a;
          uncut = w.uncut;
          carts = λ m. ap length (sym a) ∙ w.carts (omega (arith, p.room, length-append done (r.body ∷ [])));
        }

-- an accepted plan is a head and rows
pub record Whole (f : Floor) (s : List ℕ) (n : PlanNumbers) : Type 0 where
  pub short : length s ≤ 65536
  pub body : List ℕ
  pub size : length body ≡ 6
  pub range : HeadInRange n.head
  pub head_is : n.head ≡ head_from body
  pub records : (records_in s).records ≡ of_kind 4 body ∷ map (of_kind 5) n.rows
  pub sizes : AllOf n.head.steps n.rows
  pub places : AllOn f.places n.rows
  pub uncut : (records_in s).cut ≡ false
  pub carts : length n.rows ≡ f.carts

from_records : (f : Floor) (s : List ℕ) (n : PlanNumbers) (rs : List Record) (cut : Bool) → length s ≤ 65536 → (records_in s).records ≡ rs
    → (records_in s).cut ≡ cut
    → read_records f rs cut ≡ accepted n → Whole f s n
from_records f s n [] true l p q e = let z : ◌≡◌ {A = ℕ} 0 1 = cc in absurd (omega arith)
from_records f s n [] false l p q e = let z : ◌≡◌ {A = ℕ} 0 1 = cc in absurd (omega arith)
from_records f s n (r ∷ rs) cut l p q e = go (judged_head r.kind r.body) refl e
  where
    go : (a : Result Head Refusal) → judged_head r.kind r.body ≡ a → behind_head f a rs cut ≡ accepted n → Whole f s n
    go (Err x) j e = let z : ◌≡◌ {A = ℕ} 0 1 = cc in absurd (omega arith)
    go (Ok h) j e =
        let w = rows_read f h rs [] 10 cut n e in
        let g = head_passed r.kind r.body h j in
        let head : h ≡ n.head = sym (ap (λ (x : PlanNumbers). x.head) w.numbers) in
        let rows : w.bodies ≡ n.rows = sym (ap (λ (x : PlanNumbers). x.rows) w.numbers) in
        record {
          short = l;
          body = r.body;
          size = g.size;
          range = subst HeadInRange head g.range;
          head_is = sym head ∙ g.is;
          records = p ∙ ap₂ (λ (k : ℕ) (t : List Record). of_kind k r.body ∷ t) g.kind_is (w.records ∙ ap (map (of_kind 5)) rows);
          sizes = subst (λ (x : Head). AllOf x.steps n.rows) head (subst (AllOf h.steps) rows w.sizes);
          uncut = q ∙ w.uncut;
          places = subst (AllOn f.places) rows w.places;
          carts = ap length (sym rows) ∙ w.carts (omega arith);
        }

pub whole : (f : Floor) (s : List ℕ) (n : PlanNumbers) → read_plan f s ≡ accepted n → Whole f s n
unfolding read_plan
whole f s n e = go (ltb 65536 (length s)) refl e
  where
    go : (b : Bool) → ltb 65536 (length s) ≡ b
        → cond b (rejected (at_offset 1 0)) (read_records f (records_in s).records (records_in s).cut) ≡ accepted n → Whole f s n
    go true p e = let z : ◌≡◌ {A = ℕ} 0 1 = cc in absurd (omega arith)
    go false p e = from_records f s n (records_in s).records (records_in s).cut (ltb-false _ _ p) refl refl e

-- a head's six bytes are its three numbers
two_back : (b : List ℕ) (k : ℕ) → Bytes b → k + 2 ≤ length b → bytes 2 (value (take 2 (drop k b))) ≡ take 2 (drop k b)
two_back b k h l =
    let n : length (take 2 (drop k b)) ≡ 2 = length-take-le 2 (drop k b) (omega (arith, length-drop k b)) in
    ap (λ (m : ℕ). bytes m (value (take 2 (drop k b)))) (sym n) ∙ bytes-value (take 2 (drop k b)) (bytes_take 2 (drop k b) (bytes_drop k b h))

head_back : (b : List ℕ) → Bytes b → length b ≡ 6 → head_bytes (head_from b) ≡ b
head_back b h e =
    let last : take 2 (drop 4 b) ≡ drop 2 (drop 2 b) = take_all 2 (drop 4 b) (omega (arith, length-drop 4 b)) ∙ sym (drop-drop 2 2 b) in
    ap₂ ◌++◌ (two_back b 0 h (omega arith)) (ap₂ ◌++◌ (two_back b 2 h (omega arith)) (two_back b 4 h (omega arith) ∙ last) ∙ take-append-drop 2 (drop 2 b))
    ∙ take-append-drop 2 b

-- what was read writes back as the same bytes
pub bytes_back : (f : Floor) (s : List ℕ) (n : PlanNumbers) → Bytes s → read_plan f s ≡ accepted n → plan_bytes n.head (flatten n.rows) ≡ s
bytes_back f s n b e =
    let w = whole f s n e in
    let all : Bytes w.body × AllBytes (map (of_kind 5) n.rows) = subst AllBytes w.records (records_bytes s b) in
    ap layout (ap₂ (λ (x : List ℕ) (y : List (List ℕ)). of_kind 4 x ∷ map (of_kind 5) y) (ap head_bytes w.head_is ∙ head_back w.body all.0 w.size)
    (parts-flatten n.head.steps n.rows w.range.some w.sizes) ∙ sym w.records)
    ∙ layout-records s b w.uncut

-- read, then written: the same bytes
pub written_again : (floor s : List ℕ) (f : Floor) (n : PlanNumbers) → Bytes s → ReadAs floor s f n → (before : List ℕ)
    → write_plan floor n.head (flatten n.rows) before ≡ written AboutPlan s before
unfolding write_plan
written_again floor s f n b w before =
    ap (λ (a : Result Floor Refusal). by_floor a n.head (flatten n.rows) before) w.floor_read
    ∙ ap (λ (x : List ℕ). by_reading (read_plan f x) x before) (bytes_back f s n b w.plan_read_lem)
    ∙ ap (λ (a : PlanAnswer). by_reading a s before) w.plan_read_lem

pub head_read : (h : Head) → Narrow h → head_from (head_bytes h) ≡ h
unfolding bytes
head_read h w = rw (value-bytes 2 h.steps w.steps, value-bytes 2 h.stem w.stem, value-bytes 2 h.drift w.drift)

pub length_head : (h : Head) → length (head_bytes h) ≡ 6
unfolding bytes
length_head h = refl

pub length_plan : (h : Head) (rows : List ℕ) → length (plan_bytes h rows) ≡ 10 + length (laid 5 h.steps rows)
unfolding layout
length_plan h rows =
    let a = length-append (encoded (of_kind 4 (head_bytes h))) (laid 5 h.steps rows) in
    let b = length-encoded (of_kind 4 (head_bytes h)) in
    let c = length_head h in
    a ∙ omega arith

pub plan_encodable : (h : Head) (rows : List ℕ) → length (plan_bytes h rows) ≤ 65536 → AllEncodable (plan_records h rows)
plan_encodable h rows l = (
  record { kind = omega arith; size = omega (arith, length_head h) },
  short_encodable 5 (parts h.steps rows) (omega arith)
      (omega (arith, length_plan h rows)),
)

bodies_of_lem : (k : ℕ) (xs ys : List (List ℕ)) → map (of_kind k) xs ≡ map (of_kind k) ys → xs ≡ ys
bodies_of_lem k xs ys e = sym (only xs) ∙ ap (map (λ (r : Record). r.body)) e ∙ only ys
  where
    only : (zs : List (List ℕ)) → map (λ (r : Record). r.body) (map (of_kind k) zs) ≡ zs
    only = elim [ [] ↦ refl | z ∷ (zs → ih) ↦ ap (λ (t : List (List ℕ)). z ∷ t) ih ]

-- what is laid out and accepted holds the same numbers
pub numbers_back : (f : Floor) (h : Head) (rows : List ℕ) (n : PlanNumbers) → Narrow h → read_plan f (plan_bytes h rows) ≡ accepted n
    → (n.head ≡ h) × (flatten n.rows ≡ rows)
numbers_back f h rows n w e =
    let g = whole f (plan_bytes h rows) n e in
    let r : of_kind 4 (head_bytes h) ∷ row_records h rows ≡ of_kind 4 g.body ∷ map (of_kind 5) n.rows =
    sym (ap (λ (x : Split). x.records) (records-layout (plan_records h rows) (plan_encodable h rows g.short))) ∙ g.records in
    let q : of_kind 4 (head_bytes h) ≡ of_kind 4 g.body = cc in
    let b : head_bytes h ≡ g.body = ap (λ (x : Record). x.body) q in
    let t : row_records h rows ≡ map (of_kind 5) n.rows = cc in
    let head : n.head ≡ h = g.head_is ∙ ap head_from (sym b) ∙ head_read h w in
    let some : 0 < h.steps = subst (λ (x : Head). 0 < x.steps) head g.range.some in
    (head, ap flatten (sym (bodies_of_lem 5 (parts h.steps rows) n.rows t)) ∙ flatten-parts h.steps rows some)

-- what is written reads back as the same numbers
module _ (floor : List ℕ) (h : Head) (rows before : List ℕ) (v : Verdict) (after : List ℕ) (w : Narrow h) (k : ℕ) (e : v ≡ Written k) where
  abbrev Back : Type 0
  Back =
      (f : Floor) × (n : PlanNumbers) × (read_floor floor ≡ Ok f) × (read_plan f (take k after) ≡ accepted n) × (n.head ≡ h) × (flatten n.rows ≡ rows)

  by_plan : (f : Floor) → read_floor floor ≡ Ok f → (a : PlanAnswer) → read_plan f (plan_bytes h rows) ≡ a
      → Gives (by_reading a (plan_bytes h rows) before) v after → Back
  by_plan f p (rejected r) q g = absurd (about_plan r k (sym g.answer ∙ e))
  by_plan f p (accepted n) q g =
      let t : take k after ≡ plan_bytes h rows = written_front AboutPlan about_plan (plan_bytes h rows) before v after k g e in
      let b = numbers_back f h rows n w q in
      (f, n, p, ap (read_plan f) t ∙ q, b.0, b.1)

  by_floor_lem : (a : Result Floor Refusal) → read_floor floor ≡ a → Gives (by_floor a h rows before) v after → Back
  by_floor_lem (Err r) p g = absurd (about_floor r k (sym g.answer ∙ e))
  by_floor_lem (Ok f) p g = by_plan f p (read_plan f (plan_bytes h rows)) refl g

  pub reads_back : Gives (write_plan floor h rows before) v after → Back
  unfolding write_plan
  reads_back g = by_floor_lem (read_floor floor) refl g

pub valid : (f : Floor) (s : List ℕ) (n : PlanNumbers) → read_plan f s ≡ accepted n → ValidPlan n f
valid f s n e =
    let w = whole f s n e in
    let size : (c : ℕ) → c < f.carts → length (get_or n.rows c []) ≡ n.head.steps =
    λ c l. each (λ (row : List ℕ). length row ≡ n.head.steps) [] n.rows c w.sizes (omega (arith, w.carts)) in
    record {
      head = w.range;
      carts = w.carts;
      steps = size;
      places =
          λ c t l m. all_on_floor f.places 0 (get_or n.rows c [])
          (each (λ (row : List ℕ). judged_places f.places 0 row ≡ Ok tt) [] n.rows c w.places (omega (arith, w.carts))) t
          (omega (arith, size c l));
    }

pub row_located : (f : Floor) (s : List ℕ) (n : PlanNumbers) → read_plan f s ≡ accepted n → (c : ℕ) → c < f.carts
    → take n.head.steps (drop (64 * c) (block_of n.rows)) ≡ get_or n.rows c []
row_located f s n e c l =
    let w = whole f s n e in
    row_at n.head.steps n.rows c (short_all n.head.steps n.rows w.range.steps w.sizes) w.sizes (omega (arith, w.carts))

-- an accepted plan writes back as the same bytes
module _ (floor s : List ℕ) (r : PlanRead) (b : Bytes s) where
  on_plan : (f : Floor) → read_floor floor ≡ Ok f → (a : PlanAnswer) → read_plan f s ≡ a → Ok r ≡ plan_read f a → AcceptedPlan floor s r
  on_plan f p (rejected x) q e = let z : ◌≡◌ {A = ℕ} 0 1 = cc in absurd (omega arith)
  on_plan f p (accepted n) q e =
      let is : r ≡ record { floor = f; plan = plan_of n } = cc in
      let g : f ≡ r.floor = sym (ap (λ (y : PlanRead). y.floor) is) in
      record {
        numbers = n;
        floor_read = p ∙ ap Ok g;
        plan_read_lem = subst (λ (x : Floor). read_plan x s ≡ accepted n) g q;
        held = ap (λ (y : PlanRead). y.plan) is;
        valid = subst (ValidPlan n) g (valid f s n q);
        writes_back = bytes_back f s n b q;
        written_again = written_again floor s f n b (record { floor_read = p; plan_read_lem = q });
        row =
            λ c l. ap (λ (y : PlanRead). take n.head.steps (drop (64 * c) y.plan.block)) is
            ∙ row_located f s n q c (subst (λ (x : Floor). c < x.carts) (sym g) l);
      }

  on_floor_lem : (a : Result Floor Refusal) → read_floor floor ≡ a → Ok r ≡ on_floor a s → AcceptedPlan floor s r
  on_floor_lem (Err x) p e = let z : ◌≡◌ {A = ℕ} 0 1 = cc in absurd (omega arith)
  on_floor_lem (Ok f) p e = on_plan f p (read_plan f s) refl e

  pub accepts : Ok r ≡ read_both floor s → AcceptedPlan floor s r
  unfolding read_both
  accepts e = on_floor_lem (read_floor floor) refl e
