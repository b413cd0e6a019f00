-- What is written reads back as the same numbers, and what was read writes back as the same bytes.
use Rattle.std.specs.Prelude.{ℕ, suc, ◌≤◌, ◌<◌, ◌≡◌, refl, Bool, true, false, cond, ◌||◌, eqb, ltb, length, take, get_or, Result, Ok, Err}
use Rattle.std.proofs.Common.{arith, sym, ap, ap₂, subst, ◌∙◌, ltb-false}
use mathlib.Core.List.{List, [], ◌∷◌, map, flatten}
use Rattle.std.proofs.lemmas.Bool.{eqb-false}
use Rattle.endian.specs.Little.{bytes, value, Bytes}
use Rattle.endian.specs.RoundTrip.{length-bytes, value-bytes, bytes-value}
use Rattle.record.specs.Record.{Record, Split, layout, records_in}
use Rattle.record.specs.Parts.{parts}
use Rattle.record.specs.All.{All, AllOf}
use Rattle.record.specs.Laid.{parts_encodable, flatten-parts, parts-flatten}
use Rattle.record.specs.RoundTrip.{AllEncodable, records-layout, layout-records, AllBytes, records_bytes}
use Rattle.refusal.specs.Codes.{at_offset}
use Rattle.refusal.specs.Outcome.{Gives, written}
use Rattle.refusal.specs.Held.{about_floor, written_front}
use Rattle.refusal.specs.declared.Verdict.{Verdict}
use Rattle.refusal.specs.declared.Verdict.TheVariants.{Written, Floor as AboutFloor}
use Rattle.floor.specs.Floor.{kinds, walk, at_end, empty_floor, read_on, read_floor, Walked}
use Rattle.floor.specs.Numbers.{FloorNumbers, Words, word_records, in_order, bodies, floor_records, floor_bytes, bodies_of, numbers_in, numbers_of, by_reading, write_floor}
use Rattle.floor.specs.Kinds.{kinds-distinct}
use Rattle.floor.specs.InOrder.{groups_back, all_encodable}
use Rattle.floor.specs.Sorted.{Sorted, groups_of, sorted}
use Rattle.floor.specs.declared.Floor.{Floor}
use Rattle.refusal.specs.declared.Refusal.{Refusal}

-- laid out, a floor's numbers are whole records
words_encodable : (k : ℕ) (ms : List ℕ) → k < 65536 → AllEncodable (word_records k ms)
words_encodable k [] h = tt
words_encodable k (m ∷ ms) h = (record { kind = h; size = omega (arith, length-bytes 4 m) }, words_encodable k ms h)

pub floor_encodable : (n : FloorNumbers) → AllEncodable (floor_records n)
floor_encodable n =
    let places = words_encodable 1 n.places (omega arith) in
    let lanes = parts_encodable 2 3 n.lanes (omega arith) (omega arith) (omega arith) in
    let carts = parts_encodable 3 2 n.carts (omega arith) (omega arith) (omega arith) in
    let narrow = parts_encodable 6 1 n.narrow (omega arith) (omega arith) (omega arith) in
    let groups = words_encodable 7 n.groups (omega arith) in
    all_encodable kinds (bodies n) (places, (lanes, (carts, (narrow, (groups, tt)))))

values_back : (ms : List ℕ) → Words ms → map value (map (bytes 4) ms) ≡ ms
values_back [] w = refl
values_back (m ∷ ms) w = ap₂ ◌∷◌ (value-bytes 4 m (w 0)) (values_back ms (λ i. w (suc i)))

-- the numbers are found again among their records, and so in their bytes
numbers_back : (n : FloorNumbers) → Words n.places → Words n.groups → numbers_in (floor_records n) ≡ n
numbers_back n w v =
    let found = groups_back kinds (bodies n) kinds-distinct refl in
    let group : (i : ℕ) → get_or (groups_of kinds (floor_records n)) i [] ≡ get_or (bodies n) i [] = λ i. ap (λ (x : List (List (List ℕ))). get_or x i []) found in
    let places : map value (bodies_of 1 (floor_records n)) ≡ n.places = ap (map value) (group 0) ∙ values_back n.places w in
    let lanes : flatten (bodies_of 2 (floor_records n)) ≡ n.lanes = ap flatten (group 1) ∙ flatten-parts 3 n.lanes (omega arith) in
    let carts : flatten (bodies_of 3 (floor_records n)) ≡ n.carts = ap flatten (group 2) ∙ flatten-parts 2 n.carts (omega arith) in
    let narrow : flatten (bodies_of 6 (floor_records n)) ≡ n.narrow = ap flatten (group 3) ∙ flatten-parts 1 n.narrow (omega arith) in
    let groups : map value (bodies_of 7 (floor_records n)) ≡ n.groups = ap (map value) (group 4) ∙ values_back n.groups v in
    rw (places, lanes, carts, narrow, groups) refl

pub numbers_written : (n : FloorNumbers) → Words n.places → Words n.groups → numbers_of (floor_bytes n) ≡ n
numbers_written n w v = ap (λ (x : Split). numbers_in x.records) (records-layout (floor_records n) (floor_encodable n)) ∙ numbers_back n w v

-- an accepted file is walked to its end, and is not cut short
pub record Whole (s : List ℕ) (f : Floor) : Type 0 where
  pub short : length s ≤ 65536
  pub end : ℕ
  pub walked : walk empty_floor 0 (records_in s).records ≡ Ok (f, end)
  pub uncut : (records_in s).cut ≡ false
  pub some_place : 0 < f.places
  pub some_cart : 0 < f.carts

ends : (w : Walked) (c : Bool) (f : Floor) → at_end w c ≡ Ok f → (n : ℕ) × (w ≡ Ok (f, n)) × (c ≡ false) × (0 < f.places) × (0 < f.carts)
ends (Err r) c f e = let z : ◌≡◌ {A = ℕ} 0 1 = cc in absurd (omega arith)
ends (Ok (g, n)) true f e = let z : ◌≡◌ {A = ℕ} 0 1 = cc in absurd (omega arith)
ends (Ok (g, n)) false f e = go (eqb g.places 0) (eqb g.carts 0) refl refl e
  where
    go : (a b : Bool) → eqb g.places 0 ≡ a → eqb g.carts 0 ≡ b → cond (a || b) (Err (at_offset 7 n)) (Ok g) ≡ Ok f
        → (m : ℕ) × (◌≡◌ {A = Walked} (Ok (g, n)) (Ok (f, m))) × (◌≡◌ {A = Bool} false false) × (0 < f.places) × (0 < f.carts)
    go true b p q e = let z : ◌≡◌ {A = ℕ} 0 1 = cc in absurd (omega arith)
    go false true p q e = let z : ◌≡◌ {A = ℕ} 0 1 = cc in absurd (omega arith)
    go false false p q e =
        let h : g ≡ f = cc in
        let a : (g.places ≡ 0 → ⊥) = eqb-false _ _ p in
        let b : (g.carts ≡ 0 → ⊥) = eqb-false _ _ q in
        (n, ap (λ (x : Floor). Ok (x, n)) h, refl, subst (λ (x : Floor). 0 < x.places) h (omega arith), subst (λ (x : Floor). 0 < x.carts) h (omega arith))

pub whole : (s : List ℕ) (f : Floor) → read_floor s ≡ Ok f → Whole s f
unfolding read_floor
whole s f e = go (ltb 65536 (length s)) refl e
  where
    go : (b : Bool) → ltb 65536 (length s) ≡ b → cond b (Err (at_offset 1 0)) (read_on empty_floor 0 (records_in s)) ≡ Ok f → Whole s f
    go true p e = let z : ◌≡◌ {A = ℕ} 0 1 = cc in absurd (omega arith)
    go false p e =
        let t = ends (walk empty_floor 0 (records_in s).records) (records_in s).cut f e in
        record { short = ltb-false _ _ p; end = t.0; walked = t.1; uncut = t.2; some_place = t.3; some_cart = t.4 }

pub accepted_sorted : (s : List ℕ) (f : Floor) → read_floor s ≡ Ok f → Sorted empty_floor f (records_in s).records
accepted_sorted s f e = let w = whole s f e in sorted (records_in s).records empty_floor 0 f w.end w.walked

-- 1 to 256 places, 0 to 1,024 lanes, 1 to 32 carts, 0 to 256 narrow places, 0 to 8 groups: never more
pub record Within (f : Floor) : Type 0 where
  pub places : f.places ≤ 256
  pub lanes : f.lanes ≤ 1024
  pub carts : f.carts ≤ 32
  pub narrow : f.narrow ≤ 256
  pub groups : f.groups ≤ 8

-- an accepted floor is within the limits
pub accepted_within : (s : List ℕ) (f : Floor) → read_floor s ≡ Ok f → Within f
accepted_within s f e =
    let g = (accepted_sorted s f e).0 in
    record {
      places = g.0.few (omega arith);
      lanes = g.1.0.few (omega arith);
      carts = g.1.1.0.few (omega arith);
      narrow = g.1.1.1.0.few (omega arith);
      groups = g.1.1.1.1.0.few (omega arith);
    }

-- numbers of four bytes, written as bytes again
bodies_bytes : (k : ℕ) (rs : List Record) → AllBytes rs → All Bytes (bodies_of k rs)
unfolding bodies_of
bodies_bytes k [] h = tt
bodies_bytes k (r ∷ rs) h = go (eqb r.kind k) (bodies_bytes k rs h.1)
  where
    go : (b : Bool) → All Bytes (bodies_of k rs) → All Bytes (cond b (r.body ∷ bodies_of k rs) (bodies_of k rs))
    go true more = (h.0, more)
    go false more = more

words_again : (a : List (List ℕ)) → AllOf 4 a → All Bytes a → map (bytes 4) (map value a) ≡ a
words_again [] h b = refl
words_again (x ∷ a) h b =
    ap₂ ◌∷◌ (ap (λ (n : ℕ). bytes n (value x)) (sym h.0) ∙ bytes-value x b.0) (words_again a h.1 b.1)

-- what was read writes back as the same bytes
pub bytes_back : (s : List ℕ) (f : Floor) → Bytes s → read_floor s ≡ Ok f → floor_bytes (numbers_of s) ≡ s
bytes_back s f b e =
    let rs = (records_in s).records in
    let o = accepted_sorted s f e in
    let g = o.0 in
    let p = bodies_of 1 rs in
    let l = bodies_of 2 rs in
    let c = bodies_of 3 rs in
    let w = bodies_of 6 rs in
    let t = bodies_of 7 rs in
    let each : (k : ℕ) → All Bytes (bodies_of k rs) = λ k. bodies_bytes k rs (records_bytes s b) in
    let places : map (bytes 4) (map value p) ≡ p = words_again p g.0.sizes (each 1) in
    let lanes : parts 3 (flatten l) ≡ l = parts-flatten 3 l (omega arith) g.1.0.sizes in
    let carts : parts 2 (flatten c) ≡ c = parts-flatten 2 c (omega arith) g.1.1.0.sizes in
    let narrow : parts 1 (flatten w) ≡ w = parts-flatten 1 w (omega arith) g.1.1.1.0.sizes in
    let groups : map (bytes 4) (map value t) ≡ t = words_again t g.1.1.1.1.0.sizes (each 7) in
    let same : bodies (numbers_in rs) ≡ groups_of kinds rs = rw (places, lanes, carts, narrow, groups) refl in
    ap (λ (x : List (List (List ℕ))). layout (in_order kinds x)) same ∙ ap layout (sym o.1) ∙ layout-records s b (whole s f e).uncut

-- read, then written: the same bytes
pub written_again : (s : List ℕ) (f : Floor) → Bytes s → read_floor s ≡ Ok f → (before : List ℕ)
    → write_floor (numbers_of s) before ≡ written AboutFloor s before
unfolding write_floor
written_again s f b e before =
    ap (λ (x : List ℕ). by_reading (read_floor x) x before) (bytes_back s f b e) ∙ ap (λ (a : Result Floor Refusal). by_reading a s before) e

-- what is written reads back as the same numbers
pub reads_back : (n : FloorNumbers) (before : List ℕ) (v : Verdict) (after : List ℕ) → Words n.places → Words n.groups
    → Gives (write_floor n before) v after
    → (k : ℕ) → v ≡ Written k → (f : Floor) × (read_floor (take k after) ≡ Ok f) × (numbers_of (take k after) ≡ n)
unfolding write_floor
reads_back n before v after w u g k e = go (read_floor (floor_bytes n)) refl g
  where
    go : (a : Result Floor Refusal) → read_floor (floor_bytes n) ≡ a → Gives (by_reading a (floor_bytes n) before) v after
        → (f : Floor) × (read_floor (take k after) ≡ Ok f) × (numbers_of (take k after) ≡ n)
    go (Err r) q g = absurd (about_floor r k (sym g.answer ∙ e))
    go (Ok f) q g =
        let t : take k after ≡ floor_bytes n = written_front AboutFloor about_floor (floor_bytes n) before v after k g e in
        (f, ap read_floor t ∙ q, ap numbers_of t ∙ numbers_written n w u)
