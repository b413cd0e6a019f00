-- Records judged in order.
use Rattle.std.specs.Prelude.{ℕ, ◌+◌, ◌*◌, ◌/◌, ◌≤◌, ◌≡◌, refl, Bool, false, List, [], ◌∷◌, ◌++◌, map, length, Result, Ok, Err}
use Rattle.std.proofs.Common.{add-zero, div-one, arith, ap, ◌∙◌, length-append, le-ltb}
use Rattle.std.proofs.Math.Path.{ap}
use Rattle.std.proofs.Math.Bool.{cond}
use Rattle.endian.specs.Little.{bytes}
use Rattle.endian.specs.RoundTrip.{length-bytes}
use Rattle.refusal.specs.Codes.{at_offset}
use Rattle.record.specs.Record.{Record, encoded, layout, records_in}
use Rattle.record.specs.Laid.{length-laid}
use Rattle.record.specs.Parts.{of_kind, part_count}
use Rattle.record.specs.RoundTrip.{length-encoded, records-layout}
use Rattle.floor.specs.Floor.{Kind, kinds, judged, onward, walk, at_end, read_on, empty_floor, read_floor, Walked}
use Rattle.floor.specs.Walked.{walk_on, UpTo}
use Rattle.floor.specs.Numbers.{FloorNumbers, word_records, in_order, bodies, floor_records, floor_bytes}
use Rattle.floor.specs.InOrder.{laid_length, length_order}
use Rattle.floor.specs.RoundTrip.{floor_encodable}
use Rattle.floor.specs.declared.Floor.{Floor}

pub walk_append : (f : Floor) (at : ℕ) (rs ts : List Record) → walk f at (rs ++ ts) ≡ walk_on (walk f at rs) ts
unfolding walk
walk_append f at [] ts = refl
walk_append f at (r ∷ rs) ts = go (judged f r.kind r.body) (λ g. walk_append g (at + 4 + length r.body) rs ts)
  where
    go : (j : Result Floor ℕ) → ((g : Floor) → walk g (at + 4 + length r.body) (rs ++ ts) ≡ walk_on (walk g (at + 4 + length r.body) rs) ts)
        → onward j at (λ g. walk g (at + 4 + length r.body) (rs ++ ts)) ≡ walk_on (onward j at (λ g. walk g (at + 4 + length r.body) rs)) ts
    go (Ok g) h = h g
    go (Err n) h = refl

pub on_append : (w : Walked) (rs ts : List Record) → walk_on w (rs ++ ts) ≡ walk_on (walk_on w rs) ts
on_append (Ok (f, at)) rs ts = walk_append f at rs ts
on_append (Err r) rs ts = refl

-- the offset behind records is their length
pub walk_offset : (rs : List Record) (f : Floor) (at : ℕ) (g : Floor) (n : ℕ) → walk f at rs ≡ Ok (g, n) → n ≡ at + length (layout rs)
unfolding walk layout
walk_offset [] f at g n e =
    let t : ◌≡◌ {A = Floor × ℕ} (f, at) (g, n) = cc in
    let q : at ≡ n = ap (λ (x : Floor × ℕ). x.1) t in
    omega arith
walk_offset (r ∷ rs) f at g n e = go (judged f r.kind r.body) (λ h. walk_offset rs h (at + 4 + length r.body) g n) e
  where
    go : (j : Result Floor ℕ) → ((h : Floor) → walk h (at + 4 + length r.body) rs ≡ Ok (g, n) → n ≡ at + 4 + length r.body + length (layout rs))
        → onward j at (λ h. walk h (at + 4 + length r.body) rs) ≡ Ok (g, n) → n ≡ at + length (encoded r ++ layout rs)
    go (Ok h) ih e =
        let a = ih h e in
        let b = length-append (encoded r) (layout rs) in
        let c = length-encoded r in
        omega arith
    go (Err m) ih e = let z : ◌≡◌ {A = ℕ} 0 1 = cc in absurd (omega arith)

-- so records judged from an offset on, with more bytes behind them, stay below it
pub walk_up_to : (most : ℕ) (f : Floor) (at : ℕ) (rs : List Record) (n : ℕ) → at + (length (layout rs) + n) ≤ most → UpTo most (walk f at rs) n
walk_up_to most f at rs n h = go (walk f at rs) refl
  where
    go : (w : Walked) → walk f at rs ≡ w → UpTo most w n
    go (Ok (g, m)) e = let a = walk_offset rs f at g m e in omega arith
    go (Err r) e = tt

pub on_up_to : (most : ℕ) (w : Walked) (rs : List Record) (n : ℕ) → UpTo most w (length (layout rs) + n) → UpTo most (walk_on w rs) n
on_up_to most (Ok (f, at)) rs n h = walk_up_to most f at rs n h
on_up_to most (Err r) rs n h = tt

-- with fewer bytes behind
pub up_to_less : (most : ℕ) (w : Walked) (n m : ℕ) → UpTo most w (n + m) → UpTo most w n
up_to_less most (Ok (f, at)) n m h = omega arith
up_to_less most (Err r) n m h = tt

-- the kinds of a table one after the other
abbrev pub walk_kinds : Walked → List Kind → List (List (List ℕ)) → Walked
walk_kinds w [] groups = w
walk_kinds w (k ∷ ks) [] = w
walk_kinds w (k ∷ ks) (bodies ∷ groups) = walk_kinds (walk_on w (map (of_kind k.number) bodies)) ks groups

walk_nothing : (w : Walked) → walk_on w [] ≡ w
unfolding walk
walk_nothing (Ok (f, at)) = refl
walk_nothing (Err r) = refl

pub walk_kinds_lem : (w : Walked) (ks : List Kind) (groups : List (List (List ℕ))) → walk_on w (in_order ks groups) ≡ walk_kinds w ks groups
walk_kinds_lem w [] groups = walk_nothing w
walk_kinds_lem w (k ∷ ks) [] = walk_nothing w
walk_kinds_lem w (k ∷ ks) (bodies ∷ groups) =
    on_append w (map (of_kind k.number) bodies) (in_order ks groups) ∙ walk_kinds_lem (walk_on w (map (of_kind k.number) bodies)) ks groups

-- four bytes of header and four of the number to each
pub length_words : (k : ℕ) (ms : List ℕ) → length (layout (word_records k ms)) ≡ 8 * length ms
unfolding layout
length_words k [] = refl
length_words k (m ∷ ms) =
    let a = length-append (encoded (of_kind k (bytes 4 m))) (layout (word_records k ms)) in
    let b = length-encoded (of_kind k (bytes 4 m)) in
    let c = length-bytes 4 m in
    let d = length_words k ms in
    omega arith

module _ (n : FloorNumbers) where
  -- the length of a floor laid out: of each kind's records, and so of its numbers
  pub length-kinds : length (floor_bytes n) ≡ laid_length kinds (bodies n)
  length-kinds = length_order kinds (bodies n)

  pub length_floor : length (floor_bytes n)
      ≡ 8 * length n.places + (length n.lanes + 4 * part_count 3 (length n.lanes)
      + (length n.carts + 4 * part_count 2 (length n.carts) + (5 * length n.narrow + 8 * length n.groups)))
  length_floor =
      let p = length_words 1 n.places in
      let l = length-laid 2 3 n.lanes (omega arith) in
      let c = length-laid 3 2 n.carts (omega arith) in
      let w = length-laid 6 1 n.narrow (omega arith) in
      let g = length_words 7 n.groups in
      let ones : part_count 1 (length n.narrow) ≡ length n.narrow = ap (λ (k : ℕ). k / 1) (add-zero (length n.narrow)) ∙ div-one (length n.narrow) in
      omega (arith, length-kinds)

  -- reading it judges its records, kind after kind
  pub read_records_lem : length (floor_bytes n) ≤ 65536 → read_floor (floor_bytes n) ≡ at_end (walk empty_floor 0 (floor_records n)) false
  unfolding read_floor
  read_records_lem h =
      ap (λ (b : Bool). cond b (Err (at_offset 1 0)) (read_on empty_floor 0 (records_in (floor_bytes n)))) (le-ltb 65536 (length (floor_bytes n)) h)
      ∙ ap (read_on empty_floor 0) (records-layout (floor_records n) (floor_encodable n))

  pub read_numbers : length (floor_bytes n) ≤ 65536 → read_floor (floor_bytes n) ≡ at_end (walk_kinds (Ok (empty_floor, 0)) kinds (bodies n)) false
  read_numbers h = read_records_lem h ∙ ap (λ (w : Walked). at_end w false) (walk_kinds_lem (Ok (empty_floor, 0)) kinds (bodies n))
