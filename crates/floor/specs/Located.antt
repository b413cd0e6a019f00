-- Where the numbers of an accepted floor lie in its bytes.
use Rattle.std.specs.Prelude.{ℕ, zero, suc, ◌+◌, ◌*◌, ◌^◌, ◌≤◌, ◌<◌, ◌≡◌, refl, false, leb, ltb, length, take, drop, get_or, Ok}
use Rattle.std.proofs.Common.{mul-zero, mul-suc, zero-add, add-zero, arith, ap₂, subst, ◌∙◌, take_at, ltb-false, leb-false}
use Rattle.std.proofs.Math.Path.{sym, ap}
use mathlib.Core.List.{List, [], ◌∷◌, ◌++◌, flatten}
use Rattle.std.proofs.lemmas.List.{length-map}
use Rattle.std.proofs.Math.ListN.{get_or-map}
use Rattle.std.proofs.Math.Seq.{drop-append-add}
use Rattle.refusal.specs.Faults.{either_false}
use Rattle.endian.specs.Little.{value, Bytes}
use Rattle.endian.specs.RoundTrip.{four_at}
use Rattle.record.specs.Record.{layout, records_in}
use Rattle.record.specs.All.{AllOf, each}
use Rattle.record.specs.Laid.{length-flatten, field_of}
use Rattle.record.specs.RoundTrip.{layout-records}
use Rattle.floor.specs.Floor.{place, lane, cart, narrow, group, kinds, counts, empty_floor, read_floor}
use Rattle.floor.specs.Numbers.{in_order, bodies_of, numbers_of, place_at, lane_at, cart_at, narrow_at, group_at, body_at}
use Rattle.floor.specs.Sorted.{Group, Sorted, groups_of}
use Rattle.floor.specs.InOrder.{offset_of, size_at, located}
use Rattle.floor.specs.Valid.{ValidFloor}
use Rattle.floor.specs.Walk.{length_floor}
use Rattle.floor.specs.RoundTrip.{whole, accepted_sorted, accepted_within, bytes_back, written_again}
use Rattle.floor.specs.Promises.{AcceptedFloor}
use Rattle.floor.specs.declared.Floor.{Floor}

-- numbers in a row
flat_at : (size : ℕ) (xs : List (List ℕ)) (i : ℕ) → AllOf size xs → i < length xs → take size (drop (size * i) (flatten xs)) ≡ get_or xs i []
unfolding flatten
flat_at size [] i h l = absurd (omega arith)
flat_at size (x ∷ xs) zero h l =
    ap (λ (m : ℕ). take size (drop m (x ++ flatten xs))) (mul-zero size) ∙ take_at x (flatten xs) size h.0
flat_at size (x ∷ xs) (suc i) h l =
    let n : size * suc i ≡ length x + size * i = omega (arith, mul-suc size i, h.0) in
    ap (λ (m : ℕ). take size (drop m (x ++ flatten xs))) n
    ∙ ap (take size) (drop-append-add x (flatten xs) (size * i)) ∙ flat_at size xs i h.1 (omega arith)

-- one number of a body
one_of : (size : ℕ) (xs : List (List ℕ)) (i k : ℕ) → AllOf size xs → i < length xs → k < size
    → get_or (flatten xs) (size * i + k) 0 ≡ get_or (get_or xs i []) k 0
one_of size xs i k h l m = sym (field_of size (flatten xs) i k m) ∙ ap (λ (x : List ℕ). get_or x k 0) (flat_at size xs i h l)

-- a list of one
alone : (x : List ℕ) → length x ≡ 1 → x ≡ get_or x 0 0 ∷ []
alone [] e = absurd (omega arith)
alone (a ∷ []) e = refl
alone (a ∷ (b ∷ x)) e = absurd (omega arith)

-- of an accepted floor
module _ (s : List ℕ) (f : Floor) (b : Bytes s) (e : read_floor s ≡ Ok f) where
  abbrev places : List (List ℕ)
  places = bodies_of 1 (records_in s).records

  abbrev lanes : List (List ℕ)
  lanes = bodies_of 2 (records_in s).records

  abbrev carts : List (List ℕ)
  carts = bodies_of 3 (records_in s).records

  abbrev narrows : List (List ℕ)
  narrows = bodies_of 6 (records_in s).records

  abbrev groups : List (List ℕ)
  groups = bodies_of 7 (records_in s).records

  ordered : Sorted empty_floor f (records_in s).records
  ordered = accepted_sorted s f e

  -- the records of each kind
  abbrev P : Group place [] 0 f.places (0 ∷ 0 ∷ 0 ∷ 0 ∷ []) places
  P = ordered.0.0

  abbrev L : Group lane (f.places ∷ []) 0 f.lanes (0 ∷ 0 ∷ 0 ∷ []) lanes
  L = ordered.0.1.0

  abbrev C : Group cart (f.places ∷ f.lanes ∷ []) 0 f.carts (0 ∷ 0 ∷ []) carts
  C = ordered.0.1.1.0

  abbrev W : Group narrow (f.places ∷ f.lanes ∷ f.carts ∷ []) 0 f.narrow (0 ∷ []) narrows
  W = ordered.0.1.1.1.0

  abbrev G : Group group (f.places ∷ f.lanes ∷ f.carts ∷ f.narrow ∷ []) 0 f.groups [] groups
  G = ordered.0.1.1.1.1.0

  file : s ≡ layout (in_order kinds (groups_of kinds (records_in s).records))
  file = sym (layout-records s b (whole s f e).uncut) ∙ ap layout ordered.1

  -- the j-th body of the i-th kind, wherever its offset is worked out
  body_at_lem : (i j at : ℕ) → i < length kinds → j < length (get_or (groups_of kinds (records_in s).records) i [])
      → at ≡ offset_of kinds (counts f) i + (4 + size_at kinds i) * j
      → body_at (size_at kinds i) at s ≡ get_or (get_or (groups_of kinds (records_in s).records) i []) j []
  body_at_lem i j at k l q = ap₂ (body_at (size_at kinds i)) q file ∙ located kinds [] (counts f) (groups_of kinds (records_in s).records) ordered.0 i j k l

  place_located : (i : ℕ) → i < f.places → value (body_at 4 (place_at i) s) ≡ get_or (numbers_of s).places i 0
  unfolding value
  place_located i l = ap value (body_at_lem 0 i (place_at i) (omega arith) (omega (arith, P.count)) (omega arith)) ∙ sym (get_or-map value places i [])

  lane_located : (j : ℕ) → j < f.lanes → body_at 3 (lane_at f j) s ≡ take 3 (drop (3 * j) (numbers_of s).lanes)
  lane_located j l =
      let m : j < length lanes = omega (arith, L.count) in
      body_at_lem 1 j (lane_at f j) (omega arith) m (omega arith) ∙ sym (flat_at 3 lanes j L.sizes m)

  cart_located : (n : ℕ) → n < f.carts → body_at 2 (cart_at f n) s ≡ take 2 (drop (2 * n) (numbers_of s).carts)
  cart_located n l =
      let m : n < length carts = omega (arith, C.count) in
      body_at_lem 2 n (cart_at f n) (omega arith) m (omega arith) ∙ sym (flat_at 2 carts n C.sizes m)

  narrow_is : (i : ℕ) → i < f.narrow → get_or (numbers_of s).narrow i 0 ≡ get_or (get_or narrows i []) 0 0
  narrow_is i l =
      let at : i ≡ 1 * i + 0 = omega arith in
      ap (λ (k : ℕ). get_or (numbers_of s).narrow k 0) at ∙ one_of 1 narrows i 0 W.sizes (omega (arith, W.count)) (omega arith)

  narrow_located : (i : ℕ) → i < f.narrow → body_at 1 (narrow_at f i) s ≡ get_or (numbers_of s).narrow i 0 ∷ []
  narrow_located i l =
      let m : i < length narrows = omega (arith, W.count) in
      let one : get_or (numbers_of s).narrow i 0 ≡ get_or (get_or narrows i []) 0 0 = narrow_is i l in
      body_at_lem 3 i (narrow_at f i) (omega arith) m (omega arith) ∙ alone (get_or narrows i []) (each (λ (x : List ℕ). length x ≡ 1) [] narrows i W.sizes m)
      ∙ ap (λ (x : ℕ). x ∷ []) (sym one)

  group_is : (g : ℕ) → get_or (numbers_of s).groups g 0 ≡ value (get_or groups g [])
  unfolding value
  group_is g = get_or-map value groups g []

  group_located : (g : ℕ) → g < f.groups → value (body_at 4 (group_at f g) s) ≡ get_or (numbers_of s).groups g 0
  group_located g l = ap value (body_at_lem 4 g (group_at f g) (omega arith) (omega (arith, G.count)) (omega arith)) ∙ sym (group_is g)

  lane_is : (j k : ℕ) → j < f.lanes → k < 3 → get_or (numbers_of s).lanes (3 * j + k) 0 ≡ get_or (get_or lanes j []) k 0
  lane_is j k l m = one_of 3 lanes j k L.sizes (omega (arith, L.count)) m

  cart_is : (n k : ℕ) → n < f.carts → k < 2 → get_or (numbers_of s).carts (2 * n + k) 0 ≡ get_or (get_or carts n []) k 0
  cart_is n k l m = one_of 2 carts n k C.sizes (omega (arith, C.count)) m

  narrow_ok : (i : ℕ) → i < f.narrow → get_or (get_or narrows i []) 0 0 < f.places
  narrow_ok i l =
      leb-false _ _ (each (λ (x : List ℕ). narrow.bad (f.places ∷ f.lanes ∷ f.carts ∷ []) x ≡ false) [] narrows i W.fields (omega (arith, W.count)))

  group_ok : (g : ℕ) → g < f.groups → value (get_or groups g []) < 2 ^ f.carts
  group_ok g l =
      leb-false _ _ (each (λ (x : List ℕ). group.bad (f.places ∷ f.lanes ∷ f.carts ∷ f.narrow ∷ []) x ≡ false) [] groups g G.fields
      (omega (arith, G.count)))

  lane_ok : (j : ℕ) → j < f.lanes → (get_or (get_or lanes j []) 0 0 < f.places) × (get_or (get_or lanes j []) 1 0 < f.places)
  lane_ok j l =
      let r = either_false (leb f.places (get_or (get_or lanes j []) 0 0)) (leb f.places (get_or (get_or lanes j []) 1 0))
      (each (λ (x : List ℕ). lane.bad (f.places ∷ []) x ≡ false) [] lanes j L.fields (omega (arith, L.count))) in
      (leb-false _ _ r.0, leb-false _ _ r.1)

  cart_ok : (n : ℕ) → n < f.carts → (get_or (get_or carts n []) 0 0 < 8) × (get_or (get_or carts n []) 1 0 < f.places)
  cart_ok n l =
      let r = either_false (ltb 7 (get_or (get_or carts n []) 0 0)) (leb f.places (get_or (get_or carts n []) 1 0))
      (each (λ (x : List ℕ). cart.bad (f.places ∷ f.lanes ∷ []) x ≡ false) [] carts n C.fields (omega (arith, C.count))) in
      let class : get_or (get_or carts n []) 0 0 ≤ 7 = ltb-false _ _ r.0 in
      (omega arith, leb-false _ _ r.1)

  valid : ValidFloor (numbers_of s) f
  valid =
      let w = whole s f e in
      let m = accepted_within s f e in
      record {
        places = length-map places value ∙ sym (P.count ∙ zero-add (length places));
        lanes = length-flatten 3 lanes L.sizes ∙ ap (λ (k : ℕ). 3 * k) (sym (L.count ∙ zero-add (length lanes)));
        carts = length-flatten 2 carts C.sizes ∙ ap (λ (k : ℕ). 2 * k) (sym (C.count ∙ zero-add (length carts)));
        narrow = length-flatten 1 narrows W.sizes ∙ omega (arith, W.count);
        groups = length-map groups value ∙ sym (G.count ∙ zero-add (length groups));
        some_place = w.some_place;
        some_cart = w.some_cart;
        few_places = m.places;
        few_lanes = m.lanes;
        few_carts = m.carts;
        few_narrow = m.narrow;
        few_groups = m.groups;
        lane_from =
            λ j l. subst (λ (k : ℕ). get_or (numbers_of s).lanes k 0 < f.places) (add-zero (3 * j)) (rw (lane_is j 0 l (omega arith)) (lane_ok j l).0);
        lane_to = λ j l. rw (lane_is j 1 l (omega arith)) (lane_ok j l).1;
        cart_class =
            λ n l. subst (λ (k : ℕ). get_or (numbers_of s).carts k 0 < 8) (add-zero (2 * n)) (rw (cart_is n 0 l (omega arith)) (cart_ok n l).0);
        cart_start = λ n l. rw (cart_is n 1 l (omega arith)) (cart_ok n l).1;
        narrow_there = λ i l. rw (narrow_is i l) (narrow_ok i l);
        group_there = λ g l. rw (group_is g) (group_ok g l);
      }

  pub accepts : AcceptedFloor s f
  accepts = record {
    valid = valid;
    writes_back = bytes_back s f b e;
    written_again = written_again s f b e;
    place = place_located;
    lane = lane_located;
    cart = cart_located;
    narrow = narrow_located;
    group = group_located;
  }

-- an accepted floor is as long as its records, and the four bytes of a group's body are its carts
module _ (s : List ℕ) (f : Floor) (w : AcceptedFloor s f) where
  pub accepted_length : length s ≡ 8 * f.places + (7 * f.lanes + (6 * f.carts + (5 * f.narrow + 8 * f.groups)))
  accepted_length =
      let v = w.valid in
      omega (arith, ap length w.writes_back, length_floor (numbers_of s), v.places, v.lanes, v.carts, v.narrow, v.groups)

  pub group_word : (g at : ℕ) → g < f.groups → at ≡ group_at f g + 4
      → value (get_or s at 0 ∷ get_or s (at + 1) 0 ∷ get_or s (at + 2) 0 ∷ get_or s (at + 3) 0 ∷ []) ≡ get_or (numbers_of s).groups g 0
  group_word g at l e =
      ap value (sym (four_at s at (omega (arith, accepted_length))) ∙ ap (λ (k : ℕ). take 4 (drop k s)) e) ∙ w.group g l
