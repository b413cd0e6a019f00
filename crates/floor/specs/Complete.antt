-- Numbers of the table are accepted: what reading accepts is exactly what is valid.
use Rattle.std.specs.Prelude.{ℕ, suc, ◌+◌, ◌*◌, ◌^◌, ◌≤◌, ◌<◌, ◌≡◌, refl, true, false, List, [], ◌∷◌, map, length, take, drop, get_or, Ok}
use Rattle.std.proofs.Common.{add-zero, arith, ap, ◌∙◌, pow_mono, le-ltb, ne_eqb}
use Rattle.std.proofs.lemmas.List.{length-map}
use Rattle.std.proofs.lemmas.Bool.{lt-leb}
use Rattle.endian.specs.Little.{bytes}
use Rattle.endian.specs.RoundTrip.{length-bytes, value-bytes}
use Rattle.record.specs.Parts.{parts}
use Rattle.record.specs.All.{All}
use Rattle.record.specs.Laid.{whole_parts, field_of}
use Rattle.floor.specs.Floor.{place, lane, cart, narrow, group, counts, at_end, read_floor, Walked}
use Rattle.floor.specs.Numbers.{FloorNumbers, bodies, floor_bytes}
use Rattle.floor.specs.Valid.{ValidFloor}
use Rattle.floor.specs.Sorted.{Group}
use Rattle.floor.specs.Fitting.{all_fit}
use Rattle.floor.specs.Walk.{length_floor, read_records_lem}
use Rattle.floor.specs.declared.Floor.{Floor}

false-true : false ≡ true → ⊥
false-true e = let z : ◌≡◌ {A = ℕ} 0 1 = cc in omega arith

module _ (n : FloorNumbers) (f : Floor) (v : ValidFloor n f) where
  -- the fields of lanes and carts one by one
  lane_ok : (j : ℕ) → j < f.lanes → lane.bad (f.places ∷ []) (take 3 (drop (3 * j) n.lanes)) ≡ false
  lane_ok j l =
      let from = rw (add-zero (3 * j)) at (field_of 3 n.lanes j 0 (omega arith)) in
      let to = field_of 3 n.lanes j 1 (omega arith) in
      simp (from, to, lt-leb f.places _ (v.lane_from j l), lt-leb f.places _ (v.lane_to j l))

  cart_ok : (c : ℕ) → c < f.carts → cart.bad (f.places ∷ f.lanes ∷ []) (take 2 (drop (2 * c) n.carts)) ≡ false
  cart_ok c l =
      let class = rw (add-zero (2 * c)) at (field_of 2 n.carts c 0 (omega arith)) in
      let start = field_of 2 n.carts c 1 (omega arith) in
      let low : get_or n.carts (2 * c) 0 ≤ 7 = omega (arith, v.cart_class c l) in
      simp (class, start, le-ltb 7 _ low, lt-leb f.places _ (v.cart_start c l))

  narrow_ok : (i : ℕ) → i < f.narrow → narrow.bad (f.places ∷ f.lanes ∷ f.carts ∷ []) (take 1 (drop (1 * i) n.narrow)) ≡ false
  narrow_ok i l =
      let at : 1 * i + 0 ≡ i = omega arith in
      let place = field_of 1 n.narrow i 0 (omega arith) ∙ ap (λ (k : ℕ). get_or n.narrow k 0) at in
      simp (place, lt-leb f.places _ (v.narrow_there i l))

  group_ok : (g : ℕ) → g < f.groups → group.bad (f.places ∷ f.lanes ∷ f.carts ∷ f.narrow ∷ []) (bytes 4 (get_or n.groups g 0)) ≡ false
  group_ok g l =
      let word = value-bytes 4 (get_or n.groups g 0) (omega (arith, v.group_there g l, pow_mono {i = f.carts} {j = 32} v.few_carts)) in
      simp (word, lt-leb (2 ^ f.carts) _ (v.group_there g l))

  -- a valid floor is no longer than 10,752 bytes
  short : length (floor_bytes n) ≤ 65536
  short =
      omega (
        arith,
        length_floor n,
        v.places,
        v.lanes,
        v.carts,
        v.narrow,
        v.groups,
        v.few_places,
        v.few_lanes,
        v.few_carts,
        v.few_narrow,
        v.few_groups,
      )

  -- numbers of four bytes each
  all_words : (P : List ℕ → Type 0) (ms : List ℕ) → ((i : ℕ) → i < length ms → P (bytes 4 (get_or ms i 0))) → All P (map (bytes 4) ms)
  all_words P [] h = tt
  all_words P (m ∷ ms) h = (h 0 (omega arith), all_words P ms (λ i l. h (suc i) (omega arith)))

  places : Group place [] 0 f.places (0 ∷ 0 ∷ 0 ∷ 0 ∷ []) (map (bytes 4) n.places)
  places = record {
    sizes = all_words (λ (x : List ℕ). length x ≡ 4) n.places (λ i l. length-bytes 4 _);
    count = omega (arith, length-map n.places (bytes 4), v.places);
    few = λ l. v.few_places;
    fields = all_words (λ (x : List ℕ). false ≡ false) n.places (λ i l. refl);
    none = λ s. absurd (false-true s);
  }

  lanes : Group lane (f.places ∷ []) 0 f.lanes (0 ∷ 0 ∷ 0 ∷ []) (parts 3 n.lanes)
  lanes =
      let p = whole_parts 3 (omega arith) (λ x. lane.bad (f.places ∷ []) x ≡ false) f.lanes n.lanes v.lanes lane_ok in
      record { sizes = p.1; count = omega (arith, p.0); few = λ l. v.few_lanes; fields = p.2; none = λ s. absurd (false-true s) }

  carts : Group cart (f.places ∷ f.lanes ∷ []) 0 f.carts (0 ∷ 0 ∷ []) (parts 2 n.carts)
  carts =
      let p = whole_parts 2 (omega arith) (λ x. cart.bad (f.places ∷ f.lanes ∷ []) x ≡ false) f.carts n.carts v.carts cart_ok in
      record { sizes = p.1; count = omega (arith, p.0); few = λ l. v.few_carts; fields = p.2; none = λ s. absurd (false-true s) }

  narrows : Group narrow (f.places ∷ f.lanes ∷ f.carts ∷ []) 0 f.narrow (0 ∷ []) (parts 1 n.narrow)
  narrows =
      let all : length n.narrow ≡ 1 * f.narrow = omega (arith, v.narrow) in
      let p = whole_parts 1 (omega arith) (λ x. narrow.bad (f.places ∷ f.lanes ∷ f.carts ∷ []) x ≡ false) f.narrow n.narrow all narrow_ok in
      record { sizes = p.1; count = omega (arith, p.0); few = λ l. v.few_narrow; fields = p.2; none = λ s. absurd (false-true s) }

  groups : Group group (f.places ∷ f.lanes ∷ f.carts ∷ f.narrow ∷ []) 0 f.groups [] (map (bytes 4) n.groups)
  groups = record {
    sizes = all_words (λ (x : List ℕ). length x ≡ 4) n.groups (λ i l. length-bytes 4 _);
    count = omega (arith, length-map n.groups (bytes 4), v.groups);
    few = λ l. v.few_groups;
    fields =
        all_words (λ (x : List ℕ). group.bad (f.places ∷ f.lanes ∷ f.carts ∷ f.narrow ∷ []) x ≡ false) n.groups
        (λ g l. group_ok g (omega (arith, v.groups)));
    none = λ s. absurd (false-true s);
  }

  pub complete : read_floor (floor_bytes n) ≡ Ok f
  complete =
      let w = all_fit (counts f) (bodies n) (places, (lanes, (carts, (narrows, (groups, tt))))) in
      let p : (f.places ≡ 0 → ⊥) = λ e. omega (arith, v.some_place) in
      let q : (f.carts ≡ 0 → ⊥) = λ e. omega (arith, v.some_cart) in
      read_records_lem n short ∙ ap (λ (w : Walked). at_end w false) w.1 ∙ simp (ne_eqb _ _ p, ne_eqb _ _ q)
