-- Parts and records laid out: one after the other, their lengths, and back again.
use Rattle.std.specs.Prelude.{ℕ, zero, suc, ◌+◌, ◌-◌, ◌*◌, ◌/◌, ◌≤◌, ◌<◌, min, ◌≡◌, refl, Bool, true, false, leb, length, take, drop, get_or}
use Rattle.std.proofs.Math.Nat.{add-div_right, div-eq_of_lt, min-eq_left, min-eq_right, min-le_left, min-le_right}
use Rattle.std.proofs.Common.{le_of_lt, add-sub_of_le, add_comm, mul-zero, mul-suc, suc-mul, arith, sym, ap₂, subst, ◌∙◌, leb-true, leb-false, length-append, length-drop, take-append-drop, drop_of_length-le, take_all, drop-drop, take_at, drop_at, length-take-le, get_or-take, get_or-drop}
use Rattle.std.proofs.Math.Path.{ap}
use mathlib.Core.List.{List, [], ◌∷◌, ◌++◌, map, append_assoc, flatten}
use Rattle.std.proofs.Math.Seq.{take-length, drop-length}
use Rattle.record.specs.Record.{Record, encoded, layout}
use Rattle.record.specs.Parts.{parts_in, parts, part_count, of_kind, laid}
use Rattle.record.specs.All.{All, AllOf}
use Rattle.record.specs.Fuel.{parts_none, parts_open}
use Rattle.record.specs.RoundTrip.{AllEncodable, length-encoded}

pub layout_append : (rs ts : List Record) → layout (rs ++ ts) ≡ layout rs ++ layout ts
unfolding layout
layout_append [] ts = refl
layout_append (r ∷ rs) ts = ap (λ (x : List ℕ). encoded r ++ x) (layout_append rs ts) ∙ sym (append_assoc (encoded r) (layout rs) (layout ts))

-- bodies of one length laid out
pub length_bodies : (k size : ℕ) (xs : List (List ℕ)) → AllOf size xs → length (layout (map (of_kind k) xs)) ≡ length xs * (4 + size)
unfolding layout
length_bodies k size [] s = omega arith
length_bodies k size (x ∷ xs) s =
    let a = length-append (encoded (of_kind k x)) (layout (map (of_kind k) xs)) in
    let b = length-encoded (of_kind k x) in
    let c = length_bodies k size xs s.1 in
    omega (arith, s.0, suc-mul (length xs) (4 + size))

-- the shorter of a part's size and what is left, and what is then the same
short_or_full : (n : ℕ) (l : List ℕ) (P : ℕ → Type 0) → P n → (length l ≤ n → P (length l)) → P (min n (length l))
short_or_full n l P full short = go (leb n (length l)) refl
  where
    go : (b : Bool) → leb n (length l) ≡ b → P (min n (length l))
    go true e = subst P (sym (min-eq_left (leb-true _ _ e))) full
    go false e =
        let h : length l ≤ n = le_of_lt (leb-false _ _ e) in
        subst P (sym (min-eq_right h)) (short h)

take_min : (n : ℕ) (l : List ℕ) → take (min n (length l)) l ≡ take n l
take_min n l = short_or_full n l (λ k. take k l ≡ take n l) refl (λ h. take-length l ∙ sym (take_all n l h))

drop_min : (n : ℕ) (l : List ℕ) → drop (min n (length l)) l ≡ drop n l
drop_min n l = short_or_full n l (λ k. drop k l ≡ drop n l) refl (λ h. drop-length l ∙ sym (drop_of_length-le l h))

-- the first part, as long as there are bytes, and the parts behind it
pub parts_step : (size : ℕ) (l : List ℕ) → 0 < size → 0 < length l
    → parts size l ≡ take (min size (length l)) l ∷ parts size (drop (min size (length l)) l)
parts_step size [] p h = absurd (omega arith)
parts_step size (b ∷ l) p h =
    parts_open size b l p ∙ ap₂ (λ (x y : List ℕ). x ∷ parts size y) (sym (take_min size (b ∷ l))) (sym (drop_min size (b ∷ l)))

-- bytes that begin with their first part
pub parts_front : (size : ℕ) (l x t : List ℕ) → 0 < size → 0 < length l → l ≡ x ++ t → length x ≡ min size (length l) → parts size l ≡ x ∷ parts size t
parts_front size l x t p h e n =
    let m = min size (length l) in
    parts_step size l p h
    ∙ ap₂ (λ (a b : List ℕ). a ∷ parts size b) (ap (take m) e ∙ take_at x t m n) (ap (drop m) e ∙ drop_at x t m n)

-- what holds of the records of all parts, of the first one's and those behind it; and of none where no bytes are left
pub first_part : (P : List Record → Type 0) (k size : ℕ) (l x t : List ℕ) → 0 < size → 0 < length l → l ≡ x ++ t → length x ≡ min size (length l)
    → P (map (of_kind k) (parts size l)) → P (of_kind k x ∷ map (of_kind k) (parts size t))
first_part P k size l x t p h e n w = subst (λ (y : List (List ℕ)). P (map (of_kind k) y)) (parts_front size l x t p h e n) w

pub no_part : (P : List Record → Type 0) (k size : ℕ) (l : List ℕ) → length l ≡ 0 → P (map (of_kind k) (parts size l)) → P []
no_part P k size [] h w = subst (λ (y : List (List ℕ)). P (map (of_kind k) y)) (parts_none size) w
no_part P k size (b ∷ l) h w = absurd (omega arith)

-- the same at an offset: the part from there to its end, and the parts from its end on
pub record PartAt (size : ℕ) (l : List ℕ) (i end : ℕ) : Type 0 where
  pub forward : i < end
  pub within : end ≤ length l
  pub size_is : length (take (end - i) (drop i l)) ≡ end - i
  pub step : parts size (drop i l) ≡ take (end - i) (drop i l) ∷ parts size (drop end l)

pub part_at : (size : ℕ) (l : List ℕ) (i end : ℕ) → 0 < size → i < length l → end ≡ i + min size (length l - i) → PartAt size l i end
part_at size l i end p h e =
    let n : length (drop i l) ≡ length l - i = length-drop i l in
    let m : min size (length (drop i l)) ≡ end - i = omega arith in
    let next : drop (end - i) (drop i l) ≡ drop end l = drop-drop (end - i) i l
    ∙ ap (λ (k : ℕ). drop k l) (add-sub_of_le {n = end} {m = i} (omega arith)) in
    record {
      forward = omega arith;
      within = omega arith;
      size_is = length-take-le (end - i) (drop i l) (omega arith);
      step = parts_step size (drop i l) p (omega arith)
          ∙ ap (λ (k : ℕ). take k (drop i l) ∷ parts size (drop k (drop i l))) m
          ∙ ap (λ (x : List ℕ). take (end - i) (drop i l) ∷ parts size x) next;
    }

-- and as records: one, and those behind it
module _ (k size : ℕ) (l : List ℕ) (i end : ℕ) (at : PartAt size l i end) where
  pub laid_step : laid k size (drop i l) ≡ encoded (of_kind k (take (end - i) (drop i l))) ++ laid k size (drop end l)
  unfolding layout
  laid_step = ap (λ (x : List (List ℕ)). layout (map (of_kind k) x)) at.step

  pub length_step : length (laid k size (drop i l)) ≡ 4 + (end - i) + length (laid k size (drop end l))
  length_step =
      let a = at.size_is in
      let b = length-encoded (of_kind k (take (end - i) (drop i l))) in
      ap length laid_step ∙ length-append (encoded (of_kind k (take (end - i) (drop i l)))) (laid k size (drop end l)) ∙ omega arith

pub laid_none : (k size : ℕ) → laid k size [] ≡ []
unfolding layout
laid_none k size = ap (λ (x : List (List ℕ)). layout (map (of_kind k) x)) (parts_none size)

count_step : (size n : ℕ) → 0 < size → 0 < n → part_count size n ≡ part_count size (n - min size n) + 1
count_step size n p h = go (leb size n) refl
  where
    go : (b : Bool) → leb size n ≡ b → part_count size n ≡ part_count size (n - min size n) + 1
    go true e =
        let m : size ≤ n = leb-true _ _ e in
        let d : n + (size - 1) ≡ (n - min size n + (size - 1)) + size = omega arith in
        ap (λ (x : ℕ). x / size) d ∙ add-div_right (n - min size n + (size - 1)) p
    go false e =
        let m : n < size = leb-false _ _ e in
        let d : n + (size - 1) ≡ (n - 1) + size = omega arith in
        let z : n - min size n + (size - 1) < size = omega arith in
        ap (λ (x : ℕ). x / size) d ∙ add-div_right (n - 1) p
        ∙ ap (λ (x : ℕ). x + 1) (div-eq_of_lt {n = n - 1} {m = size} (omega arith) ∙ sym (div-eq_of_lt z))

-- what holds of no bytes, and of bytes if it holds of those behind their first part, holds of all
module _ (size : ℕ) (p : 0 < size) (P : List ℕ → Type 0) (none : P []) (more : (l : List ℕ) → 0 < length l → P (drop (min size (length l)) l) → P l) where
  up_to : (f : ℕ) (l : List ℕ) → length l ≤ f → P l
  up_to zero [] h = none
  up_to zero (b ∷ l) h = absurd (omega arith)
  up_to (suc f) [] h = none
  up_to (suc f) (b ∷ l) h =
      let m = min size (length (b ∷ l)) in
      more (b ∷ l) (omega arith) (up_to f (drop m (b ∷ l)) (omega (arith, length-drop m (b ∷ l))))

  parts_ind : (l : List ℕ) → P l
  parts_ind l = up_to (length l) l (omega arith)

-- one record and the records behind it
laid_open : (k size : ℕ) (l : List ℕ) → 0 < size → 0 < length l
    → laid k size l ≡ encoded (of_kind k (take (min size (length l)) l)) ++ laid k size (drop (min size (length l)) l)
unfolding layout
laid_open k size l p h = ap (λ (x : List (List ℕ)). layout (map (of_kind k) x)) (parts_step size l p h)

-- four bytes of header for each part
pub length-laid : (k size : ℕ) (l : List ℕ) → 0 < size → length (laid k size l) ≡ length l + 4 * part_count size (length l)
length-laid k size l p = parts_ind size p (λ l. length (laid k size l) ≡ length l + 4 * part_count size (length l)) none more l
  where
    none : length (laid k size []) ≡ 0 + 4 * part_count size 0
    none =
        let a : length (laid k size []) ≡ 0 = ap length (laid_none k size) in
        let b : part_count size 0 ≡ 0 = div-eq_of_lt {n = 0 + (size - 1)} {m = size} (omega arith) in
        omega arith

    more : (l : List ℕ) → 0 < length l
        → length (laid k size (drop (min size (length l)) l)) ≡ length (drop (min size (length l)) l) + 4 * part_count size
        (length (drop (min size (length l)) l))
        → length (laid k size l) ≡ length l + 4 * part_count size (length l)
    more l h r =
        let m = min size (length l) in
        let n : length (drop m l) ≡ length l - m = length-drop m l in
        let t : length (take m l) ≡ m = length-take-le m l (min-le_right size (length l)) in
        let c : part_count size (length (drop m l)) ≡ part_count size (length l - m) = ap (part_count size) n in
        let d = count_step size (length l) p h in
        let e = length-encoded (of_kind k (take m l)) in
        ap length (laid_open k size l p h) ∙ length-append (encoded (of_kind k (take m l))) (laid k size (drop m l)) ∙ omega arith

-- parts of at most 65,535 bytes can be laid out
pub parts_encodable : (k size : ℕ) (l : List ℕ) → k < 65536 → 0 < size → size < 65536 → AllEncodable (map (of_kind k) (parts size l))
parts_encodable k size l h p q = parts_ind size p (λ l. AllEncodable (map (of_kind k) (parts size l))) none more l
  where
    none : AllEncodable (map (of_kind k) (parts size []))
    none = subst (λ (x : List (List ℕ)). AllEncodable (map (of_kind k) x)) (sym (parts_none size)) tt

    more : (l : List ℕ) → 0 < length l → AllEncodable (map (of_kind k) (parts size (drop (min size (length l)) l)))
        → AllEncodable (map (of_kind k) (parts size l))
    more l b r =
        let m = min size (length l) in
        let t : length (take m l) ≡ m = length-take-le m l (min-le_right size (length l)) in
        subst (λ (x : List (List ℕ)). AllEncodable (map (of_kind k) x)) (sym (parts_step size l p b))
        (record { kind = h; size = omega (arith, min-le_left size (length l)) }, r)

-- and so can records of one kind whose whole length is a file's
pub short_encodable : (k : ℕ) (xs : List (List ℕ)) → k < 65536 → length (layout (map (of_kind k) xs)) ≤ 65536 → AllEncodable (map (of_kind k) xs)
unfolding layout
short_encodable k [] h l = tt
short_encodable k (x ∷ xs) h l =
    let a = length-append (encoded (of_kind k x)) (layout (map (of_kind k) xs)) in
    let b = length-encoded (of_kind k x) in
    (record { kind = h; size = omega arith }, short_encodable k xs h (omega arith))

-- of size 0 there is one part, of all bytes
pub length_whole : (k : ℕ) (l : List ℕ) → 0 < length l → length (laid k 0 l) ≡ 4 + length l
unfolding layout parts parts_in
length_whole k [] h = absurd (omega arith)
length_whole k (b ∷ l) h =
    let a = length-append (encoded (of_kind k (take (length (b ∷ l)) (b ∷ l)))) [] in
    let c = length-encoded (of_kind k (take (length (b ∷ l)) (b ∷ l))) in
    let d = ap length (take-length (b ∷ l)) in
    a ∙ omega arith

-- parts joined are what they were cut from
pub flatten-parts : (size : ℕ) (l : List ℕ) → 0 < size → flatten (parts size l) ≡ l
unfolding flatten
flatten-parts size l p = parts_ind size p (λ l. flatten (parts size l) ≡ l) (ap flatten (parts_none size)) more l
  where
    more : (l : List ℕ) → 0 < length l → flatten (parts size (drop (min size (length l)) l)) ≡ drop (min size (length l)) l
        → flatten (parts size l) ≡ l
    more l b r =
        let m = min size (length l) in
        ap flatten (parts_step size l p b) ∙ ap (λ (x : List ℕ). take m l ++ x) r ∙ take-append-drop m l

-- joined and cut again they are what they were
pub parts-flatten : (size : ℕ) (bodies : List (List ℕ)) → 0 < size → AllOf size bodies → parts size (flatten bodies) ≡ bodies
unfolding flatten
parts-flatten size [] p h = parts_none size
parts-flatten size (x ∷ xs) p h =
    let l = x ++ flatten xs in
    let n = length-append x (flatten xs) in
    let s : length x ≡ size = h.0 in
    let m : length x ≡ min size (length l) = omega arith in
    parts_step size l p (omega arith)
    ∙ ap₂ (λ (a : List ℕ) (b : List ℕ). a ∷ parts size b) (take_at x (flatten xs) (min size (length l)) m) (drop_at x (flatten xs) (min size (length l)) m)
    ∙ ap (λ (t : List (List ℕ)). x ∷ t) (parts-flatten size xs p h.1)

pub length-flatten : (size : ℕ) (bodies : List (List ℕ)) → AllOf size bodies → length (flatten bodies) ≡ size * length bodies
unfolding flatten
length-flatten size [] h = sym (mul-zero size)
length-flatten size (x ∷ xs) h =
    length-append x (flatten xs) ∙ ap₂ ◌+◌ h.0 (length-flatten size xs h.1) ∙ add_comm size (size * length xs) ∙ sym (mul-suc size (length xs))

-- numbers that make whole parts: so many of them, each of the size, and what holds of each holds of all
module _ (size : ℕ) (some : 0 < size) (P : List ℕ → Type 0) where
  pub whole_parts : (k : ℕ) (l : List ℕ) → length l ≡ size * k → ((j : ℕ) → j < k → P (take size (drop (size * j) l)))
      → (length (parts size l) ≡ k) × AllOf size (parts size l) × All P (parts size l)
  whole_parts zero [] e f = rw (parts_none size) (refl, tt, tt)
  whole_parts zero (b ∷ l) e f = absurd (omega (arith, mul-zero size))
  whole_parts (suc k) l e f =
      let m = mul-suc size k in
      let full : min size (length l) ≡ size = omega arith in
      let first : P (take size l) = subst (λ (n : ℕ). P (take size (drop n l))) (mul-zero size) (f 0 (omega arith)) in
      let shift : (j : ℕ) → size + size * j ≡ size * suc j = λ j. omega (arith, mul-suc size j) in
      let rest : (j : ℕ) → j < k → P (take size (drop (size * j) (drop size l))) =
      λ j h. subst (λ (x : List ℕ). P (take size x)) (sym (drop-drop (size * j) size l ∙ ap (λ (n : ℕ). drop n l) (shift j))) (f (suc j) (omega arith)) in
      let r = whole_parts k (drop size l) (omega (arith, length-drop size l)) rest in
      rw (parts_step size l some (omega arith), full) (ap suc r.0, (length-take-le size l (omega arith), r.1), (first, r.2))

-- the k-th number of the j-th part
pub field_of : (size : ℕ) (l : List ℕ) (j k : ℕ) → k < size → get_or (take size (drop (size * j) l)) k 0 ≡ get_or l (size * j + k) 0
field_of size l j k h = get_or-take size (drop (size * j) l) k 0 h ∙ get_or-drop (size * j) l k 0

-- the j-th part
pub part_of : (size : ℕ) → 0 < size → (k : ℕ) (l : List ℕ) → length l ≡ size * k → (j : ℕ) → j < k → get_or (parts size l) j [] ≡ take size (drop (size * j) l)
part_of size some zero l e j h = absurd (omega arith)
part_of size some (suc k) l e j h =
    let m = mul-suc size k in
    let full : min size (length l) ≡ size = omega arith in
    let open_up : parts size l ≡ take size l ∷ parts size (drop size l) =
    parts_step size l some (omega arith) ∙ ap (λ (n : ℕ). take n l ∷ parts size (drop n l)) full in
    ap (λ (x : List (List ℕ)). get_or x j []) open_up ∙ by j h (part_of size some k (drop size l) (omega (arith, length-drop size l)))
  where
    by : (j : ℕ) → j < suc k → ((j : ℕ) → j < k → get_or (parts size (drop size l)) j [] ≡ take size (drop (size * j) (drop size l)))
        → get_or (take size l ∷ parts size (drop size l)) j [] ≡ take size (drop (size * j) l)
    by zero h f = ap (λ (n : ℕ). take size (drop n l)) (sym (mul-zero size))
    by (suc j) h f =
        let n : size + size * j ≡ size * suc j = omega (arith, mul-suc size j) in
        f j (omega arith) ∙ ap (take size) (drop-drop (size * j) size l ∙ ap (λ (x : ℕ). drop x l) n)
