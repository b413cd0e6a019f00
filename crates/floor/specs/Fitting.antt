-- Bodies of each kind, of its length, not too many, with fields in range: records in the table's order are counted, every one.
use Prim.Native.Nat.{ℕ, suc, ◌+◌, ◌≤◌}
use native.Mathlib.Omega.{arith}
use Rattle.std.specs.Prelude.{◌≡◌, refl, Bool, true, false, not, ◌⊎◌, eqb, Result, Ok}
use Rattle.std.proofs.Common.{sym, ◌∙◌, inl, inr, eq-eqb}
use Rattle.std.proofs.Math.Path.{ap}
use Rattle.std.proofs.Math.Bool.{cond}
use mathlib.Core.List.{List, [], ◌∷◌, ◌++◌, map, append_assoc}
use Rattle.std.proofs.Math.ListN.{length, length-append}
use Rattle.std.proofs.lemmas.Bool.{lt-leb, not-true}
use Rattle.record.specs.Parts.{of_kind}
use Rattle.record.specs.All.{All, AllOf}
use Rattle.record.specs.Opened.{both_true}
use Rattle.floor.specs.Floor.{Kind, kinds, floor_of, seen, judged_as, judged_by, judged, onward, walk, Walked}
use Rattle.floor.specs.Numbers.{in_order}
use Rattle.floor.specs.Kinds.{unlisted, distinct, kinds-distinct, eqb_turned, counts_of, Passed}
use Rattle.floor.specs.Sorted.{Groups}
use Rattle.floor.specs.InOrder.{none}
use Rattle.floor.specs.Walked.{walk_on}
use Rattle.floor.specs.Walk.{walk_append}
use Rattle.floor.specs.declared.Floor.{Floor}

-- a record that passes every test is counted in
counts_in : (k : Kind) (before : List ℕ) (n : ℕ) (after body : List ℕ) → Passed k before n after body
    → judged_as k before n after body ≡ Ok (floor_of (before ++ ((n + 1) ∷ after)))
counts_in k before n after body p = simp (p.order, eq-eqb _ _ p.size, lt-leb k.most n p.room, p.fields)

-- none counted is none seen
none_seen : (ks : List Kind) → seen (none ks) ≡ false
none_seen [] = refl
none_seen (k ∷ ks) = none_seen ks

length_none : (ks : List Kind) → length (none ks) ≡ length ks
length_none [] = refl
length_none (k ∷ ks) = ap suc (length_none ks)

-- a number of the table
abbrev Among : ℕ → List Kind → Type 0
Among n [] = ⊥
Among n (k ∷ ks) = (n ≡ k.number) ⊎ Among n ks

among_apart : (n m : ℕ) (ks : List Kind) → unlisted m ks ≡ true → Among n ks → eqb n m ≡ false
among_apart n m [] d a = absurd a
among_apart n m (k ∷ ks) d (inl q) =
    let t = both_true (not (eqb m k.number)) (unlisted m ks) d in
    eqb_turned m n (ap (eqb m) q ∙ not-true _ t.0)
among_apart n m (k ∷ ks) d (inr a) = among_apart n m ks (both_true (not (eqb m k.number)) (unlisted m ks) d).1 a

-- behind so many records of the kinds before it, the rest of the table judges as the whole
abbrev Rest : List Kind → List ℕ → Type 0
Rest ks before = (ns body : List ℕ) (n : ℕ) → length ns ≡ length ks → Among n ks → judged_by kinds [] (before ++ ns) n body ≡ judged_by ks before ns n body

rest_on : (k : Kind) (ks : List Kind) (before : List ℕ) (m : ℕ) → distinct (k ∷ ks) ≡ true → Rest (k ∷ ks) before → Rest ks (before ++ (m ∷ []))
rest_on k ks before m d rest ns body n e a =
    let t = both_true (unlisted k.number ks) (distinct ks) d in
    ap (λ (x : List ℕ). judged_by kinds [] x n body) (append_assoc before (m ∷ []) ns) ∙ rest (m ∷ ns) body n (ap suc e) (inr a)
    ∙ ap (λ (b : Bool). cond b (judged_as k before m ns body) (judged_by ks (before ++ (m ∷ [])) ns n body)) (among_apart n k.number ks t.0 a)

module _ (k : Kind) (ks : List Kind) (before : List ℕ) (whole : length before + length (k ∷ ks) ≡ length kinds) (rest : Rest (k ∷ ks) before) where
  -- the floor with n of this kind and none behind it
  abbrev with_some : ℕ → List ℕ
  with_some n = before ++ (n ∷ none ks)

  one_more : (n : ℕ) (body : List ℕ) → Passed k before n (none ks) body → judged (floor_of (with_some n)) k.number body ≡ Ok (floor_of (with_some (n + 1)))
  unfolding judged
  one_more n body p =
      let size : length (with_some n) ≡ length kinds = omega (arith, length-append before (n ∷ none ks), length_none ks, whole) in
      ap (λ (x : List ℕ). judged_by kinds [] x k.number body) (counts_of (with_some n) size)
      ∙ rest (n ∷ none ks) body k.number (ap suc (length_none ks)) (inl refl)
      ∙ ap (λ (b : Bool). cond b (judged_as k before n (none ks) body) (judged_by ks (before ++ (n ∷ [])) (none ks) k.number body)) (eq-eqb k.number _ refl)
      ∙ counts_in k before n (none ks) body p

  kind_fits : (xs : List (List ℕ)) (n at : ℕ) → n + length xs ≤ k.most → AllOf k.size xs → All (λ (x : List ℕ). k.bad before x ≡ false) xs
      → (m : ℕ) × (walk (floor_of (with_some n)) at (map (of_kind k.number) xs) ≡ Ok ((floor_of (with_some (n + length xs))), m))
  unfolding walk
  kind_fits [] n at h s o = let e : n ≡ n + 0 = omega arith in (at, ap (λ (i : ℕ). Ok ((floor_of (with_some i)), at)) e)
  kind_fits (x ∷ xs) n at h s o =
      let r = kind_fits xs (n + 1) (at + 4 + length x) (omega arith) s.1 o.1 in
      let e : n + 1 + length xs ≡ n + length (x ∷ xs) = omega arith in
      let p : Passed k before n (none ks) x = record { order = none_seen ks; size = s.0; room = omega arith; fields = o.0 } in (
        r.0,
        ap (λ (j : Result Floor ℕ). onward j at (λ g. walk g (at + 4 + length x) (map (of_kind k.number) xs))) (one_more n x p)
            ∙ r.1 ∙ ap (λ (i : ℕ). Ok ((floor_of (with_some i)), r.0)) e,
      )

-- kind after kind
fits_from : (ks : List Kind) (before ms : List ℕ) (groups : List (List (List ℕ))) (at : ℕ) → distinct ks ≡ true
    → length before + length ks ≡ length kinds → Rest ks before → Groups ks before (none ks) ms groups
    → (m : ℕ) × (walk (floor_of (before ++ none ks)) at (in_order ks groups) ≡ Ok ((floor_of (before ++ ms)), m))
unfolding walk
fits_from [] before [] groups at d whole rest g = (at, refl)
fits_from [] before (n ∷ ms) groups at d whole rest g = absurd g
fits_from (k ∷ ks) before [] groups at d whole rest g = absurd g
fits_from (k ∷ ks) before (n ∷ ms) [] at d whole rest g = absurd g
fits_from (k ∷ ks) before (n ∷ ms) (bodies ∷ groups) at d whole rest g =
    let t = both_true (unlisted k.number ks) (distinct ks) d in
    let group = g.0 in
    let count : 0 + length bodies ≡ n = omega (arith, group.count) in
    let here = kind_fits k ks before whole rest bodies 0 at (omega (arith, group.few (omega arith), count)) group.sizes group.fields in
    let size : length (before ++ (n ∷ [])) + length ks ≡ length kinds = omega (arith, length-append before (n ∷ []), whole) in
    let more = fits_from ks (before ++ (n ∷ [])) ms groups here.0 t.1 size (rest_on k ks before n d rest) g.1 in (
      more.0,
      walk_append (floor_of (before ++ none (k ∷ ks))) at (map (of_kind k.number) bodies) (in_order ks groups)
          ∙ ap (λ (w : Walked). walk_on w (in_order ks groups))
          (here.1 ∙ ap (λ (x : List ℕ). Ok ((floor_of x), here.0))
          (ap (λ (i : ℕ). before ++ (i ∷ none ks)) count ∙ sym (append_assoc before (n ∷ []) (none ks))))
          ∙ more.1 ∙ ap (λ (x : List ℕ). Ok ((floor_of x), more.0)) (append_assoc before (n ∷ []) ms),
    )

pub all_fit : (ms : List ℕ) (groups : List (List (List ℕ))) → Groups kinds [] (none kinds) ms groups
    → (m : ℕ) × (walk (floor_of []) 0 (in_order kinds groups) ≡ Ok ((floor_of ms), m))
all_fit ms groups g = fits_from kinds [] ms groups 0 kinds-distinct refl (λ ns body n e a. refl) g
