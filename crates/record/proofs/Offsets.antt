-- The header at an offset, byte by byte, and what is found there.
use Prim.Native.Nat.{ℕ, ◌+◌, ◌-◌, ◌≤◌, ◌<◌}
use native.Mathlib.Omega.{arith}
use mathlib.Core.Path.{◌≡◌, sym, ap, ap₂, ◌∙◌}
use mathlib.Core.Bool.{Bool, true, false, ◌&&◌}
use mathlib.Core.List.{List, [], ◌∷◌}
use lib.Dec.{leb}
use lib.ListN.{length, take, drop, get_or, length-drop}
use lib.Seq.{drop-drop}
use borrow.Author.Tests.{le-leb, lt-leb}
use Rattle.endian.specs.Little.{value}
use Rattle.endian.specs.RoundTrip.{two_at}
use Rattle.record.specs.Record.{joined, whole, front, behind, size_in, kind_in, records_in}
use Rattle.record.specs.Found.{found_in, found_at}
use Rattle.record.specs.Opened.{goes_on, past_end, body_size}
use Rattle.record.specs.declared.Found.TheVariants.{End, Cut, Whole}

pub none : (s : List ℕ) (at : ℕ) → length s ≤ at → End ≡ found_at s at
none s at h = sym (ap (found_in at) (past_end s at h))

module _ (s : List ℕ) (at : ℕ) (more : at < length s) where
  size_at_lem : at + 4 ≤ length s → size_in (drop at s) ≡ value (get_or s at 0 ∷ get_or s (at + 1) 0 ∷ [])
  size_at_lem h = ap value (two_at s at (omega arith))

  kind_at_lem : at + 4 ≤ length s → kind_in (drop at s) ≡ value (get_or s (at + 2) 0 ∷ get_or s (at + 3) 0 ∷ [])
  kind_at_lem h =
      let next : at + 2 + 1 ≡ at + 3 = omega arith in
      ap (λ (t : List ℕ). value (take 2 t)) (drop-drop 2 at s)
      ∙ ap value (two_at s (at + 2) (omega arith))
      ∙ ap (λ (k : ℕ). value (get_or s (at + 2) 0 ∷ get_or s k 0 ∷ [])) next

  -- what is found, by whether the record is whole
  found_by : (w : Bool) → whole (drop at s) ≡ w → found_at s at ≡ found_in at (joined w (front (drop at s)) (records_in (behind (drop at s))))
  found_by w e =
      ap (found_in at)
      (goes_on (drop at s) (omega (arith, length-drop at s)) ∙ ap (λ (t : Bool). joined t (front (drop at s)) (records_in (behind (drop at s)))) e)

  pub short_header : length s - at < 4 → Cut ≡ found_at s at
  short_header h =
      sym
      (found_by false
      (ap (λ (b : Bool). b && leb (4 + size_in (drop at s)) (length (drop at s))) (lt-leb 4 (length (drop at s)) (omega (arith, length-drop at s)))))

  pub short_body : at + 4 ≤ length s → length s - at - 4 < value (get_or s at 0 ∷ get_or s (at + 1) 0 ∷ []) → Cut ≡ found_at s at
  short_body h k =
      let n = length-drop at s in
      let z = size_at_lem h in
      sym (found_by false (ap₂ ◌&&◌ (le-leb 4 (length (drop at s)) (omega arith)) (lt-leb (4 + size_in (drop at s)) (length (drop at s)) (omega arith))))

  pub whole_at : at + 4 ≤ length s → value (get_or s at 0 ∷ get_or s (at + 1) 0 ∷ []) ≤ length s - at - 4
      → Whole (value (get_or s (at + 2) 0 ∷ get_or s (at + 3) 0 ∷ [])) (at + 4) (at + 4 + value (get_or s at 0 ∷ get_or s (at + 1) 0 ∷ [])) ≡ found_at s at
  whole_at h k =
      let n = length-drop at s in
      let z = size_at_lem h in
      let w : whole (drop at s) ≡ true =
      ap₂ ◌&&◌ (le-leb 4 (length (drop at s)) (omega arith)) (le-leb (4 + size_in (drop at s)) (length (drop at s)) (omega arith)) in
      sym (found_by true w ∙ ap₂ (λ (x y : ℕ). Whole x (at + 4) (at + 4 + y)) (kind_at_lem h) (body_size (drop at s) w ∙ size_at_lem h))
