-- One record after the other: what reading from an offset on comes to, by what is found there.
use Rattle.std.specs.Prelude.{Result, Ok, Err}
use Prim.Native.Nat.{ℕ, ◌+◌, ◌-◌, ◌≤◌, ◌<◌}
use native.Mathlib.Omega.{arith}
use mathlib.Core.Path.{◌≡◌, refl, sym, ap, ◌∙◌}
use mathlib.Core.Bool.{Bool, false, cond}
use mathlib.Core.List.{List}
use lib.ListN.{length, take, drop, length-drop}
use lib.Seq.{length-take-le}
use borrow.Author.Tests.{lt-ltb, le-ltb}
use Rattle.refusal.specs.Codes.{at_offset}
use Rattle.record.specs.Record.{records_in}
use Rattle.record.specs.Found.{found_at}
use Rattle.record.specs.Opened.{opened, found_end, found_cut}
use Rattle.record.specs.declared.Found.TheVariants.{End, Cut, Whole}
use Rattle.floor.specs.Floor.{Walked, judged, onward, walk, at_end, read_on, empty_floor, read_floor}
use Rattle.floor.specs.Walked.{refused_at}
use Rattle.floor.proofs.Onward.{went_on, stopped}
use Rattle.floor.specs.declared.Floor.{Floor}
use Rattle.refusal.specs.declared.Refusal.{Refusal}

-- a floor whose numbers are all 0
pub none_counted : (f : Floor) → (f.places ≡ 0) × ((f.lanes ≡ 0) × ((f.carts ≡ 0) × ((f.narrow ≡ 0) × (f.groups ≡ 0)))) → f ≡ empty_floor
none_counted f (p, (l, (c, (n, g)))) = λ i. record { places = p i; lanes = l i; carts = c i; narrow = n i; groups = g i }

pub too_long : (s : List ℕ) → 65536 < length s → Err (at_offset 1 0) ≡ read_floor s
unfolding read_floor
too_long s h = simp (lt-ltb _ _ h)

pub begins : (s : List ℕ) → length s ≤ 65536 → read_on empty_floor 0 (records_in (drop 0 s)) ≡ read_floor s
unfolding read_floor
begins s h = sym (ap (λ (b : Bool). cond b (Err (at_offset 1 0)) (read_on empty_floor 0 (records_in s))) (le-ltb 65536 (length s) h))

module _ (s : List ℕ) (f : Floor) (at : ℕ) where
  pub at_end_lem : found_at s at ≡ End → read_on f at (records_in (drop at s)) ≡ at_end (Ok (f, at)) false
  unfolding walk
  at_end_lem e = ap (read_on f at) (found_end at (records_in (drop at s)) e)

  pub at_cut : found_at s at ≡ Cut → read_on f at (records_in (drop at s)) ≡ Err (at_offset 2 at)
  unfolding walk
  at_cut e = ap (read_on f at) (found_cut at (records_in (drop at s)) e)

  module _ (k a e : ℕ) (found : found_at s at ≡ Whole k a e) where
    abbrev body : List ℕ
    body = take (e - a) (drop a s)

    -- by how the record is judged
    by : (j : Result Floor ℕ) → judged f k body ≡ j
        → read_on f at (records_in (drop at s)) ≡ at_end (onward j at (λ g. walk g (at + 4 + length body) (records_in (drop e s)).records))
        (records_in (drop e s)).cut
    unfolding walk
    by j q =
        ap (read_on f at) (opened s at k a e found).rest
        ∙ ap (λ (j : Result Floor ℕ). at_end (onward j at (λ g. walk g (at + 4 + length body) (records_in (drop e s)).records)) (records_in (drop e s)).cut) q

    pub at_fault : (r : Refusal) → refused_at at (judged f k body) ≡ Err r → read_on f at (records_in (drop at s)) ≡ Err r
    at_fault r q = by (judged f k body) refl ∙ ap (λ (w : Walked). at_end w (records_in (drop e s)).cut) (stopped _ at _ r q)

    pub at_good : (g : Floor) → refused_at at (judged f k body) ≡ Ok g → read_on f at (records_in (drop at s)) ≡ read_on g e (records_in (drop e s))
    at_good g q =
        let o = opened s at k a e found in
        let n : length body ≡ e - a = length-take-le (e - a) (drop a s) (omega (arith, length-drop a s, o.within)) in
        let h = o.header in
        let r = o.order in
        let m : at + 4 + length body ≡ e = omega arith in
        by (judged f k body) refl ∙ ap (λ (w : Walked). at_end w (records_in (drop e s)).cut) (went_on _ at _ g q)
        ∙ ap (λ (x : ℕ). at_end (walk g x (records_in (drop e s)).records) (records_in (drop e s)).cut) m
