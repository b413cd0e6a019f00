-- One record judged, and those that are left behind it.
use Rattle.std.specs.Prelude.{Result, Ok, Err}
use Prim.Native.Nat.{ℕ, ◌+◌, ◌≤◌, ◌<◌}
use native.Mathlib.Omega.{arith}
use mathlib.Core.Path.{◌≡◌, sym, ap, subst, ◌∙◌}
use mathlib.Core.List.{List, [], ◌∷◌, ◌++◌}
use native.Mathlib.Numerals.{add-one}
use lib.ListN.{length, drop, get_or, length-append, drop_of_length-le}
use lib.Seq.{drop-cons}
use Rattle.endian.specs.Little.{bytes}
use Rattle.record.specs.Parts.{of_kind}
use Rattle.floor.specs.Numbers.{word_records}
use Rattle.record.specs.Record.{Record, encoded, layout}
use Rattle.record.specs.RoundTrip.{length-encoded}
use Rattle.floor.specs.Floor.{Walked, judged, onward, walk}
use Rattle.record.specs.Laid.{layout_append}
use Rattle.floor.specs.Walk.{walk_append, walk_offset}
use Rattle.floor.specs.Walked.{refused_at, walk_on}
use Rattle.floor.specs.declared.Floor.{Floor}
use Rattle.refusal.specs.declared.Refusal.{Refusal}

-- a record that is counted, and one that is refused
pub went_on : (j : Result Floor ℕ) (at : ℕ) (next : Floor → Walked) (g : Floor) → refused_at at j ≡ Ok g → onward j at next ≡ next g
went_on (Ok h) at next g e = ap next cc
went_on (Err n) at next g e = cc

pub stopped : (j : Result Floor ℕ) (at : ℕ) (next : Floor → Walked) (r : Refusal) → refused_at at j ≡ Err r → onward j at next ≡ Err r
stopped (Ok h) at next r e = cc
stopped (Err n) at next r e = cc

-- what holds of the records of words from the i-th on, of that one's and those behind it; and of none where no words are left
pub first_word : (P : List Record → Type 0) (k : ℕ) (ms : List ℕ) (i : ℕ) → i < length ms → P (word_records k (drop i ms))
    → P (of_kind k (bytes 4 (get_or ms i 0)) ∷ word_records k (drop (i + 1) ms))
first_word P k ms i h w =
    subst (λ (l : List ℕ). P (word_records k l)) (drop-cons ms i 0 h ∙ ap (λ (j : ℕ). get_or ms i 0 ∷ drop j ms) (sym (add-one i))) w

pub no_word : (P : List Record → Type 0) (k : ℕ) (ms : List ℕ) (i : ℕ) → length ms ≤ i → P (word_records k (drop i ms)) → P []
no_word P k ms i h w = subst (λ (l : List ℕ). P (word_records k l)) (drop_of_length-le ms h) w

-- where records that are left would be laid out, ending below a file's greatest length, and judged to the same end as all were to be
pub record Left (all : Walked) (f : Floor) (at : ℕ) (left : List Record) : Type 0 where
  pub short : at + length (layout left) ≤ 65536
  pub same : walk f at left ≡ all

pub none_left : (all : Walked) (f : Floor) (at : ℕ) → Left all f at [] → Ok (f, at) ≡ all
unfolding walk
none_left all f at w = w.same

module _ (all : Walked) (f : Floor) (at : ℕ) (r : Record) (left : List Record) (w : Left all f at (r ∷ left)) where
  behind : at + (4 + length r.body) + length (layout left) ≤ 65536
  unfolding layout
  behind = omega (arith, w.short, length-append (encoded r) (layout left), length-encoded r)

  pub stays : at + (4 + length r.body) ≤ 65536
  stays = let b = behind in omega arith

  pub left_good : (g : Floor) (next : ℕ) → next ≡ at + (4 + length r.body) → refused_at at (judged f r.kind r.body) ≡ Ok g → Left all g next left
  unfolding walk
  left_good g next n q =
      let b = behind in
      let far : next ≡ at + 4 + length r.body = omega arith in
      record {
        short = omega arith;
        same = ap (λ (x : ℕ). walk g x left) far ∙ sym (went_on _ at _ g q) ∙ w.same;
      }

  pub left_fault : (e : Refusal) → refused_at at (judged f r.kind r.body) ≡ Err e → Err e ≡ all
  unfolding walk
  left_fault e q = sym (stopped _ at _ e q) ∙ w.same

-- records of some kind that stand in front of the others
module _ (all : Walked) (f : Floor) (at : ℕ) (rs left : List Record) (w : Left all f at (rs ++ left)) where
  length-both : length (layout (rs ++ left)) ≡ length (layout rs) + length (layout left)
  length-both = ap length (layout_append rs left) ∙ length-append (layout rs) (layout left)

  pub all_stay : at + length (layout rs) ≤ 65536
  all_stay = omega (arith, w.short, length-both)

  pub all_good : (g : Floor) (next : ℕ) → walk f at rs ≡ Ok (g, next) → Left all g next left
  all_good g next q =
      record {
        short = omega (arith, w.short, length-both, walk_offset rs f at g next q);
        same = sym (walk_append f at rs left ∙ ap (λ (x : Walked). walk_on x left) q) ∙ w.same;
      }

  pub all_fault : (e : Refusal) → walk f at rs ≡ Err e → Err e ≡ all
  all_fault e q = sym (walk_append f at rs left ∙ ap (λ (x : Walked). walk_on x left) q) ∙ w.same
