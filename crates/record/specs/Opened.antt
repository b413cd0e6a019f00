-- What finding a record at an offset tells of the file from there on.
use Rattle.std.specs.Prelude.{ℕ, ◌+◌, ◌-◌, ◌≤◌, ◌<◌, ◌≡◌, refl, Bool, true, false, ◌&&◌, List, [], ◌∷◌, leb, length, take, drop}
use Rattle.std.proofs.Math.Nat.{add-sub_cancel_left}
use Rattle.std.proofs.Common.{arith, sym, ap, ap₂, subst, ◌∙◌, length-drop, drop_of_length-le, length-take-le, drop-drop, leb-true, leb-false}
use Rattle.record.specs.Record.{Record, Split, ended, cut_short, joined, whole, front, behind, size_in, kind_in, records_in}
use Rattle.record.specs.Found.{found_first, found_in, found_at}
use Rattle.record.specs.Fuel.{records_none, records_open}
use Rattle.record.specs.declared.Found.TheVariants.{End, Cut, Whole}

-- a file that goes on is its first record and what is behind it
pub goes_on : (l : List ℕ) → 0 < length l → records_in l ≡ joined (whole l) (front l) (records_in (behind l))
goes_on [] h = absurd (omega arith)
goes_on (b ∷ l) h = records_open b l

-- at the end nothing is found
pub past_end : (s : List ℕ) (at : ℕ) → length s ≤ at → records_in (drop at s) ≡ ended
past_end s at h = ap records_in (drop_of_length-le s h) ∙ records_none

pub both_true : (a b : Bool) → a && b ≡ true → (a ≡ true) × (b ≡ true)
both_true true b e = (refl, e)
both_true false b e = let z : true ≡ false = sym e in (e, cc)

-- the lengths that a whole record in front shows
pub whole_size : (l : List ℕ) → whole l ≡ true → (4 ≤ length l) × (4 + size_in l ≤ length l)
whole_size l e =
    let t = both_true (leb 4 (length l)) (leb (4 + size_in l) (length l)) e in
    (leb-true _ _ t.0, leb-true _ _ t.1)

-- the body is as long as its header states
pub body_size : (l : List ℕ) → whole l ≡ true → length (front l).body ≡ size_in l
body_size l e =
    let w = whole_size l e in
    length-take-le (size_in l) (drop 4 l) (omega (arith, length-drop 4 l))

-- nothing found: the file ends here; less than a record: it is cut short here
pub found_end : (at : ℕ) (x : Split) → found_in at x ≡ End → x ≡ ended
found_end at x e = go x.records x.cut e
  where
    go : (rs : List Record) (c : Bool) → found_first at rs c ≡ End → ◌≡◌ {A = Split} (record { records = rs; cut = c }) ended
    go [] false e = refl
    go [] true e = let z : ◌≡◌ {A = ℕ} 0 1 = cc in absurd (omega arith)
    go (r ∷ rs) c e = let z : ◌≡◌ {A = ℕ} 0 1 = cc in absurd (omega arith)

pub found_cut : (at : ℕ) (x : Split) → found_in at x ≡ Cut → x ≡ cut_short
found_cut at x e = go x.records x.cut e
  where
    go : (rs : List Record) (c : Bool) → found_first at rs c ≡ Cut → ◌≡◌ {A = Split} (record { records = rs; cut = c }) cut_short
    go [] true e = refl
    go [] false e = let z : ◌≡◌ {A = ℕ} 0 1 = cc in absurd (omega arith)
    go (r ∷ rs) c e = let z : ◌≡◌ {A = ℕ} 0 1 = cc in absurd (omega arith)

-- a record found: its body is the part of the file from start to end, and the file goes on at the end
pub record Opened (s : List ℕ) (at kind start end : ℕ) : Type 0 where
  pub header : start ≡ at + 4
  pub order : start ≤ end
  pub within : end ≤ length s
  pub rest : records_in (drop at s) ≡ joined true (record { kind = kind; body = take (end - start) (drop start s) }) (records_in (drop end s))

module _ (s : List ℕ) (at : ℕ) (more : at < length s) where
  left : length (drop at s) ≡ length s - at
  left = length-drop at s

  -- by offsets: the body of a whole record in front, and what is behind it
  apart : whole (drop at s) ≡ true → Opened s at (kind_in (drop at s)) (at + 4) (at + 4 + length (front (drop at s)).body)
  apart e =
      let l = drop at s in
      let n = length (front l).body in
      let size : n ≡ size_in l = body_size l e in
      let w = whole_size l e in
      let far : at + 4 + n ≡ at + (4 + size_in l) = omega arith in
      let body : take (at + 4 + n - (at + 4)) (drop (at + 4) s) ≡ (front l).body =
      ap (λ (k : ℕ). take k (drop (at + 4) s)) (add-sub_cancel_left (at + 4) n ∙ size) ∙ ap (take (size_in l)) (sym (drop-drop 4 at s)) in
      let next : drop (at + 4 + n) s ≡ behind l = ap (λ (k : ℕ). drop k s) far ∙ sym (drop-drop (4 + size_in l) at s) in
      record {
        header = refl;
        order = omega arith;
        within = omega (arith, left);
        rest = goes_on l (omega (arith, left)) ∙ ap (λ (t : Bool). joined t (front l) (records_in (behind l))) e
            ∙ ap₂ (λ (b t : List ℕ). joined true (record { kind = kind_in l; body = b }) (records_in t)) (sym body) (sym next);
      }

  found_apart : (w : Bool) → whole (drop at s) ≡ w → (k a e : ℕ)
      → found_in at (joined w (front (drop at s)) (records_in (behind (drop at s)))) ≡ Whole k a e → Opened s at k a e
  found_apart false p k a e q = let z : ◌≡◌ {A = ℕ} 0 1 = cc in absurd (omega arith)
  found_apart true p k a e q =
      let kind : kind_in (drop at s) ≡ k = cc in
      let start : at + 4 ≡ a = cc in
      let end : at + 4 + length (front (drop at s)).body ≡ e = cc in
      subst (λ (x : ℕ). Opened s at x a e) kind
      (subst (λ (x : ℕ). Opened s at (kind_in (drop at s)) x e) start
      (subst (λ (x : ℕ). Opened s at (kind_in (drop at s)) (at + 4) x) end (apart p)))

pub opened : (s : List ℕ) (at k a e : ℕ) → found_at s at ≡ Whole k a e → Opened s at k a e
opened s at k a e q = go (leb (length s) at) refl
  where
    go : (b : Bool) → leb (length s) at ≡ b → Opened s at k a e
    go true h =
        let z : found_in at ended ≡ Whole k a e = ap (found_in at) (sym (past_end s at (leb-true _ _ h))) ∙ q in
        let y : ◌≡◌ {A = ℕ} 0 1 = cc in
        absurd (omega arith)
    go false h =
        let more : at < length s = leb-false _ _ h in
        found_apart s at more (whole (drop at s)) refl k a e (ap (found_in at) (sym (goes_on (drop at s) (omega (arith, length-drop at s)))) ∙ q)
