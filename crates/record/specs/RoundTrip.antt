-- Laid-out records are found again, and a file that is not cut short is its records laid out.
use Rattle.std.specs.Prelude.{ℕ, zero, suc, ◌+◌, ◌≤◌, ◌<◌, ◌≡◌, Bool, true, false, length}
use Rattle.std.proofs.Common.{arith, ◌∙◌, length-append, length-drop, drop-drop, length-take-le, le-leb}
use Rattle.std.proofs.Math.Path.{refl, sym, ap, ap₂}
use mathlib.Core.List.{List, [], ◌∷◌, ◌++◌, append_assoc}
use Rattle.std.proofs.Math.ListN.{take, drop, take-append-drop}
use Rattle.std.proofs.Math.Seq.{take-append_seam, drop-append_seam}
use Rattle.endian.specs.Little.{bytes, value, Bytes}
use Rattle.endian.specs.RoundTrip.{value-bytes, bytes-value, bytes_take, bytes_drop}
use Rattle.record.specs.Record.{Record, Split, cut_short, joined, encoded, layout, whole, front, behind, size_in, kind_in, split, records_in}
use Rattle.record.specs.Fuel.{records_none, records_open}
use Rattle.record.specs.Opened.{goes_on, whole_size, body_size}

-- a record whose kind and body length fit in two bytes each
pub record Encodable (r : Record) : Type 0 where
  pub kind : r.kind < 65536
  pub size : length r.body < 65536

abbrev pub AllEncodable : List Record → Type 0
AllEncodable [] = Unit {0}
AllEncodable (r ∷ rs) = Encodable r × AllEncodable rs

pub encodable_append : (rs ts : List Record) → AllEncodable rs → AllEncodable ts → AllEncodable (rs ++ ts)
encodable_append [] ts h k = k
encodable_append (r ∷ rs) ts h k = (h.0, encodable_append rs ts h.1 k)

-- a laid-out record in front of anything
pub length-encoded : (r : Record) → length (encoded r) ≡ 4 + length r.body
unfolding encoded bytes
length-encoded r = omega arith

module _ (r : Record) (t : List ℕ) (e : Encodable r) where
  size : size_in (encoded r ++ t) ≡ length r.body
  unfolding encoded bytes
  size = value-bytes 2 (length r.body) e.size

  kind : kind_in (encoded r ++ t) ≡ r.kind
  unfolding encoded bytes
  kind = value-bytes 2 r.kind e.kind

  four : drop 4 (encoded r ++ t) ≡ r.body ++ t
  unfolding encoded bytes
  four = refl

  there : whole (encoded r ++ t) ≡ true
  there =
      let n = length-append (encoded r) t in
      let m = length-encoded r in
      let z = size in
      rw (le-leb 4 (length (encoded r ++ t)) (omega arith), le-leb (4 + size_in (encoded r ++ t)) (length (encoded r ++ t)) (omega arith))

  pub apart : records_in (encoded r ++ t) ≡ joined true r (records_in t)
  apart =
      let l = encoded r ++ t in
      let body : take (size_in l) (drop 4 l) ≡ r.body = ap₂ take size four ∙ take-append_seam r.body t in
      let next : behind l ≡ t = sym (drop-drop (size_in l) 4 l) ∙ ap₂ drop size four ∙ drop-append_seam r.body t in
      goes_on l (omega (arith, length-append (encoded r) t, length-encoded r))
      ∙ ap (λ (b : Bool). joined b (front l) (records_in (behind l))) there
      ∙ ap (λ (x : List ℕ). joined true (front l) (records_in x)) next
      ∙ ap₂ (λ (k : ℕ) (b : List ℕ). joined true (record { kind = k; body = b }) (records_in t)) kind body

-- what is laid out is found again
pub records-layout : (rs : List Record) → AllEncodable rs → records_in (layout rs) ≡ record { records = rs; cut = false }
unfolding layout
records-layout [] h = records_none
records-layout (r ∷ rs) h = apart r (layout rs) h.0 ∙ ap (joined true r) (records-layout rs h.1)

-- a whole record in front, laid out again
module _ (l : List ℕ) (w : whole l ≡ true) (b : Bytes l) where
  header_bytes : (k : ℕ) → k + 2 ≤ length l → bytes 2 (value (take 2 (drop k l))) ≡ take 2 (drop k l)
  header_bytes k h =
      let n : length (take 2 (drop k l)) ≡ 2 = length-take-le 2 (drop k l) (omega (arith, length-drop k l)) in
      ap (λ (m : ℕ). bytes m (value (take 2 (drop k l)))) (sym n)
      ∙ bytes-value (take 2 (drop k l)) (bytes_take 2 (drop k l) (bytes_drop k l b))

  pub front-encoded : encoded (front l) ++ behind l ≡ l
  unfolding encoded bytes value
  front-encoded =
      let s = whole_size l w in
      let n = size_in l in
      let size : bytes 2 (length (front l).body) ≡ take 2 l = ap (bytes 2) (body_size l w) ∙ header_bytes 0 (omega arith) in
      let kind : bytes 2 (kind_in l) ≡ take 2 (drop 2 l) = header_bytes 2 (omega arith) in
      ap₂ (λ (x y : List ℕ). (x ++ (y ++ take n (drop 4 l))) ++ drop (4 + n) l) size kind
      ∙ append_assoc (take 2 l) (take 2 (drop 2 l) ++ take n (drop 4 l)) (drop (4 + n) l)
      ∙ ap (λ (x : List ℕ). take 2 l ++ x) (append_assoc (take 2 (drop 2 l)) (take n (drop 4 l)) (drop (4 + n) l)
      ∙ ap (λ (x : List ℕ). take 2 (drop 2 l) ++ (take n (drop 4 l) ++ x)) (sym (drop-drop n 4 l))
      ∙ ap (λ (x : List ℕ). take 2 (drop 2 l) ++ x) (take-append-drop n (drop 4 l) ∙ sym (drop-drop 2 2 l))
      ∙ take-append-drop 2 (drop 2 l))
      ∙ take-append-drop 2 l

layout_up_to : (n : ℕ) (l : List ℕ) → length l ≤ n → Bytes l → (records_in l).cut ≡ false → layout (records_in l).records ≡ l
unfolding layout
layout_up_to zero [] h b e = ap (λ (x : Split). layout x.records) records_none
layout_up_to (suc n) [] h b e = ap (λ (x : Split). layout x.records) records_none
layout_up_to zero (c ∷ l) h b e = absurd (omega arith)
layout_up_to (suc n) (c ∷ l) h b e =
    go (whole (c ∷ l)) refl
    (layout_up_to n (behind (c ∷ l)) (omega (arith, length-drop (4 + size_in (c ∷ l)) (c ∷ l))) (bytes_drop (4 + size_in (c ∷ l)) (c ∷ l) b))
  where
    go : (w : Bool) → whole (c ∷ l) ≡ w
        → ((records_in (behind (c ∷ l))).cut ≡ false → layout (records_in (behind (c ∷ l))).records ≡ behind (c ∷ l))
        → layout (records_in (c ∷ l)).records ≡ c ∷ l
    go false w f =
        let o : records_in (c ∷ l) ≡ cut_short = records_open c l ∙ ap (λ (t : Bool). joined t (front (c ∷ l)) (records_in (behind (c ∷ l)))) w in
        let z : true ≡ false = sym (ap (λ (x : Split). x.cut) o) ∙ e in
        let y : ◌≡◌ {A = ℕ} 0 1 = cc in
        absurd (omega arith)
    go true w f =
        let o : records_in (c ∷ l) ≡ joined true (front (c ∷ l)) (records_in (behind (c ∷ l))) =
        records_open c l ∙ ap (λ (t : Bool). joined t (front (c ∷ l)) (records_in (behind (c ∷ l)))) w in
        ap (λ (x : Split). layout x.records) o
        ∙ ap (λ (t : List ℕ). encoded (front (c ∷ l)) ++ t) (f (sym (ap (λ (x : Split). x.cut) o) ∙ e))
        ∙ front-encoded (c ∷ l) w b

-- a file that is not cut short is its records laid out
pub layout-records : (l : List ℕ) → Bytes l → (records_in l).cut ≡ false → layout (records_in l).records ≡ l
layout-records l b e = layout_up_to (length l) l (omega arith) b e

-- the bodies of a file's records are bytes
abbrev pub AllBytes : List Record → Type 0
AllBytes [] = Unit {0}
AllBytes (r ∷ rs) = Bytes r.body × AllBytes rs

bytes_up_to : (n : ℕ) (l : List ℕ) → Bytes l → AllBytes (split n l).records
unfolding split
bytes_up_to zero l b = tt
bytes_up_to (suc n) [] b = tt
bytes_up_to (suc n) (c ∷ l) b = go (whole (c ∷ l)) (bytes_up_to n (behind (c ∷ l)) (bytes_drop (4 + size_in (c ∷ l)) (c ∷ l) b))
  where
    go : (w : Bool) → AllBytes (split n (behind (c ∷ l))).records → AllBytes (joined w (front (c ∷ l)) (split n (behind (c ∷ l)))).records
    go true h = (bytes_take (size_in (c ∷ l)) (drop 4 (c ∷ l)) (bytes_drop 4 (c ∷ l) b), h)
    go false h = tt

pub records_bytes : (l : List ℕ) → Bytes l → AllBytes (records_in l).records
unfolding records_in
records_bytes l b = bytes_up_to (length l) l b
