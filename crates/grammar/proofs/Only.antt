-- The laws leave one answer: what meets them is what the reader answers, so that no wrong reader meets every law.
use Rattle.std.specs.Prelude.{ℕ, zero, suc, ◌+◌, ◌-◌, ◌≤◌, ◌<◌, ◌≡◌, refl, ◌⊎◌, Bool, List, [], ◌∷◌, ◌++◌, length, take, drop, get_or}
use Rattle.std.proofs.Common.{ap, subst, sym, ◌∙◌, inl, inr, ⊎_elim, arith, length-drop, length-append, drop-cons, get_or-drop, get_or-append-add}
use Rattle.grammar.specs.Grammar.{Spaces, none, space, Digits, end, digit, Number, nought, other, Percent, without, sign, Clause, Sheet, done}
use Rattle.grammar.specs.Limits.{Ranged}
use Rattle.grammar.specs.Begun.{Begun, begun}
use Rattle.grammar.specs.Reader.{Read, accepted, refused, read_sheet}
use Rattle.grammar.specs.Answers.{InSheet, RefusedBy, BeginsInRange, Large, OutOfRange}
use Rattle.grammar.proofs.Each.{digits_length, is_digit_lem}
use Rattle.grammar.proofs.Tracks.{Quiet, quiet_digit}
use Rattle.grammar.proofs.First.{token_loud, take_then, never_begins, begun_on}
use Rattle.grammar.specs.Promises.{Lawful}
use Rattle.grammar.proofs.Promised.{promises}

---- The bytes of a number and its `%`, and the byte before it.
abbrev Body : ℕ → Type 0
Body b = ((48 ≤ b) × (b ≤ 57)) ⊎ (b ≡ 37)

body_quiet : (b : ℕ) → Body b → Quiet b
body_quiet b (inl h) = quiet_digit b (is_digit_lem b h.0 h.1)
body_quiet b (inr e) = subst Quiet (sym e) (record { node = refl; level = refl; same = λ x. refl })

-- every byte of s down to u
abbrev Within : List ℕ → List ℕ → Type 0
Within s u = (j : ℕ) → j < length s - length u → Body (get_or s j 0)

within_cons : (b : ℕ) (s u : List ℕ) → length u ≤ length s → Body b → Within s u → Within (b ∷ s) u
within_cons b s u h x f zero i = x
within_cons b s u h x f (suc j) i = f j (omega arith)

digits_within : {v n : ℕ} {s t : List ℕ} (u : List ℕ) → length u ≤ length t → Digits v s t n → Within t u → Within s u
digits_within u h end f = f
digits_within u h (digit {b = b} {s = s} i k y) f = let l = digits_length y in within_cons b s u (omega arith) (inl (i, k)) (digits_within u h y f)

number_within : {n : ℕ} {s t : List ℕ} (u : List ℕ) → length u ≤ length t → Number s t n → Within t u → Within s u
number_within {t = t} u h nought f = within_cons 48 t u h (inl (omega arith, omega arith)) f
number_within u h (other {b = b} {s = s} i k y) f =
    let l = digits_length y in within_cons b s u (omega arith) (inl (omega arith, k)) (digits_within u h y f)

percent_within : {p : Bool} {s u : List ℕ} → Percent s u p → Within s u
percent_within without j h = absurd (omega arith)
percent_within sign zero h = inr refl
percent_within sign (suc j) h = absurd (omega arith)

percent_length : {p : Bool} {s u : List ℕ} → Percent s u p → length u ≤ length s
percent_length without = omega arith
percent_length sign = omega arith

number_length : {n : ℕ} {s t : List ℕ} → Number s t n → length t < length s
number_length nought = omega arith
number_length (other h k y) = let l = digits_length y in omega arith

large_within : {q r u : List ℕ} → Large q r u → Within r u
large_within {u = u} (Large.mark y h) = number_within u (omega arith) y.number (λ j i. absurd (omega arith))
large_within {u = u} (Large.count c y z h) = number_within u (percent_length z.percent) y.number (percent_within z.percent)

large_length : {q r u : List ℕ} → Large q r u → length u < length r
large_length (Large.mark y h) = number_length y.number
large_length (Large.count c y z h) = let i = number_length y.number in let j = percent_length z.percent in omega arith

-- the byte before is an m, a comma or a space
record Before (q r : List ℕ) : Type 0 where
  ahead : List ℕ
  byte : ℕ
  split : q ≡ ahead ++ (byte ∷ r)
  apart : Body byte → ⊥

spaces_before : {q r : List ℕ} (c : ℕ) → (Body c → ⊥) → Spaces q r → Before (c ∷ q) r
spaces_before c f none = record { ahead = []; byte = c; split = refl; apart = f }
spaces_before c f (space y) =
    let z = spaces_before 32 (⊎_elim (λ h. omega (arith, h.0)) (λ h. omega arith)) y in
    record { ahead = c ∷ z.ahead; byte = z.byte; split = ap (λ (l : List ℕ). c ∷ l) z.split; apart = z.apart }

large_before : {q r u : List ℕ} → Large q r u → Before q r
large_before (Large.mark {r = r} y h) = record { ahead = []; byte = 109; split = refl; apart = ⊎_elim (λ h. omega (arith, h.1)) (λ h. omega arith) }
large_before (Large.count c y z h) = spaces_before 44 (⊎_elim (λ h. omega (arith, h.0)) (λ h. omega arith)) c

le_or : (m n : ℕ) → (m ≤ n) ⊎ (n < m)
le_or zero n = inl (omega arith)
le_or (suc m) zero = inr (omega arith)
le_or (suc m) (suc n) = ⊎_elim (λ h. inl (omega arith)) (λ h. inr (omega arith)) (le_or m n)

nil_sheet : (s : List ℕ) → length s ≡ 0 → Sheet s []
nil_sheet [] h = done
nil_sheet (b ∷ s) h = absurd (omega arith)

---- Two answers to one sheet.
module _ (s : List ℕ) where
  ranged_never : (m n : ℕ) → (n < length s → m ≤ n) → ((t : List ℕ) (cs : List Clause) (d : Sheet (take m s ++ t) cs) → Ranged d → ⊥)
      → BeginsInRange (take n s) → ⊥
  ranged_never m n h f b =
      let z = take_then m n s b.0 h in
      let y = subst (λ (l : List ℕ). (d : Sheet l b.1) × Ranged d) z.1 (b.2, b.3) in
      f z.0 b.1 y.0 y.1

  -- a number out of range: its offsets and its bytes
  number_in : {k : ℕ} (o : OutOfRange s k) → (k < length s) × (k < o.last)
  number_in {k} o =
      let h : length s - o.last < length s - k = simp length-drop at (large_length o.number) in
      (omega arith, omega arith)

  number_body : {k : ℕ} (o : OutOfRange s k) (j : ℕ) → k ≤ j → j < o.last → j < length s → Body (get_or s j 0)
  number_body {k} o j h i l =
      let e : k + (j - k) ≡ j = omega arith in
      let g = get_or-drop k s (j - k) 0 ∙ ap (λ (n : ℕ). get_or s n 0) e in
      subst Body g (large_within o.number (j - k) (omega (arith, length-drop k s, length-drop o.last s)))

  number_before : {k : ℕ} (o : OutOfRange s k) → (0 < k) × (Body (get_or s (k - 1) 0) → ⊥)
  number_before {k} o =
      let b = large_before o.number in
      let n = number_in o in
      let m = length-append b.ahead (b.byte ∷ drop k s) in
      let l = ap length b.split in
      let h : k ≡ suc (o.from + length b.ahead) = omega (arith, length-drop o.from s, length-drop k s, n.0) in
      let i : ℕ = length b.ahead + 0 in
      let e : k - 1 ≡ o.from + i = omega arith in
      let g : get_or s (k - 1) 0 ≡ b.byte =
      ap (λ (n : ℕ). get_or s n 0) e ∙ sym (get_or-drop o.from s i 0) ∙ ap (λ (l : List ℕ). get_or l i 0) b.split
      ∙ get_or-append-add b.ahead (b.byte ∷ drop k s) 0 0 in
      (omega arith, λ x. b.apart (subst Body g x))

  -- none stands within a number out of range
  in_number : (w k w' k' : ℕ) → InSheet w' → w ≡ 15 → Lawful s (refused w k) → Lawful s (refused w' k') → k < k'
      → (o : OutOfRange s k) → k' < o.last → k' < length s → ⊥
  in_number w k w' k' (inl e') e a b h o i l =
      never_begins (suc k') o.last s i ((b.stuck_13 k' (ap (λ (n : ℕ). refused n k') e')).0 l) o.begins
  in_number w k w' k' (inr (inl e')) e a b h o i l =
      let q : (j : ℕ) → j < k' - k → Quiet (get_or s (k + j) 0) =
      λ j v. body_quiet (get_or s (k + j) 0) (number_body o (k + j) (omega arith) (omega arith) (omega arith)) in
      let d : k + (k' - k) ≡ k' = omega arith in
      let g : begun s k' ≡ begun s k = ap (begun s) (sym d) ∙ begun_on s k (k' - k) q in
      ⊎_elim
      (λ v. let x = a.first_14 w k k (inr (inr e)) refl (omega arith) (inl (omega arith, ap (λ (y : Begun). y.lines) (sym g) ∙ v.1)) in omega (arith, x.0))
      (λ v. token_loud v.0.token (drop-cons s k' 0 l) (body_quiet (get_or s k' 0) (number_body o k' (omega arith) i l)))
      (b.past_14 k' (ap (λ (n : ℕ). refused n k') e'))
  in_number w k w' k' (inr (inr e')) e a b h o i l =
      (number_before (b.number_15 k' (ap (λ (n : ℕ). refused n k') e'))).1 (number_body o (k' - 1) (omega arith) (omega arith) (omega arith))

  -- an answer is no later than another
  no_later : (w k w' k' : ℕ) → InSheet w → InSheet w' → Lawful s (refused w k) → Lawful s (refused w' k') → k < k' → ⊥
  no_later w k w' k' (inl e) c' a b h =
      let x = b.before w' k' c' refl in
      never_begins (suc k) k' s h ((a.stuck_13 k (ap (λ (n : ℕ). refused n k) e)).0 (omega (arith, x.0))) (x.1.0, x.1.1, x.1.2)
  no_later w k w' k' (inr (inl e)) c' a b h =
      let x = b.first_14 w' k' k c' refl (omega arith) (a.past_14 k (ap (λ (n : ℕ). refused n k) e)) in
      omega (arith, x.1)
  no_later w k w' k' (inr (inr e)) c' a b h =
      let o = a.number_15 k (ap (λ (n : ℕ). refused n k) e) in
      let x = b.before w' k' c' refl in
      ⊎_elim (λ i. ranged_never o.last k' (λ z. i) o.wide x.1)
      (λ i. ⊎_elim (λ z. ranged_never o.last k' (λ v. absurd (omega arith)) o.wide x.1)
      (λ z. in_number w k w' k' c' e a b h o i z) (le_or (length s) k'))
      (le_or o.last k')

  -- at one offset
  apart : {w w' : ℕ} (k : ℕ) → Lawful s (refused w k) → Lawful s (refused w' k) → w ≡ 13 → w' ≡ 15 → ⊥
  apart k a b e e' =
      let o = b.number_15 k (ap (λ (n : ℕ). refused n k) e') in
      let h = number_in o in
      never_begins (suc k) o.last s (omega (arith, h.1)) ((a.stuck_13 k (ap (λ (n : ℕ). refused n k) e)).0 h.0) o.begins

  same_number : (w w' k : ℕ) → InSheet w → InSheet w' → Lawful s (refused w k) → Lawful s (refused w' k) → w ≡ w'
  same_number w w' k (inl e) (inl e') a b = e ∙ sym e'
  same_number w w' k (inl e) (inr (inl e')) a b =
      (a.first_14 w k k (inl e) refl (omega arith) (b.past_14 k (ap (λ (n : ℕ). refused n k) e'))).0 ∙ sym e'
  same_number w w' k (inl e) (inr (inr e')) a b = absurd (apart k a b e e')
  same_number w w' k (inr (inl e)) c' a b =
      e ∙ sym (b.first_14 w' k k c' refl (omega arith) (a.past_14 k (ap (λ (n : ℕ). refused n k) e))).0
  same_number w w' k (inr (inr e)) (inl e') a b = absurd (apart k b a e' e)
  same_number w w' k (inr (inr e)) (inr (inl e')) a b =
      (a.first_14 w k k (inr (inr e)) refl (omega arith) (b.past_14 k (ap (λ (n : ℕ). refused n k) e'))).0 ∙ sym e'
  same_number w w' k (inr (inr e)) (inr (inr e')) a b = e ∙ sym e'

  in_sheet : (w k w' k' : ℕ) → InSheet w → InSheet w' → Lawful s (refused w k) → Lawful s (refused w' k') → refused w k ≡ refused w' k'
  in_sheet w k w' k' c c' a b =
      let h = no_later w k w' k' c c' a b in
      let i = no_later w' k' w k c' c b a in
      let e : k ≡ k' = omega arith in
      let f : w ≡ w' = same_number w w' k c c' a (subst (λ (n : ℕ). Lawful s (refused w' n)) (sym e) b) in
      cc

  empty_in : (w k : ℕ) → length s ≡ 0 → InSheet w → Lawful s (refused w k) → ⊥
  empty_in w k h (inl e) a = (a.stuck_13 k (ap (λ (n : ℕ). refused n k) e)).1 [] (nil_sheet s h)
  empty_in w k h (inr (inl e)) a = let x = a.over_14 k (ap (λ (n : ℕ). refused n k) e) in omega (arith, x.0)
  empty_in w k h (inr (inr e)) a = let x = number_in (a.number_15 k (ap (λ (n : ℕ). refused n k) e)) in omega (arith, x.0)

  refusals : (w k w' k' : ℕ) → RefusedBy s w k → RefusedBy s w' k' → Lawful s (refused w k) → Lawful s (refused w' k') → refused w k ≡ refused w' k'
  refusals w k w' k' (inl c) c' a b = let e = b.long_12 c.2 in let f = c.0 in let g = c.1 in cc
  refusals w k w' k' (inr (inl c)) (inl c') a b = let e = a.long_12 c'.2 in let f = c'.0 in let g = c'.1 in cc
  refusals w k w' k' (inr (inl c)) (inr (inl c')) a b = let e = c.0 in let f = c.1 in let g = c'.0 in let h = c'.1 in cc
  refusals w k w' k' (inr (inl c)) (inr (inr c')) a b = absurd (empty_in w' k' c.2 c' b)
  refusals w k w' k' (inr (inr c)) (inl c') a b = let e = a.long_12 c'.2 in let f = c'.0 in let g = c'.1 in cc
  refusals w k w' k' (inr (inr c)) (inr (inl c')) a b = absurd (empty_in w k c'.2 c a)
  refusals w k w' k' (inr (inr c)) (inr (inr c')) a b = in_sheet w k w' k' c c' a b

  both : (a b : Read) → Lawful s a → Lawful s b → a ≡ b
  both (accepted cs) b p q = let x = p.sound cs refl in sym (q.complete cs x.sheet x.fits x.few x.some x.short)
  both (refused w k) (accepted cs) p q = let x = q.sound cs refl in p.complete cs x.sheet x.fits x.few x.some x.short
  both (refused w k) (refused w' k') p q = refusals w k w' k' (p.codes w k refl) (q.codes w' k' refl) p q

pub only : (s : List ℕ) (a : Read) → Lawful s a → a ≡ read_sheet s
only s a p = both s a (read_sheet s) p (promises s)
