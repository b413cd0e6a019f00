-- A clause found from where its line begins and ends, and the bytes of a verdict that picks one.
use Prim.Native.Nat.{ℕ, ◌+◌, ◌-◌, ◌≤◌, ◌<◌}
use native.Mathlib.Omega.{arith}
use mathlib.Core.Path.{◌≡◌, refl, sym, ap, ap₂, ◌∙◌}
use mathlib.Core.Bool.{Bool, true, false, ◌&&◌}
use mathlib.Core.List.{List}
use lib.Dec.{eqb}
use lib.ListN.{length, drop}
use borrow.Author.Tests.{eqb-true, eq-eqb, ne_eqb}
use Rattle.refusal.specs.Codes.{word_at}
use Rattle.clause.specs.Clause.{names_clause, picks, line_start, line_length, empty_span, clause_in}
use Rattle.clause.specs.Lines.{clause_at, no_clause}
use Rattle.clause.specs.declared.Span.{Span}

module _ (k : ℕ) (s : List ℕ) (start end : ℕ) (b : start ≡ line_start k s) (e : end ≡ start + line_length (drop start s)) where
  size : line_length (drop start s) ≡ line_length (drop (line_start k s) s)
  size = ap (λ (i : ℕ). line_length (drop i s)) b

  pub line_ended : end < length s → ◌≡◌ {A = Span} (record { offset = start; length = end - start }) (clause_in k s)
  line_ended h =
      let n = size in
      let m : end - start ≡ line_length (drop (line_start k s) s) = omega arith in
      ap₂ (λ (x y : ℕ). record { offset = x; length = y }) b m ∙ sym (clause_at k s (omega arith))

  pub line_unended : length s ≤ end → empty_span ≡ clause_in k s
  line_unended h = let n = size in sym (no_clause k s (omega arith))

-- whether a verdict picks a clause, test by test
module _ (v : List ℕ) where
  pub other_length : (length v ≡ 16 → ⊥) → false ≡ picks v
  unfolding picks
  other_length f = simp (ne_eqb (length v) 16 f)

  pub other_file : (word_at 0 v ≡ 3 → ⊥) → false ≡ picks v
  unfolding picks
  other_file f = go (eqb (length v) 16)
    where
      go : (t : Bool) → false ≡ t && (eqb (word_at 0 v) 3 && names_clause (word_at 4 v))
      go true = simp (ne_eqb (word_at 0 v) 3 f)
      go false = refl

  pub by_number : length v ≡ 16 → word_at 0 v ≡ 3 → names_clause (word_at 4 v) ≡ picks v
  unfolding picks
  by_number n e = simp (eq-eqb (length v) 16 n, eq-eqb (word_at 0 v) 3 e)

  pub picks-length : picks v ≡ true → length v ≡ 16
  unfolding picks
  picks-length h = go (eqb (length v) 16) refl h
    where
      go : (t : Bool) → eqb (length v) 16 ≡ t → t && (eqb (word_at 0 v) 3 && names_clause (word_at 4 v)) ≡ true → length v ≡ 16
      go true e h = eqb-true (length v) 16 e
      go false e h = let z : ◌≡◌ {A = ℕ} 0 1 = cc in absurd (omega arith)
