-- The walks over a sheet: what holds before each turn.
use Prim.Native.Nat.{ℕ, zero, suc, ◌+◌, ◌-◌, ◌≤◌, ◌<◌}
use native.Mathlib.Omega.{arith}
use native.Mathlib.Numerals.{add-one}
use mathlib.Core.Path.{◌≡◌, refl, sym, ap, ◌∙◌}
use mathlib.Core.Bool.{Bool, cond}
use mathlib.Core.List.{List, [], ◌∷◌}
use lib.ListN.{length, drop, get_or, drop_of_length-le}
use lib.Seq.{drop-cons}
use borrow.Author.Tests.{eq-eqb, ne_eqb}
use Rattle.clause.specs.Clause.{is_end, line_start, line_length}
use Rattle.clause.specs.Lines.{start_zero}

-- the byte at an offset and what stands behind it
next_byte : (s : List ℕ) (i : ℕ) → i < length s → drop i s ≡ get_or s i 0 ∷ drop (i + 1) s
next_byte s i h = drop-cons s i 0 h ∙ ap (λ (j : ℕ). get_or s i 0 ∷ drop j s) (sym (add-one i))

-- up to offset i, all but `left` of the k line ends are passed
pub record Starting (s : List ℕ) (k left i : ℕ) : Type 0 where
  pub within : i ≤ length s
  pub rest : i + line_start left (drop i s) ≡ line_start k s

pub start_begin : (s : List ℕ) (k : ℕ) → Starting s k k 0
start_begin s k = record { within = omega arith; rest = omega arith }

start_next : (b : ℕ) (t : List ℕ) (left : ℕ) → 0 < left → line_start left (b ∷ t) ≡ suc (line_start (cond (is_end b) (left - 1) left) t)
unfolding line_start
start_next b t zero h = absurd (omega arith)
start_next b t (suc left) h =
    let e : left ≡ suc left - 1 = omega arith in
    ap (λ (j : ℕ). suc (line_start (cond (is_end b) j (suc left)) t)) e

start_none : (left : ℕ) → line_start left [] ≡ 0
unfolding line_start
start_none left = refl

module _ (s : List ℕ) (k left i : ℕ) (w : Starting s k left i) where
  pub start_again : i < length s → 0 < left → (j : ℕ) → j ≡ cond (is_end (get_or s i 0)) (left - 1) left → Starting s k j (i + 1)
  start_again h p j e =
      let n = ap (line_start left) (next_byte s i h) ∙ start_next (get_or s i 0) (drop (i + 1) s) left p in
      let m = ap (λ (x : ℕ). line_start x (drop (i + 1) s)) e in
      record { within = omega arith; rest = omega (arith, w.rest) }

  pub start_here : left ≡ 0 → i ≡ line_start k s
  start_here e = omega (arith, w.rest, ap (λ (x : ℕ). line_start x (drop i s)) e ∙ start_zero (drop i s))

  pub start_end : length s ≤ i → i ≡ line_start k s
  start_end h = omega (arith, w.rest, ap (line_start left) (drop_of_length-le s h) ∙ start_none left)

-- from `at` to offset i no line ends
pub record Ending (s : List ℕ) (at i : ℕ) : Type 0 where
  pub rest : i + line_length (drop i s) ≡ at + line_length (drop at s)

pub end_begin : (s : List ℕ) (at : ℕ) → Ending s at at
end_begin s at = record { rest = refl }

length_by : (t : Bool) (b : ℕ) (s : List ℕ) → is_end b ≡ t → line_length (b ∷ s) ≡ cond t 0 (suc (line_length s))
unfolding line_length
length_by t b s e = ap (λ (x : Bool). cond x 0 (suc (line_length s))) e

length_none : line_length [] ≡ 0
unfolding line_length
length_none = refl

module _ (s : List ℕ) (at i : ℕ) (w : Ending s at i) where
  pub end_again : i < length s → (get_or s i 0 ≡ 10 → ⊥) → Ending s at (i + 1)
  end_again h f =
      let n = ap line_length (next_byte s i h) ∙ length_by _ (get_or s i 0) (drop (i + 1) s) (ne_eqb (get_or s i 0) 10 f) in
      record { rest = omega (arith, w.rest) }

  pub end_here : i < length s → get_or s i 0 ≡ 10 → i ≡ at + line_length (drop at s)
  end_here h e =
      let n = ap line_length (next_byte s i h) ∙ length_by _ (get_or s i 0) (drop (i + 1) s) (eq-eqb (get_or s i 0) 10 e) in
      omega (arith, w.rest)

  pub end_end : length s ≤ i → i ≡ at + line_length (drop at s)
  end_end h = omega (arith, w.rest, ap line_length (drop_of_length-le s h) ∙ length_none)
