-- The words of four carts gathered cart by cart and turned step by step.
use Prim.Native.Nat.{ℕ, ◌+◌, ◌*◌, ◌/◌, ◌%◌, ◌≤◌, ◌<◌}
use mathlib.Core.Path.{◌≡◌, refl, sym, ap, subst, ◌∙◌}
use mathlib.Core.Bool.{Bool}
use mathlib.Core.List.{List}
use native.Mathlib.Omega.{arith}
use lib.ListN.{get_or, length, set, length-set}
use lib.Seq.{get_or-set_same, get_or-set_other}
use Rattle.row.specs.Round.{pick}
use Rattle.mask.specs.Mask.{on}
use Rattle.table.specs.Table.{Stored}
use Rattle.marks.specs.Tables.{WordAt}
use Rattle.marks.specs.Fours.{Gathered, Turned, Packed}
use Rattle.marks.proofs.Turning.{four, Side}

word : (t : List ℕ) {i j : ℕ} → i ≡ j → get_or t i 0 ≡ get_or t j 0
word t e = ap (λ (k : ℕ). get_or t k 0) e

module _ (t : List ℕ) (s z₀ z₁ z₂ z₃ : ℕ) (size : length t ≡ 256) (p : s < 64) where
  abbrev t₁ : List ℕ
  t₁ = set t s z₀

  abbrev t₂ : List ℕ
  t₂ = set t₁ (64 + s) z₁

  abbrev t₃ : List ℕ
  t₃ = set t₂ (128 + s) z₂

  abbrev pub stored : List ℕ
  stored = set t₃ (192 + s) z₃

  same : (u : List ℕ) (i z j : ℕ) → i < length u → j ≡ i → get_or (set u i z) j 0 ≡ z
  same u i z j q e = word (set u i z) e ∙ get_or-set_same u i z 0 q

  other : (u : List ℕ) (i z j : ℕ) → (j ≡ i → ⊥) → get_or (set u i z) j 0 ≡ get_or u j 0
  other u i z j q = get_or-set_other u i j z 0 q

  size₁ : length t₁ ≡ 256
  size₁ = length-set t s z₀ ∙ size

  size₂ : length t₂ ≡ 256
  size₂ = length-set t₁ (64 + s) z₁ ∙ size₁

  size₃ : length t₃ ≡ 256
  size₃ = length-set t₂ (128 + s) z₂ ∙ size₂

  left_alone : (j : ℕ) → (j % 64 ≡ s → ⊥) → get_or stored j 0 ≡ get_or t j 0
  left_alone j q =
      other t₃ (192 + s) z₃ j (λ e. q (omega arith)) ∙ other t₂ (128 + s) z₂ j (λ e. q (omega arith)) ∙ other t₁ (64 + s) z₁ j (λ e. q (omega arith))
      ∙ other t s z₀ j (λ e. q (omega arith))

  row₂ : (j : ℕ) → j ≡ 128 + s → get_or stored j 0 ≡ z₂
  row₂ j e = other t₃ (192 + s) z₃ j (λ d. omega arith) ∙ same t₂ (128 + s) z₂ j (omega (arith, size₂)) e

  row₁ : (j : ℕ) → j ≡ 64 + s → get_or stored j 0 ≡ z₁
  row₁ j e =
      other t₃ (192 + s) z₃ j (λ d. omega arith) ∙ other t₂ (128 + s) z₂ j (λ d. omega arith) ∙ same t₁ (64 + s) z₁ j (omega (arith, size₁)) e

  row₀ : (j : ℕ) → j ≡ s → get_or stored j 0 ≡ z₀
  row₀ j e =
      other t₃ (192 + s) z₃ j (λ d. omega arith) ∙ other t₂ (128 + s) z₂ j (λ d. omega arith) ∙ other t₁ (64 + s) z₁ j (λ d. omega arith)
      ∙ same t s z₀ j (omega (arith, size)) e

  -- what the four words of the step have of mark j + r
  abbrev pub OfStep : ℕ → ℕ → Type 0
  OfStep r z = Side r (get_or t s 0) (get_or t (64 + s) 0) (get_or t (128 + s) 0) (get_or t (192 + s) 0) z

  -- one row of turned words
  row : (r z : ℕ) → get_or stored (r * 64 + s) 0 ≡ z → OfStep r z → (c m : ℕ) → c < 4 → m < 8
      → on (get_or stored (r * 64 + s) 0) (4 * m + c) ≡ on (get_or t (c * 64 + s) 0) (4 * m + r)
  row r z e w c m q u =
      let v = w m u in
      let none : 4 * m + 0 ≡ 4 * m = omega arith in
      let is : ℕ → Bool = λ x. on x (4 * m + r) in
      ap (λ (x : ℕ). on x (4 * m + c)) e
      ∙ four (λ c. on z (4 * m + c) ≡ on (get_or t (c * 64 + s) 0) (4 * m + r)) (ap (on z) none ∙ v.0 ∙ ap is (word t (omega arith)))
      (v.1 ∙ ap is (word t (omega arith))) (v.2 ∙ ap is (word t (omega arith))) (v.3 ∙ ap is (word t (omega arith))) c q

  module _ (w₀ : OfStep 0 z₀) (w₁ : OfStep 1 z₁) (w₂ : OfStep 2 z₂) (w₃ : OfStep 3 z₃) where
    turned : Turned t stored s
    turned r c m u v x =
        four (λ r. on (get_or stored (r * 64 + s) 0) (4 * m + c) ≡ on (get_or t (c * 64 + s) 0) (4 * m + r))
        (row 0 z₀ (row₀ (0 * 64 + s) (omega arith)) w₀ c m v x)
        (row 1 z₁ (row₁ (1 * 64 + s) (omega arith)) w₁ c m v x)
        (row 2 z₂ (row₂ (2 * 64 + s) (omega arith)) w₂ c m v x)
        (row 3 z₃ (same t₃ (192 + s) z₃ (3 * 64 + s) (omega (arith, size₃)) (omega arith)) w₃ c m v x) r u

    pub one_step : Packed s (s + 1) t stored
    one_step = record {
      kept = length-set t₃ (192 + s) z₃ ∙ size₃ ∙ sym size;
      each = λ k u v. let e : s ≡ k = omega arith in subst (Turned t stored) e turned;
      below = λ j u. left_alone j (λ e. omega arith);
      above = λ j u. left_alone j (λ e. omega arith);
    }

pub no_step : (t : List ℕ) → Packed 0 0 t t
no_step t = record { kept = refl; each = λ s p q. absurd (omega arith); below = λ j p. refl; above = λ j p. refl }

-- a step more
pub step_more : (s : ℕ) (before now after : List ℕ) → s < 64 → Packed 0 s before now → Packed s (s + 1) now after → Packed 0 (s + 1) before after
step_more s before now after q f r = record {
  kept = r.kept ∙ f.kept;
  each = λ k u v. pick k s (Turned before after k)
      (λ w a c m x y z. ap (λ (i : ℕ). on i (4 * m + c)) (r.below (a * 64 + k) (omega arith)) ∙ f.each k u w a c m x y z)
      (λ w a c m x y z. r.each k w v a c m x y z ∙ ap (λ (i : ℕ). on i (4 * m + a)) (f.above (c * 64 + k) (omega arith)));
  below = λ j u. absurd (omega arith);
  above = λ j u. r.above j u ∙ f.above j (omega arith);
}

module _ (P : ℕ → ℕ → ℕ → Type 0) (h : ℕ) where
  pub none_gathered : (t : List ℕ) → Gathered P 0 h t t
  none_gathered t = record { kept = refl; each = λ c s p. absurd (omega arith); later = λ j p. refl; beyond = λ j p. refl }

  -- a cart more
  one_gathered : (c : ℕ) (before now after : List ℕ) → h ≤ 64 → Gathered P c h before now → Stored (P c) (c * 64) 0 h now after
      → Gathered P (c + 1) h before after
  one_gathered c before now after steps f r = record {
    kept = r.kept ∙ f.kept;
    each = λ m s p q. pick m c (P m s (get_or after (m * 64 + s) 0))
        (λ u. subst (P m s) (sym (r.below (m * 64 + s) (omega arith))) (f.each m s u q))
        (λ u. let e : c ≡ m = omega arith in subst (λ (n : ℕ). P n s (get_or after (n * 64 + s) 0)) e (r.each s (omega arith) q));
    later = λ j p. pick (j / 64) c (get_or after j 0 ≡ get_or now j 0) (λ u. r.below j (omega arith)) (λ u. r.above j (omega arith)) ∙ f.later j p;
    beyond = λ j p. r.above j (omega arith) ∙ f.beyond j (omega arith);
  }

-- the words of a cart more
pub row_gathered : (floor block : List ℕ) (i h c cart at : ℕ) (before now after : List ℕ) → h ≤ 64
    → Gathered (λ c. WordAt floor block (i + c)) c h before now → Stored (WordAt floor block cart) at 0 h now after → (cart ≡ i + c) × (at ≡ c * 64)
    → Gathered (λ c. WordAt floor block (i + c)) (c + 1) h before after
row_gathered floor block i h c cart at before now after steps f r e =
    one_gathered (λ c. WordAt floor block (i + c)) h c before now after steps f
    (subst (λ (k : ℕ). Stored (WordAt floor block (i + c)) k 0 h now after) e.1 (subst (λ (k : ℕ). Stored (WordAt floor block k) at 0 h now after) e.0 r))
