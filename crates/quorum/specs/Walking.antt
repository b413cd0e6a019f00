-- Walking back in parts, and over a step or two.
use Prim.Native.Nat.{ℕ, zero, suc, ◌+◌, ◌-◌, ◌≤◌, ◌<◌}
use Rattle.std.specs.Prelude.{◌≡◌, refl, Bool, ◌&&◌, List, length, set}
use Rattle.std.proofs.Common.{sym, subst, ◌∙◌, get_or-set_other}
use Rattle.std.proofs.Math.Path.{ap, ap₂}
use Rattle.std.proofs.Math.Bool.{and_self, and_assoc}
use native.Mathlib.Omega.{arith}
use Rattle.std.specs.Int.Bits.{bit_and}
use Rattle.std.proofs.Math.Dec.{ltb}
use Rattle.std.proofs.Math.ListN.{get_or, length-set}
use Rattle.std.proofs.Math.Seq.{get_or-set_same}
use Rattle.row.specs.Round.{pick}
use Rattle.cltl.specs.Running.{back, walk}
use Rattle.cltl.proofs.AboveDrift.{above_none, above_more}
use Rattle.mask.specs.Mask.{on}
use Rattle.mask.specs.EachBit.{on_and}
use Rattle.table.specs.Table.{Stored}
use Rattle.quorum.specs.Words.{has}
use Rattle.quorum.specs.Unary.{Above, InUnary, WalkedBack}

-- only the steps walked over count
pub walk_agrees : (f g : ℕ → Bool) (s n c : ℕ) → ((i : ℕ) → s ≤ i → i < s + n → f i ≡ g i) → walk f s n c ≡ walk g s n c
unfolding walk
walk_agrees f g s zero c e = refl
walk_agrees f g s (suc n) c e = ap₂ back (e s (omega arith) (omega arith)) (walk_agrees f g (suc s) n c (λ i p q. e i (omega arith) (omega arith)))

-- n steps, and before them m steps further on
walk_parts : (f : ℕ → Bool) (s n m c : ℕ) → walk f s (n + m) c ≡ walk f s n (walk f (s + n) m c)
unfolding walk
walk_parts f s zero m c =
    let e : zero + m ≡ m = omega arith in
    let z : s ≡ s + 0 = omega arith in
    ap (λ (k : ℕ). walk f s k c) e ∙ ap (λ (k : ℕ). walk f k m c) z
walk_parts f s (suc n) m c =
    let e : suc n + m ≡ suc (n + m) = omega arith in
    let z : suc s + n ≡ s + suc n = omega arith in
    ap (λ (k : ℕ). walk f s k c) e ∙ ap (back (f s)) (walk_parts f (suc s) n m c ∙ ap (λ (k : ℕ). walk f (suc s) n (walk f k m c)) z)

-- a word for the same carts
above_of : (f g : ℕ → ℕ) (j x y : ℕ) → y ≡ x → ((i : ℕ) → f i ≡ g i) → Above f j x → Above g j y
above_of f g j x y e same a i = ap (λ (z : ℕ). on z i) e ∙ a i ∙ ap (ltb j) (same i)

pub begun : (h d : ℕ) (w : List ℕ) → WalkedBack h 0 d w w
unfolding walk
begun h d w = record {
  size = refl;
  still = λ k p. refl;
  beyond = λ k p. refl;
  counts = λ count c. let e : h + 0 ≡ h = omega arith in subst (λ (k : ℕ). InUnary w k count) e c;
  above = λ count c v p q. absurd (omega arith);
}

-- n steps after m steps further on
pub onward : (s n m d : ℕ) (w₀ w₁ w₂ : List ℕ) → WalkedBack (s + n) m d w₀ w₁ → WalkedBack s n d w₁ w₂ → WalkedBack s (n + m) d w₀ w₂
onward s n m d w₀ w₁ w₂ a b = record {
  size = b.size ∙ a.size;
  still = λ k p. b.still k p ∙ a.still k (omega arith);
  beyond = λ k p. b.beyond k (omega arith) ∙ a.beyond k (omega arith);
  counts = λ count c j p. above_of _ _ j _ _ refl
      (λ i. walk_agrees (has w₁ i) (has w₀ i) s n _ (λ k _ q. same i k (omega arith)) ∙ sym (walk_parts (has w₀ i) s n m (count i)))
      (b.counts (behind count) (a.counts count (begin count c)) j p);
  above = λ count c v p q. pick v (s + n) (Above (λ i. walk (has w₀ i) v (s + (n + m) - v) (count i)) d (get_or w₂ (17 + v) 0))
      (λ r. above_of _ _ d _ _ refl
      (λ i.
      let e : s + n - v + m ≡ s + (n + m) - v = omega arith in
      let z : s + n ≡ v + (s + n - v) = omega arith in
      walk_agrees (has w₁ i) (has w₀ i) v (s + n - v) _ (λ k _ u. same i k (omega arith))
      ∙ ap (λ (k : ℕ). walk (has w₀ i) v (s + n - v) (walk (has w₀ i) k m (count i))) z
      ∙ sym (walk_parts (has w₀ i) v (s + n - v) m (count i)) ∙ ap (λ (k : ℕ). walk (has w₀ i) v k (count i)) e)
      (b.above (behind count) (a.counts count (begin count c)) v p r))
      (λ r. above_of _ _ d _ _ (b.beyond (17 + v) (omega arith))
      (λ i. let e : s + n + m - v ≡ s + (n + m) - v = omega arith in ap (λ (k : ℕ). walk (has w₀ i) v k (count i)) e)
      (a.above count (begin count c) v r (omega arith)));
}
  where
    behind : (ℕ → ℕ) → ℕ → ℕ
    behind count i = walk (has w₀ i) (s + n) m (count i)

    same : (i k : ℕ) → k ≤ s + n → has w₁ i k ≡ has w₀ i k
    same i k p = ap (λ (x : ℕ). on x i) (a.still k p)

    begin : (count : ℕ → ℕ) → InUnary w₀ (s + (n + m)) count → InUnary w₀ (s + n + m) count
    begin count c = let e : s + (n + m) ≡ s + n + m = omega arith in subst (λ (k : ℕ). InUnary w₀ k count) e c

-- 16 words joined to x by "and"
abbrev Reset : (x at : ℕ) (before after : List ℕ) → Type 0
Reset x at before after = Stored (λ j y. y ≡ bit_and x (get_or before (at + j) 0)) at 0 16 before after

-- one of them
reset_at : (x at : ℕ) (before after : List ℕ) → Reset x at before after → (k : ℕ) → at ≤ k → k < at + 16 → get_or after k 0 ≡ bit_and x (get_or before k 0)
reset_at x at before after r k p q =
    let e : at + (k - at) ≡ k = omega arith in
    subst (λ (j : ℕ). get_or after j 0 ≡ bit_and x (get_or before j 0)) e (r.each (k - at) (omega arith) (omega arith))

-- over step s
pub one_step : (s d : ℕ) (w₀ w₁ : List ℕ) → d ≤ 16 → s + 17 < length w₀ → Reset (get_or w₀ s 0) (s + 1) w₀ w₁
    → WalkedBack s 1 d w₀ (set w₁ (s + 17) (get_or w₁ (s + d) 0))
unfolding walk
one_step s d w₀ w₁ few room r = record {
  size = simp length-set r.kept;
  still = λ k p. other k (λ e. omega arith) ∙ r.below k (omega arith);
  beyond = λ k p. other k (λ e. omega arith) ∙ r.above k (omega arith);
  counts = λ count c j p i. ap (λ (x : ℕ). on x i) (other (s + j) (λ e. omega arith)) ∙ counted count c j p i;
  above = λ count c v p q i.
      let e : 17 + v ≡ s + 17 = omega arith in
      let z : v ≡ s = omega arith in
      let n : 1 ≡ s + 1 - v = omega arith in
      ap (λ (k : ℕ). on (get_or (set w₁ (s + 17) (get_or w₁ (s + d) 0)) k 0) i) e ∙ ap (λ (x : ℕ). on x i) (get_or-set_same w₁ (s + 17) _ 0 (omega (arith, r.kept)))
      ∙ counted count c d few i ∙ ap₂ (λ (k n : ℕ). ltb d (walk (has w₀ i) k n (count i))) (sym z) n;
}
  where
    other : (k : ℕ) → (k ≡ s + 17 → ⊥) → get_or (set w₁ (s + 17) (get_or w₁ (s + d) 0)) k 0 ≡ get_or w₁ k 0
    other k p = get_or-set_other w₁ (s + 17) k (get_or w₁ (s + d) 0) 0 p

    counted : (count : ℕ → ℕ) → InUnary w₀ (s + 1) count → (j : ℕ) → j ≤ 16 → (i : ℕ) → on (get_or w₁ (s + j) 0) i ≡ ltb j (back (has w₀ i s) (count i))
    counted count c zero p i =
        let e : s + 0 ≡ s = omega arith in
        ap (λ (k : ℕ). on (get_or w₁ k 0) i) e ∙ ap (λ (x : ℕ). on x i) (r.below s (omega arith)) ∙ sym (above_none (has w₀ i s) (count i))
    counted count c (suc j) p i =
        let e : s + suc j ≡ s + 1 + j = omega arith in
        ap (λ (x : ℕ). on x i) (reset_at (get_or w₀ s 0) (s + 1) w₀ w₁ r (s + suc j) (omega arith) (omega arith)) ∙ on_and (get_or w₀ s 0) (get_or w₀ (s + suc j) 0) i
        ∙ ap (λ (b : Bool). has w₀ i s && b) (ap (λ (k : ℕ). on (get_or w₀ k 0) i) e ∙ c j (omega arith) i)
        ∙ sym (above_more (has w₀ i s) (count i) j (omega arith))

-- over steps s + 1 and s, the window of the later one laid aside first
module _ (s d : ℕ) (w₀ w₁ : List ℕ) (few : d ≤ 16) (room : s + 18 < length w₀) where
  -- the words of both steps
  abbrev x : ℕ
  x = get_or w₀ (s + 1) 0

  abbrev y : ℕ
  y = get_or w₀ s 0

  abbrev aside : List ℕ
  aside = set w₀ (s + 18) (bit_and x (get_or w₀ (s + 1 + d) 0))

  aside_other : (k : ℕ) → (k ≡ s + 18 → ⊥) → get_or aside k 0 ≡ get_or w₀ k 0
  aside_other k p = get_or-set_other w₀ (s + 18) k (bit_and x (get_or w₀ (s + 1 + d) 0)) 0 p

  later : (i : ℕ) → on x i ≡ has w₀ i (suc s)
  later i = let e : s + 1 ≡ suc s = omega arith in ap (λ (k : ℕ). on (get_or w₀ k 0) i) e

  module _ (r : Reset (bit_and y x) (s + 1) aside w₁) where
    abbrev end : List ℕ
    end = set w₁ (s + 17) (get_or w₁ (s + d) 0)

    other : (k : ℕ) → (k ≡ s + 17 → ⊥) → get_or end k 0 ≡ get_or w₁ k 0
    other k p = get_or-set_other w₁ (s + 17) k (get_or w₁ (s + d) 0) 0 p

    module _ (count : ℕ → ℕ) (c : InUnary w₀ (s + 2) count) (i : ℕ) where
      -- a word of the 17, before and after
      joined : (j : ℕ) → j < 16 → on (get_or w₁ (s + suc j) 0) i ≡ ((on y i && on x i) && on (get_or w₀ (s + suc j) 0) i)
      joined j p =
          ap (λ (z : ℕ). on z i) (reset_at (bit_and y x) (s + 1) aside w₁ r (s + suc j) (omega arith) (omega arith))
          ∙ on_and (bit_and y x) (get_or aside (s + suc j) 0) i
          ∙ ap₂ (λ (a b : Bool). a && b) (on_and y x i) (ap (λ (z : ℕ). on z i) (aside_other (s + suc j) (λ e. omega arith)))

      counted : (j : ℕ) → j ≤ 16 → on (get_or w₁ (s + j) 0) i ≡ ltb j (back (has w₀ i s) (back (has w₀ i (suc s)) (count i)))
      counted zero p =
          let e : s + 0 ≡ s = omega arith in
          ap (λ (k : ℕ). on (get_or w₁ k 0) i) e ∙ ap (λ (z : ℕ). on z i) (r.below s (omega arith) ∙ aside_other s (λ e. omega arith))
          ∙ sym (above_none (has w₀ i s) _)
      counted (suc zero) p =
          joined 0 (omega arith) ∙ and_assoc (on y i) (on x i) (on x i) ∙ ap (λ (b : Bool). on y i && b) (and_self (on x i))
          ∙ ap (λ (b : Bool). has w₀ i s && b) (later i ∙ sym (above_none (has w₀ i (suc s)) (count i))) ∙ sym (above_more (has w₀ i s) _ 0 (omega arith))
      counted (suc (suc j)) p =
          let e : s + suc (suc j) ≡ s + 2 + j = omega arith in
          joined (suc j) (omega arith) ∙ and_assoc (on y i) (on x i) _
          ∙ ap (λ (b : Bool). has w₀ i s && b)
          (ap₂ (λ (a b : Bool). a && b) (later i) (ap (λ (k : ℕ). on (get_or w₀ k 0) i) e ∙ c j (omega arith) i)
          ∙ sym (above_more (has w₀ i (suc s)) (count i) j (omega arith)))
          ∙ sym (above_more (has w₀ i s) _ (suc j) (omega arith))

      -- the count at step s + 1 above j
      aside_above : (j : ℕ) → j ≤ 16 → (on x i && on (get_or w₀ (s + 1 + j) 0) i) ≡ ltb j (back (has w₀ i (suc s)) (count i))
      aside_above zero p =
          let e : s + 1 + 0 ≡ s + 1 = omega arith in
          ap (λ (k : ℕ). on x i && on (get_or w₀ k 0) i) e ∙ and_self (on x i) ∙ later i ∙ sym (above_none (has w₀ i (suc s)) (count i))
      aside_above (suc j) p =
          let e : s + 1 + suc j ≡ s + 2 + j = omega arith in
          ap₂ (λ (a b : Bool). a && b) (later i) (ap (λ (k : ℕ). on (get_or w₀ k 0) i) e ∙ c j (omega arith) i)
          ∙ sym (above_more (has w₀ i (suc s)) (count i) j (omega arith))

    pub two_steps : WalkedBack s 2 d w₀ end
    unfolding walk
    two_steps = record {
      size = simp length-set (r.kept ∙ length-set w₀ (s + 18) (bit_and x (get_or w₀ (s + 1 + d) 0)));
      still = λ k p. other k (λ e. omega arith) ∙ r.below k (omega arith) ∙ aside_other k (λ e. omega arith);
      beyond = λ k p. other k (λ e. omega arith) ∙ r.above k (omega arith) ∙ aside_other k (λ e. omega arith);
      counts = λ count c j p i. ap (λ (z : ℕ). on z i) (other (s + j) (λ e. omega arith)) ∙ counted count c i j p;
      above = λ count c v p q i. pick s v (on (get_or end (17 + v) 0) i ≡ ltb d (walk (has w₀ i) v (s + 2 - v) (count i)))
          (λ u.
          let e : 17 + v ≡ s + 18 = omega arith in
          let z : suc s ≡ v = omega arith in
          let n : 1 ≡ s + 2 - v = omega arith in
          ap (λ (z : ℕ). on z i) (other (17 + v) (λ e. omega arith) ∙ r.above (17 + v) (omega arith) ∙ ap (λ (k : ℕ). get_or aside k 0) e
          ∙ get_or-set_same w₀ (s + 18) _ 0 room)
          ∙ on_and x (get_or w₀ (s + 1 + d) 0) i ∙ aside_above count c i d few ∙ ap₂ (λ (k n : ℕ). ltb d (walk (has w₀ i) k n (count i))) z n)
          (λ u.
          let e : 17 + v ≡ s + 17 = omega arith in
          let z : s ≡ v = omega arith in
          let n : 2 ≡ s + 2 - v = omega arith in
          ap (λ (k : ℕ). on (get_or end k 0) i) e
          ∙ ap (λ (z : ℕ). on z i) (get_or-set_same w₁ (s + 17) _ 0 (omega (arith, r.kept, length-set w₀ (s + 18) (bit_and x (get_or w₀ (s + 1 + d) 0)))))
          ∙ counted count c i d few ∙ ap₂ (λ (k n : ℕ). ltb d (walk (has w₀ i) k n (count i))) z n);
    }
