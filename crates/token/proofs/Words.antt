-- `true` and marks, read byte by byte.
use Prim.Native.Nat.{ℕ, suc, ◌+◌, ◌-◌, ◌*◌, ◌≤◌, ◌<◌, min}
use native.Mathlib.Omega.{arith}
use native.Mathlib.Numerals.{add-one}
use mathlib.Core.Path.{◌≡◌, refl, sym, ap, ap₂, subst, ◌∙◌}
use mathlib.Core.Bool.{Bool, true, false}
use mathlib.Core.List.{List, [], ◌∷◌}
use lib.Dec.{leb}
use lib.ListN.{length, get_or, drop, drop_of_length-le}
use lib.Seq.{drop-cons}
use borrow.Author.Tests.{eq-eqb, ne_eqb, le-leb, lt-leb}
use Rattle.record.specs.Buffer.{stored}
use Rattle.std.specs.Prelude.{Ok, Err}
use Rattle.grammar.specs.Nodes.{Node, mark_n}
use Rattle.grammar.specs.Reader.{Got, got, no, pick, bind, node, literal, number, mark_by, marks}
use Rattle.token.specs.Block.{node_bytes}
use Rattle.token.specs.Leaves.{LeafIs, ByteAt, word_got}
use Rattle.token.specs.Tokens.{NumIs}
use Rattle.token.specs.Digits.{relabel, number_any, Only13, number_13}
use Rattle.token.specs.Placed.{refused_at}
use Rattle.token.specs.declared.Num.{Num}
use Rattle.token.specs.declared.Part.{Part}
use Rattle.token.specs.declared.Fault.{Fault}

-- a token refused at an offset
pub refused_leaf : {A : Type 0} (node : A → Node) (s : List ℕ) (n left : ℕ) (before : List ℕ) (f : Fault) (w i : ℕ) (g : Got A)
    → f ≡ record { number = w; at = i }
    → (w ≡ 0 → ⊥) → i ≤ length s → g ≡ no w (drop i s) → LeafIs node s n left before (Err f) before g
refused_leaf node s n left before f w i g e some l q =
    subst (LeafIs node s n left before (Err f) before) (sym q)
    (record { part = refused_at s before f before w i e some l refl; unchanged = refl })

-- a token with its node
pub placed_leaf : {A : Type 0} (node : A → Node) (s : List ℕ) (n left : ℕ) (before : List ℕ) (r : Part) (after : List ℕ) (x : A) (i : ℕ) (g : Got A)
    → r ≡ record { at = i; left = left - 1; n = n + 1 } → 0 < left → i ≤ length s → after ≡ stored before (4 * n) (node_bytes (node x))
    → g ≡ got x (left - 1) (drop i s)
    → LeafIs node s n left before (Ok r) after g
placed_leaf node s n left before r after x i g e some l b q =
    subst (LeafIs node s n left before (Ok r) after) (sym q)
    (record {
      behind = ap (λ (p : Part). drop p.at s) e;
      inside = subst (λ (p : Part). p.at ≤ length s) (sym e) l;
      allowed = ap (λ (p : Part). p.left) e;
      slots = ap (λ (p : Part). p.n) e;
      kept = let a : r.n ≡ n + 1 = ap (λ (p : Part). p.n) e in let c : r.left ≡ left - 1 = ap (λ (p : Part). p.left) e in omega arith;
      block = b;
    })

-- `true`: its bytes one after the other
literal_miss : (c : ℕ) (w : List ℕ) (n : ℕ) (u : List ℕ) → ((t : List ℕ) → u ≡ c ∷ t → ⊥) → literal {A = Unit {0}} (c ∷ w) tt n u ≡ no 13 u
unfolding literal
literal_miss c w n [] f = refl
literal_miss c w n (b ∷ u) f =
    ap (λ (x : Bool). pick x (literal {A = Unit {0}} w tt n u) (no 13 (b ∷ u))) (ne_eqb b c (λ e. f u (ap (λ (k : ℕ). k ∷ u) e)))

literal_hit : (c : ℕ) (w : List ℕ) (n : ℕ) (u t : List ℕ) → u ≡ c ∷ t → literal {A = Unit {0}} (c ∷ w) tt n u ≡ literal {A = Unit {0}} w tt n t
unfolding literal
literal_hit c w n u t e =
    ap (literal {A = Unit {0}} (c ∷ w) tt n) e ∙ ap (λ (x : Bool). pick x (literal {A = Unit {0}} w tt n t) (no 13 (c ∷ t))) (eq-eqb c c refl)

-- behind its first byte
abbrev pub rue : List ℕ
rue = 114 ∷ 117 ∷ 101 ∷ []

module _ (s : List ℕ) (left i : ℕ) where
  -- what the word gives, by the rest of its bytes
  abbrev then : Got (Unit {0}) → Got (Unit {0})
  then g = bind g (λ u m r₁. node (drop i s) m (λ m₁. got tt m₁ r₁))

  -- k of those bytes were there
  pub record Spelled (k : ℕ) : Type 0 where
    pub inside : i + 1 + k ≤ length s
    pub same : word_got s left i ≡ then (literal {A = Unit {0}} (drop k rue) tt left (drop (i + 1 + k) s))

  pub spelled_none : i < length s → Spelled 0
  spelled_none l = record {
    inside = omega arith;
    same =
        let q : suc i ≡ i + 1 + 0 = omega arith in
        ap (λ (j : ℕ). then (literal {A = Unit {0}} rue tt left (drop j s))) q;
  }

  module _ (k : ℕ) (w : Spelled k) where
    module _ (l : k < 3) (b : Bool) (y : ByteAt s (i + 1 + k) (get_or rue k 0) b) where
      next : drop k rue ≡ get_or rue k 0 ∷ drop (suc k) rue
      next = drop-cons rue k 0 l

      pub spelled_off : b ≡ false → word_got s left i ≡ no 13 (drop (i + 1 + k) s)
      unfolding bind
      spelled_off e =
          w.same ∙ ap (λ (v : List ℕ). then (literal {A = Unit {0}} v tt left (drop (i + 1 + k) s))) next
          ∙ ap then (literal_miss (get_or rue k 0) (drop (suc k) rue) left (drop (i + 1 + k) s) (y.no e))

      pub spelled_on : b ≡ true → Spelled (k + 1)
      spelled_on e =
          let h = y.low e in
          let q : suc (i + 1 + k) ≡ i + 1 + (k + 1) = omega arith in
          record {
            inside = omega arith;
            same =
                w.same ∙ ap (λ (v : List ℕ). then (literal {A = Unit {0}} v tt left (drop (i + 1 + k) s))) next
                ∙ ap then (literal_hit (get_or rue k 0) (drop (suc k) rue) left (drop (i + 1 + k) s) (drop (suc (i + 1 + k)) s) (y.yes e))
                ∙ ap₂ (λ (a c : ℕ). then (literal {A = Unit {0}} (drop a rue) tt left (drop c s))) (sym (add-one k)) q;
          }

    module _ (e : k ≡ 3) where
      whole : word_got s left i ≡ node (drop i s) left (λ m₁. got tt m₁ (drop (i + 4) s))
      unfolding bind literal
      whole =
          let q : i + 1 + k ≡ i + 4 = omega (arith, e) in
          w.same ∙ ap (λ (v : List ℕ). then (literal {A = Unit {0}} v tt left (drop (i + 1 + k) s))) (drop_of_length-le rue {i = k} (omega (arith, e)))
          ∙ ap (λ (j : ℕ). node (drop i s) left (λ m₁. got tt m₁ (drop j s))) q

      pub word_spent : left ≡ 0 → word_got s left i ≡ no 14 (drop i s)
      unfolding node
      word_spent z = whole ∙ ap (λ (m : ℕ). node {A = Unit {0}} (drop i s) m (λ m₁. got tt m₁ (drop (i + 4) s))) z

      pub word_read : 0 < left → word_got s left i ≡ got tt (left - 1) (drop (i + 4) s)
      unfolding node
      word_read l =
          let q : left ≡ suc (left - 1) = omega arith in whole ∙ ap (λ (m : ℕ). node {A = Unit {0}} (drop i s) m (λ m₁. got tt m₁ (drop (i + 4) s))) q

-- a mark, by its number
pub mark_off : (s : List ℕ) (left i : ℕ) → i < length s → (get_or s i 0 ≡ 109 → ⊥) → marks left (drop i s) ≡ no 13 (drop i s)
unfolding marks mark_by
mark_off s left i l n =
    let e = drop-cons s i 0 l in
    ap (marks left) e ∙ ap (λ (x : Bool). mark_by x left (get_or s i 0) (drop (suc i) s)) (ne_eqb (get_or s i 0) 109 n) ∙ ap (no 13) (sym e)

module _ (s : List ℕ) (left i : ℕ) (l : i < length s) (is : get_or s i 0 ≡ 109) where
  abbrev behind : Got ℕ → Got ℕ
  behind g = bind g (λ v m r₁. node (drop i s) m (λ m₁. pick (leb v 31) (got v m₁ r₁) (no 15 (drop (i + 1) s))))

  marked : marks left (drop i s) ≡ behind (relabel left (number 0 (drop (i + 1) s)))
  unfolding marks mark_by
  marked =
      let e = drop-cons s i 0 l in
      let q : suc i ≡ i + 1 = omega arith in
      ap (marks left) e ∙ ap (λ (x : Bool). mark_by x left (get_or s i 0) (drop (suc i) s)) (eq-eqb (get_or s i 0) 109 is)
      ∙ ap (λ (u : List ℕ). bind (number left (drop (suc i) s)) (λ v m r₁. node u m (λ m₁. pick (leb v 31) (got v m₁ r₁) (no 15 (drop (suc i) s))))) (sym e)
      ∙ ap (λ (j : ℕ). bind (number left (drop j s)) (λ v m r₁. node (drop i s) m (λ m₁. pick (leb v 31) (got v m₁ r₁) (no 15 (drop j s))))) q
      ∙ ap behind (number_any left (drop (i + 1) s))

  -- its number is refused
  pub mark_bad : (f : Fault) → NumIs s (Err f) (number 0 (drop (i + 1) s)) → f.at ≤ length s → (n : ℕ) (before : List ℕ)
      → LeafIs mark_n s n left before (Err f) before (marks left (drop i s))
  unfolding bind
  mark_bad f w in_text n before =
      subst (LeafIs mark_n s n left before (Err f) before) (sym marked)
      (go (number 0 (drop (i + 1) s)) w (number_13 0 (drop (i + 1) s)))
    where
      go : (g : Got ℕ) → NumIs s (Err f) g → Only13 g → LeafIs mark_n s n left before (Err f) before (behind (relabel left g))
      go (got v m t) h o = absurd h
      go (no v t) h o = record {
        part = record { number = h.0 ∙ sym o; some = λ z. omega (arith, h.0); behind = h.1; inside = in_text; block = refl };
        unchanged = refl;
      }

  -- the number was read
  module _ (k : Num) (w : NumIs s (Ok k) (number 0 (drop (i + 1) s))) where
    numbered : (P : Got ℕ → Type 0)
        → ((v : ℕ) → k.value ≡ min v 1000 → P (node (drop i s) left (λ m₁. pick (leb v 31) (got v m₁ (drop k.at s)) (no 15 (drop (i + 1) s)))))
        → P (marks left (drop i s))
    unfolding bind
    numbered P f = subst P (sym marked) (go (number 0 (drop (i + 1) s)) w)
      where
        go : (g : Got ℕ) → NumIs s (Ok k) g → P (behind (relabel left g))
        go (no v t) h = absurd h
        go (got v m t) h = subst (λ (u : List ℕ). P (node (drop i s) left (λ m₁. pick (leb v 31) (got v m₁ u) (no 15 (drop (i + 1) s))))) h.0 (f v h.1)

    pub mark_spent : left ≡ 0 → marks left (drop i s) ≡ no 14 (drop i s)
    unfolding node
    mark_spent z =
        numbered (λ g. g ≡ no 14 (drop i s))
        (λ v q. ap (λ (m : ℕ). node (drop i s) m (λ m₁. pick (leb v 31) (got v m₁ (drop k.at s)) (no 15 (drop (i + 1) s)))) z)

    module _ (some : 0 < left) where
      one : left ≡ suc (left - 1)
      one = omega arith

      pub mark_wide : 31 < k.value → marks left (drop i s) ≡ no 15 (drop (i + 1) s)
      unfolding node
      mark_wide far =
          numbered (λ g. g ≡ no 15 (drop (i + 1) s))
          (λ v q.
          ap (λ (m : ℕ). node (drop i s) m (λ m₁. pick (leb v 31) (got v m₁ (drop k.at s)) (no 15 (drop (i + 1) s)))) one
          ∙ ap (λ (x : Bool). pick x (got v (left - 1) (drop k.at s)) (no 15 (drop (i + 1) s))) (lt-leb v 31 (omega arith)))

      pub mark_read : k.value ≤ 31 → marks left (drop i s) ≡ got k.value (left - 1) (drop k.at s)
      unfolding node
      mark_read near =
          numbered (λ g. g ≡ got k.value (left - 1) (drop k.at s))
          (λ v q.
          let same : v ≡ k.value = omega arith in
          ap (λ (m : ℕ). node (drop i s) m (λ m₁. pick (leb v 31) (got v m₁ (drop k.at s)) (no 15 (drop (i + 1) s)))) one
          ∙ ap (λ (x : Bool). pick x (got v (left - 1) (drop k.at s)) (no 15 (drop (i + 1) s))) (le-leb v 31 (omega arith))
          ∙ ap (λ (x : ℕ). got x (left - 1) (drop k.at s)) same)
