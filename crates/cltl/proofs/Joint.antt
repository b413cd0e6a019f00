-- Ors of counts: what one of their counts makes true, and the pigeonhole.
use Rattle.std.specs.Prelude.{ℕ, ◌+◌, ◌-◌, ◌≤◌, ◌<◌, Bool, not, ◌⊎◌, T}
use Rattle.std.proofs.Math.Bool.{true, false}
use mathlib.Core.List.{List, [], ◌∷◌, ◌++◌}
use Rattle.std.proofs.Math.Logic.{inl, inr, ⊎_elim}
use Rattle.std.proofs.Common.{arith}
use Rattle.std.proofs.Math.Dec.{leb→le}
use Rattle.grammar.specs.Grammar.{Form, leaf, neg, and, or, Counted}
use Rattle.cltl.specs.Meaning.{Rows, Holds}
use Rattle.cltl.specs.Broken.{Val}
use Rattle.cltl.specs.Counting.{tally}
use Rattle.cltl.specs.Rules.{throughout, both, leaves, judge, asked, text, slack, some_text, uniform, joint}
use Rattle.cltl.proofs.Basics.{lt_or_le, and_r, or_l, or_r}
use Rattle.cltl.proofs.Tally.{tally_or, tally_none}

-- one of a list has Q
abbrev pub Some : {X : Type 0} → (X → Type 0) → List X → Type 0
Some Q [] = ⊥
Some Q (x ∷ xs) = Q x ⊎ Some Q xs

pub some_map : {X : Type 0} (Q R : X → Type 0) → ((x : X) → Q x → R x) → (xs : List X) → Some Q xs → Some R xs
some_map Q R f (x ∷ xs) y = ⊎_elim (λ z. inl (f x z)) (λ z. inr (some_map Q R f xs z)) y
some_map Q R f [] y = elim y [ ]

some_append : {X : Type 0} (Q : X → Type 0) (xs ys : List X) → Some Q (xs ++ ys) → Some Q xs ⊎ Some Q ys
some_append Q [] ys z = inr z
some_append Q (x ∷ xs) ys z = ⊎_elim (λ u. inl (inl u)) (λ u. ⊎_elim (λ v. inl (inr v)) (λ v. inr v) (some_append Q xs ys u)) z

module _ {L : Type 0} (Q : Bool × L → Type 0) where
  pub some_both : (xs ys : List (Bool × L)) → Some Q (both xs ys) → Some Q xs ⊎ Some Q ys
  some_both (x ∷ xs) (y ∷ ys) z = some_append Q (x ∷ xs) (y ∷ ys) z
  some_both [] ys z = elim z [ ]
  some_both (x ∷ xs) [] z = elim z [ ]

---- A count of an or makes it true.
module _ {L : Type 0} (Leaf : L → ℕ → Type 0) (t : ℕ) where
  abbrev pub LeafHolds : Bool × L → Type 0
  LeafHolds x = Val x.0 (Leaf x.1 t)

  pub leaf_holds : (p : Bool) (c : Form L) → Some LeafHolds (leaves p c) → Val p (Holds Leaf c t)
  unfolding leaves
  leaf_holds p (leaf x) z = ⊎_elim (λ u. u) (λ u. absurd u) z
  leaf_holds true (neg a) z = leaf_holds false a z
  leaf_holds false (neg a) z = λ n. n (leaf_holds true a z)
  leaf_holds false (and a b) z =
      λ y.
      ⊎_elim (λ u. leaf_holds false a u y.0) (λ u. leaf_holds false b u y.1) (some_both LeafHolds (leaves false a) (leaves false b) z)
  leaf_holds true (or a b) z = ⊎_elim (λ u. inl (leaf_holds true a u)) (λ u. inr (leaf_holds true b u)) (some_both LeafHolds (leaves true a) (leaves true b) z)
  leaf_holds _ _ z = elim z [ ]

  -- one side of it: only a | b and !(a & b) have counts
  pub or_side : (p : Bool) (a b : Form L) → Some LeafHolds (leaves p (or a b)) → T p × (Val p (Holds Leaf a t) ⊎ Val p (Holds Leaf b t))
  unfolding leaves
  or_side true a b z = (tt, ⊎_elim (λ u. inl (leaf_holds true a u)) (λ u. inr (leaf_holds true b u)) (some_both LeafHolds (leaves true a) (leaves true b) z))
  or_side false a b z = elim z [ ]

  pub and_side : (p : Bool) (a b : Form L) → Some LeafHolds (leaves p (and a b)) → T (not p) × (Val p (Holds Leaf a t) ⊎ Val p (Holds Leaf b t))
  unfolding leaves
  and_side false a b z = (tt, ⊎_elim (λ u. inl (leaf_holds false a u)) (λ u. inr (leaf_holds false b u)) (some_both LeafHolds (leaves false a) (leaves false b) z))
  and_side true a b z = elim z [ ]

-- so it does by the rules
module _ (h l : ℕ) {L : Type 0} (rule : Bool → L → ℕ → Bool) (also : Bool → Form L → ℕ → Bool) (s : ℕ) where
  abbrev pub LeafRuled : Bool × L → Type 0
  LeafRuled x = T (rule x.0 x.1 s)

  pub leaf_ruled : (p : Bool) (c : Form L) → Some LeafRuled (leaves p c) → T (judge h l rule also p c s)
  unfolding leaves judge
  leaf_ruled p (leaf x) z = ⊎_elim (λ u. u) (λ u. absurd u) z
  leaf_ruled p (neg a) z = leaf_ruled (not p) a z
  leaf_ruled false (and a b) z =
      or_r (also false (and a b) s) _
      (⊎_elim (λ u. or_l (judge h l rule also false a s) _ (leaf_ruled false a u)) (λ u. or_r (judge h l rule also false a s) _ (leaf_ruled false b u)) (some_both LeafRuled (leaves false a) (leaves false b) z))
  leaf_ruled true (or a b) z =
      or_r (also true (or a b) s) _
      (⊎_elim (λ u. or_l (judge h l rule also true a s) _ (leaf_ruled true a u)) (λ u. or_r (judge h l rule also true a s) _ (leaf_ruled true b u)) (some_both LeafRuled (leaves true a) (leaves true b) z))
  leaf_ruled _ _ z = elim z [ ]

---- The pigeonhole.
module _ (P : Rows) where
  -- "if more than the sum of (threshold − 1) carts satisfy some text each, some text has its threshold", each cart at a step of its own
  pub pigeonhole : (at : ℕ → ℕ) (n : ℕ) (xs : List (Bool × Counted)) → slack P xs < tally (λ i. some_text P xs i (at i)) n
      → Some (λ x. asked P x ≤ tally (λ i. text P i x (at i)) n) xs
  unfolding slack some_text
  pigeonhole at n [] q = let e = tally_none n in absurd (omega arith)
  pigeonhole at n (x ∷ xs) q =
      let most = tally_or (λ i. text P i x (at i)) (λ i. some_text P xs i (at i)) n in
      ⊎_elim (λ z. inr (pigeonhole at n xs (omega arith))) (λ z. inl z) (lt_or_le (tally (λ i. text P i x (at i)) n) (asked P x))

  -- what the joined rule says: there are counts, and more carts than their slack satisfy their or throughout
  pub joint_more : (d : ℕ) (xs : List (Bool × Counted)) (s : ℕ) → T (joint P d xs s) → slack P xs < throughout P.h P.l P.carts d (some_text P xs) s
  unfolding joint
  joint_more d xs s z = leb→le _ _ (and_r (uniform P xs) _ z)
