-- A node's need is that of the text that it stands for.
use Rattle.std.specs.Prelude.{ℕ, ◌≤◌, ◌<◌, max, ◌≡◌, List, length, get_or}
use Rattle.std.proofs.Common.{ap, ap₂, ◌∙◌, arith}
use Rattle.grammar.specs.Grammar.{Form, top, leaf, neg, and, or, next, until, release, ev, gl, Counted, counted, Clause}
use Rattle.grammar.specs.Nodes.{Node, top_n, mark_n, count_n, one_n, two_n, Op₁, neg₁, next₁, ev₁, gl₁, Op₂, and₂, or₂, until₂, release₂, node, Stands, StandsMark, StandsCount}
use Rattle.drift.specs.Need.{more, need, mark_need, count_need, need_node, Needs}
use Rattle.drift.specs.Tree.{node_at}

module _ (block : List ℕ) (ns : List Node) (at : (k : ℕ) → k < length ns → node_at block k ≡ node ns k) (needs : List ℕ) (n : ℕ) (below : n ≤ length ns)
    (r : Needs block needs n) where
  need_at : (i : ℕ) → i < n → (x : Node) → node ns i ≡ x → get_or needs i 0 ≡ need_node needs x
  need_at i p x e = r.each i p ∙ ap (need_node needs) (at i (omega arith) ∙ e)

  module _ {L : Type 0} (leafNeed : L → ℕ) (Leaf : List Node → ℕ → L → Type 0)
      (leaf-need : (i : ℕ) → i < n → (x : L) → Leaf ns i x → get_or needs i 0 ≡ leafNeed x) where
    abbrev AreNeeds : Form L → Type 0
    AreNeeds a = (i : ℕ) → i < n → Stands Leaf ns i a → get_or needs i 0 ≡ need leafNeed a

    one_need : (o : Op₁) (a : Form L) → AreNeeds a → (i : ℕ) → i < n → (j : ℕ) × (j < i) × (node ns i ≡ one_n o j) × Stands Leaf ns j a
        → get_or needs i 0 ≡ max 1 (need leafNeed a)
    one_need o a f i p (j, l, e, s) = need_at i p (one_n o j) e ∙ ap (max 1) (f j (omega arith) s)

    two_need : (o : Op₂) (a c : Form L) → AreNeeds a → AreNeeds c → (i : ℕ) → i < n
        → (j k : ℕ) × (j < i) × (k < i) × (node ns i ≡ two_n o j k) × Stands Leaf ns j a × Stands Leaf ns k c
        → get_or needs i 0 ≡ more (need leafNeed a) (need leafNeed c)
    two_need o a c f g i p (j, k, l, m, e, s, t) = need_at i p (two_n o j k) e ∙ ap₂ more (f j (omega arith) s) (g k (omega arith) t)

    stands_need : (a : Form L) → AreNeeds a
    unfolding need
    stands_need top i p s = need_at i p top_n s
    stands_need (leaf x) i p s = leaf-need i p x s
    stands_need (neg a) i p s = one_need neg₁ a (λ j l t. stands_need a j l t) i p s
    stands_need (next a) i p s = one_need next₁ a (λ j l t. stands_need a j l t) i p s
    stands_need (ev a) i p s = one_need ev₁ a (λ j l t. stands_need a j l t) i p s
    stands_need (gl a) i p s = one_need gl₁ a (λ j l t. stands_need a j l t) i p s
    stands_need (and a c) i p s = two_need and₂ a c (λ j l t. stands_need a j l t) (λ j l t. stands_need c j l t) i p s
    stands_need (or a c) i p s = two_need or₂ a c (λ j l t. stands_need a j l t) (λ j l t. stands_need c j l t) i p s
    stands_need (until a c) i p s = two_need until₂ a c (λ j l t. stands_need a j l t) (λ j l t. stands_need c j l t) i p s
    stands_need (release a c) i p s = two_need release₂ a c (λ j l t. stands_need a j l t) (λ j l t. stands_need c j l t) i p s

  count_need_lem : (i : ℕ) → i < n → (x : Counted) → StandsCount ns i x → get_or needs i 0 ≡ count_need x
  count_need_lem i p (counted a x) (j, l, e, s) =
      need_at i p (count_n j x) e ∙ stands_need mark_need StandsMark (λ i p x e. need_at i p (mark_n x) e) a j (omega arith) s

  pub clause_need : (c : Clause) (i : ℕ) → i < n → Stands StandsCount ns i c → get_or needs i 0 ≡ need count_need c
  clause_need c i p s = stands_need count_need StandsCount count_need_lem c i p s
