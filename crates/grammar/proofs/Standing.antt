-- The nodes of a text stand for it, whatever stands before and behind them, and are as many as the limit counts.
use Rattle.std.specs.Prelude.{ℕ, suc, ◌+◌, ◌-◌, ◌≤◌, ◌<◌, ◌≡◌}
use Rattle.std.proofs.Math.Path.{refl, ap}
use Rattle.std.proofs.Common.{subst, sym, ◌∙◌, length-append}
use mathlib.Core.List.{List, [], ◌∷◌, ◌++◌, append_assoc}
use native.Mathlib.Omega.{arith}
use Rattle.std.proofs.Math.ListN.{length}
use Rattle.std.proofs.Math.Seq.{get_or_at}
use Rattle.grammar.specs.Grammar.{Form, top, leaf, neg, and, or, next, until, release, ev, gl, Inner, Counted, counted, Clause}
use Rattle.grammar.specs.Limits.{nodes, mark_nodes, count_nodes}
use Rattle.grammar.specs.Nodes.{neg₁, next₁, ev₁, gl₁, and₂, or₂, until₂, release₂, Node, top_n, mark_n, count_n, one_n, two_n, flat, flat_mark, flat_inner, flat_count, flat_clause, node, Stands, StandsMark, StandsCount}

module _ {L : Type 0} (leaf_nodes : L → ℕ) (leaf_flat : L → ℕ → List Node) (Leaf : List Node → ℕ → L → Type 0) (some : (x : L) → 1 ≤ leaf_nodes x)
    (leaf-length : (x : L) (b : ℕ) → length (leaf_flat x b) ≡ leaf_nodes x)
    (leaf-stands : (x : L) (p q : List Node) → Leaf ((p ++ leaf_flat x (length p)) ++ q) ((length p + leaf_nodes x) - 1) x) where
  abbrev N : Form L → ℕ
  N a = nodes leaf_nodes a

  pub node_some : (a : Form L) → 1 ≤ N a
  node_some top = omega arith
  node_some (leaf x) = some x
  node_some (neg a) = omega arith
  node_some (next a) = omega arith
  node_some (ev a) = omega arith
  node_some (gl a) = omega arith
  node_some (and a c) = omega arith
  node_some (or a c) = omega arith
  node_some (until a c) = omega arith
  node_some (release a c) = omega arith

  one_length : (a : Form L) (b : ℕ) (x : Node) → length (flat leaf_nodes leaf_flat a b) ≡ N a → length (flat leaf_nodes leaf_flat a b ++ (x ∷ [])) ≡ suc (N a)
  one_length a b x h = simp length-append (omega arith)

  two_length : (a c : Form L) (b d : ℕ) (x : Node) → length (flat leaf_nodes leaf_flat a b) ≡ N a → length (flat leaf_nodes leaf_flat c d) ≡ N c
      → length (flat leaf_nodes leaf_flat a b ++ flat leaf_nodes leaf_flat c d ++ (x ∷ [])) ≡ suc (N a + N c)
  two_length a c b d x h i = simp length-append (omega arith)

  pub flat-length : (a : Form L) (b : ℕ) → length (flat leaf_nodes leaf_flat a b) ≡ N a
  unfolding flat
  flat-length top b = refl
  flat-length (leaf x) b = leaf-length x b
  flat-length (neg a) b = one_length a b _ (flat-length a b)
  flat-length (next a) b = one_length a b _ (flat-length a b)
  flat-length (ev a) b = one_length a b _ (flat-length a b)
  flat-length (gl a) b = one_length a b _ (flat-length a b)
  flat-length (and a c) b = two_length a c b (b + N a) _ (flat-length a b) (flat-length c (b + N a))
  flat-length (or a c) b = two_length a c b (b + N a) _ (flat-length a b) (flat-length c (b + N a))
  flat-length (until a c) b = two_length a c b (b + N a) _ (flat-length a b) (flat-length c (b + N a))
  flat-length (release a c) b = two_length a c b (b + N a) _ (flat-length a b) (flat-length c (b + N a))

  abbrev Fl : Form L → ℕ → List Node
  Fl a b = flat leaf_nodes leaf_flat a b

  -- an operator's node stands behind its operands'
  one_all : (a : Form L) (p q : List Node) (x : Node) → ((p ++ Fl a (length p)) ++ (x ∷ q)) ≡ ((p ++ (Fl a (length p) ++ (x ∷ []))) ++ q)
  one_all a p q x = simp append_assoc

  one_at : (a : Form L) (p q : List Node) (x : Node) → node ((p ++ (Fl a (length p) ++ (x ∷ []))) ++ q) ((length p + suc (N a)) - 1) ≡ x
  one_at a p q x =
      let h₁ = length-append p (Fl a (length p)) in
      let h₂ = flat-length a (length p) in
      let h : length (p ++ Fl a (length p)) ≡ (length p + suc (N a)) - 1 = omega arith in
      ap (λ (l : List Node). node l ((length p + suc (N a)) - 1)) (sym (one_all a p q x)) ∙ get_or_at (p ++ Fl a (length p)) x q top_n _ h

  front : (a : Form L) (p : List Node) → length (p ++ Fl a (length p)) ≡ length p + N a
  front a p = let h₁ = length-append p (Fl a (length p)) in let h₂ = flat-length a (length p) in omega arith

  two_all : (a c : Form L) (p q : List Node) (x : Node)
      → ((p ++ Fl a (length p)) ++ (Fl c (length p + N a) ++ (x ∷ q))) ≡ ((p ++ ((Fl a (length p) ++ Fl c (length p + N a)) ++ (x ∷ []))) ++ q)
  two_all a c p q x = simp append_assoc

  two_back : (a c : Form L) (p q : List Node) (x : Node)
      → (((p ++ Fl a (length p)) ++ Fl c (length p + N a)) ++ (x ∷ q)) ≡ ((p ++ ((Fl a (length p) ++ Fl c (length p + N a)) ++ (x ∷ []))) ++ q)
  two_back a c p q x = simp append_assoc

  two_at : (a c : Form L) (p q : List Node) (x : Node)
      → node ((p ++ ((Fl a (length p) ++ Fl c (length p + N a)) ++ (x ∷ []))) ++ q) ((length p + suc (N a + N c)) - 1) ≡ x
  two_at a c p q x =
      let h₁ = length-append (p ++ Fl a (length p)) (Fl c (length p + N a)) in
      let h₂ = front a p in
      let h₃ = flat-length c (length p + N a) in
      let h : length ((p ++ Fl a (length p)) ++ Fl c (length p + N a)) ≡ (length p + suc (N a + N c)) - 1 = omega arith in
      ap (λ (l : List Node). node l ((length p + suc (N a + N c)) - 1)) (sym (two_back a c p q x))
      ∙ get_or_at ((p ++ Fl a (length p)) ++ Fl c (length p + N a)) x q top_n _ h

  -- the last node of a text's nodes stands for it
  abbrev Last : Form L → List Node → List Node → Type 0
  Last a p q = Stands Leaf ((p ++ Fl a (length p)) ++ q) ((length p + N a) - 1) a

  first_in : (a c : Form L) (p q : List Node) (x : Node) → Last a p (Fl c (length p + N a) ++ (x ∷ q))
      → Stands Leaf ((p ++ ((Fl a (length p) ++ Fl c (length p + N a)) ++ (x ∷ []))) ++ q) ((length p + N a) - 1) a
  first_in a c p q x h = subst (λ (l : List Node). Stands Leaf l ((length p + N a) - 1) a) (two_all a c p q x) h

  second_in : (a c : Form L) (p q : List Node) (x : Node) → Last c (p ++ Fl a (length p)) (x ∷ q)
      → Stands Leaf ((p ++ ((Fl a (length p) ++ Fl c (length p + N a)) ++ (x ∷ []))) ++ q) (((length p + N a) + N c) - 1) c
  second_in a c p q x h =
      subst (λ (l : List Node). Stands Leaf l (((length p + N a) + N c) - 1) c) (two_back a c p q x)
      (subst (λ (n : ℕ). Stands Leaf (((p ++ Fl a (length p)) ++ Fl c n) ++ (x ∷ q)) ((n + N c) - 1) c) (front a p) h)

  one_in : (a : Form L) (p q : List Node) (x : Node) → Last a p (x ∷ q) → Stands Leaf ((p ++ (Fl a (length p) ++ (x ∷ []))) ++ q) ((length p + N a) - 1) a
  one_in a p q x h = subst (λ (l : List Node). Stands Leaf l ((length p + N a) - 1) a) (one_all a p q x) h

  one_stands : (f : ℕ → Node) (a : Form L) (p q : List Node) → let x =
      f ((length p + N a) - 1) in let ns = (p ++ (Fl a (length p) ++ (x ∷ []))) ++ q in let i = (length p + suc (N a)) - 1 in
      ((p q : List Node) → Last a p q) → (j : ℕ) × (j < i) × (node ns i ≡ f j) × Stands Leaf ns j a
  one_stands f a p q h = let s = node_some a in ((length p + N a) - 1, omega arith, one_at a p q _, one_in a p q _ (h p _))

  two_stands : (f : ℕ → ℕ → Node) (a c : Form L) (p q : List Node) → let x = f ((length p + N a) - 1) (((length p + N a) + N c) - 1) in
      let ns = (p ++ ((Fl a (length p) ++ Fl c (length p + N a)) ++ (x ∷ []))) ++ q in let i = (length p + suc (N a + N c)) - 1 in
      ((p q : List Node) → Last a p q) → ((p q : List Node) → Last c p q) → (j k : ℕ) × (j < i) × (k < i) × (node ns i ≡ f j k) × Stands Leaf ns j a
      × Stands Leaf ns k c
  two_stands f a c p q h₁ h₂ =
      let s = node_some a in
      let s₂ = node_some c in
      let x : Node = f ((length p + N a) - 1) (((length p + N a) + N c) - 1) in (
        (length p + N a) - 1,
        ((length p + N a) + N c) - 1,
        omega arith,
        omega arith,
        two_at a c p q x,
        first_in a c p q x
            (h₁ p (Fl c (length p + N a) ++ (x ∷ q))),
        second_in a c p q x (h₂ (p ++ Fl a (length p)) (x ∷ q)),
      )

  pub flat_stands : (a : Form L) (p q : List Node) → Last a p q
  unfolding flat
  flat_stands top p q =
      let h : length p ≡ (length p + 1) - 1 = omega arith in
      ap (λ (l : List Node). node l ((length p + 1) - 1)) (append_assoc p (top_n ∷ []) q) ∙ get_or_at p top_n q top_n _ h
  flat_stands (leaf x) p q = leaf-stands x p q
  flat_stands (neg a) p q = one_stands (one_n neg₁) a p q (λ p q. flat_stands a p q)
  flat_stands (next a) p q = one_stands (one_n next₁) a p q (λ p q. flat_stands a p q)
  flat_stands (ev a) p q = one_stands (one_n ev₁) a p q (λ p q. flat_stands a p q)
  flat_stands (gl a) p q = one_stands (one_n gl₁) a p q (λ p q. flat_stands a p q)
  flat_stands (and a c) p q = two_stands (two_n and₂) a c p q (λ p q. flat_stands a p q) (λ p q. flat_stands c p q)
  flat_stands (or a c) p q = two_stands (two_n or₂) a c p q (λ p q. flat_stands a p q) (λ p q. flat_stands c p q)
  flat_stands (until a c) p q = two_stands (two_n until₂) a c p q (λ p q. flat_stands a p q) (λ p q. flat_stands c p q)
  flat_stands (release a c) p q = two_stands (two_n release₂) a c p q (λ p q. flat_stands a p q) (λ p q. flat_stands c p q)

mark_stands : (k : ℕ) (p q : List Node) → StandsMark ((p ++ flat_mark k (length p)) ++ q) ((length p + 1) - 1) k
unfolding flat_mark
mark_stands k p q =
    let h : length p ≡ (length p + 1) - 1 = omega arith in
    ap (λ (l : List Node). node l ((length p + 1) - 1)) (append_assoc p (mark_n k ∷ []) q) ∙ get_or_at p (mark_n k) q top_n _ h

mark_length : (k b : ℕ) → length (flat_mark k b) ≡ 1
unfolding flat_mark
mark_length k b = refl

pub inner_stands : (a : Inner) (p q : List Node) → Stands StandsMark ((p ++ flat_inner a (length p)) ++ q) ((length p + nodes mark_nodes a) - 1) a
unfolding flat_inner
inner_stands a p q = flat_stands mark_nodes flat_mark StandsMark (λ k. omega arith) mark_length mark_stands a p q

count_length : (x : Counted) (b : ℕ) → length (flat_count x b) ≡ count_nodes x
unfolding flat_count flat_inner
count_length (counted a y) b =
    one_length mark_nodes flat_mark StandsMark (λ k. omega arith) mark_length mark_stands a b _
    (flat-length mark_nodes flat_mark StandsMark (λ k. omega arith) mark_length mark_stands a b)

count_some : (x : Counted) → 1 ≤ count_nodes x
count_some (counted a y) = omega arith

count_stands : (x : Counted) (p q : List Node) → StandsCount ((p ++ flat_count x (length p)) ++ q) ((length p + count_nodes x) - 1) x
unfolding flat_count flat_inner
count_stands (counted a y) p q =
    one_stands mark_nodes flat_mark StandsMark (λ k. omega arith) mark_length mark_stands (λ j. count_n j y) a p q
    (flat_stands mark_nodes flat_mark StandsMark (λ k. omega arith) mark_length mark_stands a)

-- the last of a clause's nodes stands for the clause, and there are as many as the limit counts
pub clause_stands : (a : Clause) (p q : List Node) → Stands StandsCount ((p ++ flat_clause a (length p)) ++ q) ((length p + nodes count_nodes a) - 1) a
unfolding flat_clause
clause_stands a p q = flat_stands count_nodes flat_count StandsCount count_some count_length count_stands a p q

pub clause_length : (a : Clause) (b : ℕ) → length (flat_clause a b) ≡ nodes count_nodes a
unfolding flat_clause
clause_length a b = flat-length count_nodes flat_count StandsCount count_some count_length count_stands a b

-- as many nodes as the limit counts, of inner text and of a clause
pub inner_flat : (a : Inner) (b : ℕ) → length (flat mark_nodes flat_mark a b) ≡ nodes mark_nodes a
inner_flat a b = flat-length mark_nodes flat_mark StandsMark (λ k. omega arith) mark_length mark_stands a b

pub clause_flat : (a : Clause) (b : ℕ) → length (flat count_nodes flat_count a b) ≡ nodes count_nodes a
clause_flat a b = flat-length count_nodes flat_count StandsCount count_some count_length count_stands a b
