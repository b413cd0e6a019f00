-- The groups that a clause names, in the order of its text; its nodes name them in their order.
use Rattle.std.specs.Prelude.{ℕ, ◌+◌, ◌-◌, ◌≡◌, List, [], ◌∷◌, ◌++◌}
use Rattle.std.proofs.Math.Path.{refl}
use Rattle.std.proofs.Common.{ap, ap₂, ◌∙◌, append_assoc, append-nil}
use Rattle.grammar.specs.Grammar.{Form, top, leaf, neg, and, or, next, until, release, ev, gl, Inner, fleet, group, Amount, amount, Counted, counted, Clause}
use Rattle.grammar.specs.Limits.{nodes, mark_nodes, count_nodes}
use Rattle.grammar.specs.Nodes.{Node, top_n, mark_n, count_n, one_n, two_n, Op₁, neg₁, next₁, ev₁, gl₁, Op₂, and₂, or₂, until₂, release₂, flat, flat_mark, flat_inner, flat_count, flat_clause}

abbrev pub amount_groups : Amount → List ℕ
amount_groups (amount n p fleet) = []
amount_groups (amount n p (group g)) = g ∷ []

abbrev pub count_groups : Counted → List ℕ
count_groups (counted a x) = amount_groups x

module _ {L : Type 0} (leafGroups : L → List ℕ) where
  abbrev pub form_groups : Form L → List ℕ
  form_groups top = []
  form_groups (leaf x) = leafGroups x
  form_groups (neg a) = form_groups a
  form_groups (and a b) = form_groups a ++ form_groups b
  form_groups (or a b) = form_groups a ++ form_groups b
  form_groups (next a) = form_groups a
  form_groups (until a b) = form_groups a ++ form_groups b
  form_groups (release a b) = form_groups a ++ form_groups b
  form_groups (ev a) = form_groups a
  form_groups (gl a) = form_groups a

abbrev pub groups : Clause → List ℕ
groups c = form_groups count_groups c

---- Node after node.
abbrev pub node_groups : Node → List ℕ
node_groups top_n = []
node_groups (mark_n k) = []
node_groups (count_n j x) = amount_groups x
node_groups (one_n o j) = []
node_groups (two_n o j k) = []

abbrev pub nodes_groups : List Node → List ℕ
nodes_groups [] = []
nodes_groups (x ∷ ns) = node_groups x ++ nodes_groups ns

pub nodes_groups_append : (ns ms : List Node) → nodes_groups (ns ++ ms) ≡ nodes_groups ns ++ nodes_groups ms
nodes_groups_append [] ms = refl
nodes_groups_append (x ∷ ns) ms = rw (nodes_groups_append ns ms, append_assoc (node_groups x) (nodes_groups ns) (nodes_groups ms))

module _ {L : Type 0} (leafGroups : L → List ℕ) (leaf_nodes : L → ℕ) (leaf_flat : L → ℕ → List Node)
    (leaf-groups : (x : L) (b : ℕ) → nodes_groups (leaf_flat x b) ≡ leafGroups x) where
  abbrev Fl : Form L → ℕ → List Node
  Fl a b = flat leaf_nodes leaf_flat a b

  abbrev Named : Form L → ℕ → Type 0
  Named a b = nodes_groups (Fl a b) ≡ form_groups leafGroups a

  -- an operator's node names none
  one_named : (a : Form L) (b : ℕ) (o : Op₁) (i : ℕ) → Named a b → nodes_groups (Fl a b ++ (one_n o i ∷ [])) ≡ form_groups leafGroups a
  one_named a b o i h = nodes_groups_append (Fl a b) (one_n o i ∷ []) ∙ append-nil (nodes_groups (Fl a b)) ∙ h

  two_named : (a c : Form L) (b d : ℕ) (o : Op₂) (i j : ℕ) → Named a b → Named c d
      → nodes_groups (Fl a b ++ Fl c d ++ (two_n o i j ∷ [])) ≡ form_groups leafGroups a ++ form_groups leafGroups c
  two_named a c b d o i j h k =
      nodes_groups_append (Fl a b ++ Fl c d) (two_n o i j ∷ []) ∙ append-nil (nodes_groups (Fl a b ++ Fl c d)) ∙ nodes_groups_append (Fl a b) (Fl c d)
      ∙ ap₂ (λ (l m : List ℕ). l ++ m) h k

  flat_groups : (a : Form L) (b : ℕ) → Named a b
  unfolding flat
  flat_groups top b = refl
  flat_groups (leaf x) b = leaf-groups x b
  flat_groups (neg a) b = one_named a b neg₁ _ (flat_groups a b)
  flat_groups (next a) b = one_named a b next₁ _ (flat_groups a b)
  flat_groups (ev a) b = one_named a b ev₁ _ (flat_groups a b)
  flat_groups (gl a) b = one_named a b gl₁ _ (flat_groups a b)
  flat_groups (and a c) b = let d = b + nodes leaf_nodes a in two_named a c b d and₂ _ _ (flat_groups a b) (flat_groups c d)
  flat_groups (or a c) b = let d = b + nodes leaf_nodes a in two_named a c b d or₂ _ _ (flat_groups a b) (flat_groups c d)
  flat_groups (until a c) b = let d = b + nodes leaf_nodes a in two_named a c b d until₂ _ _ (flat_groups a b) (flat_groups c d)
  flat_groups (release a c) b = let d = b + nodes leaf_nodes a in two_named a c b d release₂ _ _ (flat_groups a b) (flat_groups c d)

-- marks name none
none_form : (a : Inner) → form_groups {L = ℕ} (λ k. []) a ≡ []
none_form top = refl
none_form (leaf k) = refl
none_form (neg a) = none_form a
none_form (next a) = none_form a
none_form (ev a) = none_form a
none_form (gl a) = none_form a
none_form (and a b) = ap₂ (λ (l m : List ℕ). l ++ m) (none_form a) (none_form b)
none_form (or a b) = ap₂ (λ (l m : List ℕ). l ++ m) (none_form a) (none_form b)
none_form (until a b) = ap₂ (λ (l m : List ℕ). l ++ m) (none_form a) (none_form b)
none_form (release a b) = ap₂ (λ (l m : List ℕ). l ++ m) (none_form a) (none_form b)

mark_groups : (k b : ℕ) → nodes_groups (flat_mark k b) ≡ []
unfolding flat_mark
mark_groups k b = refl

count_groups_lem : (x : Counted) (b : ℕ) → nodes_groups (flat_count x b) ≡ count_groups x
unfolding flat_count flat_inner
count_groups_lem (counted a x) b =
    let h = flat_groups (λ k. []) mark_nodes flat_mark mark_groups a b ∙ none_form a in
    nodes_groups_append (flat mark_nodes flat_mark a b) (count_n ((b + nodes mark_nodes a) - 1) x ∷ [])
    ∙ ap (λ (l : List ℕ). l ++ (amount_groups x ++ [])) h ∙ append-nil (amount_groups x)

-- so the first group of the text that meets a test is that of the first node that does
pub clause_groups : (c : Clause) (b : ℕ) → nodes_groups (flat_clause c b) ≡ groups c
unfolding flat_clause
clause_groups c b = flat_groups count_groups count_nodes flat_count count_groups_lem c b
