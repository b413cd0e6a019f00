-- An operator's node behind its operands': the part that it makes.
use Rattle.std.specs.Prelude.{ℕ, suc, ◌+◌, ◌-◌, ◌*◌, ◌≤◌, ◌≡◌, Result, Ok, Err, drop}
use native.Mathlib.Omega.{arith}
use Rattle.std.proofs.Math.Path.{refl, ap, ap₂}
use Rattle.std.proofs.Common.{sym, subst, ◌∙◌}
use mathlib.Core.List.{List, [], ◌∷◌, ◌++◌, append_assoc, append-nil}
use Rattle.std.proofs.Math.ListN.{length, length-append}
use Rattle.record.specs.Buffer.{stored}
use Rattle.record.specs.Stored.{stored_more, length-stored}
use Rattle.grammar.specs.Grammar.{Form, amount}
use Rattle.grammar.specs.Limits.{nodes}
use Rattle.grammar.specs.Nodes.{Node, top_n, mark_n, count_n, one_n, two_n, Op₁, Op₂, flat}
use Rattle.grammar.specs.Reader.{Got, got, no, Reader, bind}
use Rattle.token.specs.Block.{one_byte, two_byte, node_bytes, nodes_bytes}
use Rattle.token.specs.Parts.{Held, PartIs}
use Rattle.token.specs.More.{more_one, WithNode}
use Rattle.token.specs.declared.Part.{Part}
use Rattle.token.specs.declared.Fault.{Fault}

four : (x : Node) → length (node_bytes x) ≡ 4
four top_n = refl
four (mark_n k) = refl
four (count_n j (amount n p o)) = refl
four (one_n o j) = refl
four (two_n o j k) = refl

pub length_nodes : (ns : List Node) → length (nodes_bytes ns) ≡ 4 * length ns
unfolding nodes_bytes
length_nodes [] = refl
length_nodes (x ∷ ns) = omega (arith, length-append (node_bytes x) (nodes_bytes ns), four x, length_nodes ns)

pub nodes_append : (ns ms : List Node) → nodes_bytes (ns ++ ms) ≡ nodes_bytes ns ++ nodes_bytes ms
unfolding nodes_bytes
nodes_append [] ms = refl
nodes_append (x ∷ ns) ms = ap (λ (l : List ℕ). node_bytes x ++ l) (nodes_append ns ms) ∙ sym (append_assoc (node_bytes x) (nodes_bytes ns) (nodes_bytes ms))

pub nodes_one : (x : Node) → nodes_bytes (x ∷ []) ≡ node_bytes x
unfolding nodes_bytes
nodes_one x = append-nil (node_bytes x)

-- nodes stored behind nodes
pub stored_nodes : (before : List ℕ) (n : ℕ) (ns ms : List Node) → 4 * (n + length ns) ≤ length before
    → stored (stored before (4 * n) (nodes_bytes ns)) (4 * (n + length ns)) (nodes_bytes ms) ≡ stored before (4 * n) (nodes_bytes (ns ++ ms))
stored_nodes before n ns ms room =
    let at : 4 * (n + length ns) ≡ 4 * n + length (nodes_bytes ns) = omega (arith, length_nodes ns) in
    ap (λ (k : ℕ). stored (stored before (4 * n) (nodes_bytes ns)) k (nodes_bytes ms)) at
    ∙ stored_more before (4 * n) (nodes_bytes ns) (nodes_bytes ms) (omega arith) ∙ ap (stored before (4 * n)) (sym (nodes_append ns ms))

-- a refused part stays refused, whatever was to follow it
pub stay : {L M : Type 0} (leaf_nodes : L → ℕ) (leaf_flat : L → ℕ → List Node) (leaf_nodes₁ : M → ℕ) (leaf_flat₁ : M → ℕ → List Node) (s : List ℕ)
    (n left n₁ left₁ : ℕ) (mid before : List ℕ) (f : Fault) (after : List ℕ) (g : Got (Form L))
    → PartIs leaf_nodes leaf_flat s n left mid (Err f) after g → length mid ≡ length before → (k : Form L → Reader (Form M))
    → PartIs leaf_nodes₁ leaf_flat₁ s n₁ left₁ before (Err f) after (bind g k)
unfolding bind
stay leaf_nodes leaf_flat leaf_nodes₁ leaf_flat₁ s n left n₁ left₁ mid before f after (got a m t) h long k = absurd h
stay leaf_nodes leaf_flat leaf_nodes₁ leaf_flat₁ s n left n₁ left₁ mid before f after (no w t) h long k = record {
  number = h.number;
  some = h.some;
  behind = h.behind;
  inside = h.inside;
  block = h.block ∙ long;
}

module _ {L : Type 0} (leaf_nodes : L → ℕ) (leaf_flat : L → ℕ → List Node)
    (fl : (a : Form L) (b : ℕ) → length (flat leaf_nodes leaf_flat a b) ≡ nodes leaf_nodes a) (s : List ℕ) where
  abbrev N : Form L → ℕ
  N a = nodes leaf_nodes a

  abbrev Fl : Form L → ℕ → List Node
  Fl a b = flat leaf_nodes leaf_flat a b

  -- a node put behind a part that was read
  module _ (n left : ℕ) (before mid : List ℕ) (r : Part) (m : ℕ) (t : List ℕ) (x : Node) (q : Part) (after : List ℕ)
      (ns : List Node) (b : Form L) (is : Fl b n ≡ ns ++ (x ∷ [])) (behind : drop r.at s ≡ t) (inside : r.at ≤ length s)
      (allowed : r.left ≡ m) (slots : r.n ≡ n + length ns) (kept : r.n + r.left + 1 ≡ n + left) (block : mid ≡ stored before (4 * n) (nodes_bytes ns))
      (long : length before ≡ 512) (few : n + left ≤ 128) (g : WithNode mid r (node_bytes x) q after) where
    pub put_behind : Held leaf_nodes leaf_flat s n left before q after b m t
    put_behind =
        let e : q ≡ more_one r = g.part in
        let nq : q.n ≡ r.n + 1 = ap (λ (p : Part). p.n) e in
        let lq : q.left ≡ r.left = ap (λ (p : Part). p.left) e in
        let size = ap length is ∙ length-append ns (x ∷ []) in
        record {
          behind = ap (λ (p : Part). drop p.at s) e ∙ behind;
          inside = subst (λ (p : Part). p.at ≤ length s) (sym e) inside;
          allowed = lq ∙ allowed;
          slots = omega arith;
          kept = omega arith;
          block =
              g.block ∙ ap₂ (λ (l : List ℕ) (k : ℕ). stored l (4 * k) (node_bytes x)) block slots
              ∙ ap (stored (stored before (4 * n) (nodes_bytes ns)) (4 * (n + length ns))) (sym (nodes_one x))
              ∙ stored_nodes before n ns (x ∷ []) (omega arith) ∙ ap (λ (l : List Node). stored before (4 * n) (nodes_bytes l)) (sym is);
        }

  -- an operator over one part
  module _ (o : Op₁) (mk : Form L → Form L) (flat-mk : (a : Form L) (b : ℕ) → Fl (mk a) b ≡ Fl a b ++ (one_n o ((b + N a) - 1) ∷ [])) where
    pub one_part : (n left : ℕ) (before : List ℕ) (r : Part) (mid : List ℕ) (g : Got (Form L)) (q : Part) (after : List ℕ)
        → PartIs leaf_nodes leaf_flat s n left before (Ok r) mid g → length before ≡ 512 → n + suc left ≤ 128
        → WithNode mid r (one_byte o ∷ (r.n - 1) ∷ 0 ∷ 0 ∷ []) q after
        → PartIs leaf_nodes leaf_flat s n (suc left) before (Ok q) after (bind g (λ a m t. got (mk a) m t))
    unfolding bind
    one_part n left before r mid (no w t) q after h long few g = absurd h
    one_part n left before r mid (got a m t) q after h long few g =
        let e : (r.n - 1) ≡ (n + N a) - 1 = omega (arith, h.slots, fl a n) in
        put_behind n (suc left) before mid r m t (one_n o ((n + N a) - 1)) q after (Fl a n) (mk a) (flat-mk a n) h.behind h.inside h.allowed
        h.slots (omega (arith, h.kept)) h.block long few (subst (λ (k : ℕ). WithNode mid r (one_byte o ∷ k ∷ 0 ∷ 0 ∷ []) q after) e g)

  -- an operator over two
  module _ (o : Op₂) (mk : Form L → Form L → Form L)
      (flat-mk : (a c : Form L) (b : ℕ) → Fl (mk a c) b ≡ (Fl a b ++ Fl c (b + N a)) ++ (two_n o ((b + N a) - 1) (((b + N a) + N c) - 1) ∷ [])) where
    pub two_parts : (n left : ℕ) (before : List ℕ) (r : Part) (mid : List ℕ) (a : Form L) (m : ℕ) (t : List ℕ)
        → Held leaf_nodes leaf_flat s n left before r mid a (suc m) t
        → length before ≡ 512 → n + left ≤ 128 → (p : Part) (late : List ℕ) (g : Got (Form L)) → PartIs leaf_nodes leaf_flat s r.n m mid (Ok p) late g
        → (q : Part) (after : List ℕ) → WithNode late p (two_byte o ∷ (r.n - 1) ∷ (p.n - 1) ∷ 0 ∷ []) q after
        → PartIs leaf_nodes leaf_flat s n left before (Ok q) after (bind g (λ c m₂ t₂. got (mk a c) m₂ t₂))
    unfolding bind
    two_parts n left before r mid a m t h long few p late (no w t₂) k q after g = absurd k
    two_parts n left before r mid a m t h long few p late (got c m₂ t₂) k q after g =
        let na = fl a n in
        let nc = fl c r.n in
        let rn : r.n ≡ n + N a = omega (arith, h.slots) in
        let ns : List Node = Fl a n ++ Fl c (n + N a) in
        let same : Fl c r.n ≡ Fl c (n + N a) = ap (Fl c) rn in
        let size = length-append (Fl a n) (Fl c (n + N a)) in
        let nc' = fl c (n + N a) in
        let first : (r.n - 1) ≡ (n + N a) - 1 = omega arith in
        let last : (p.n - 1) ≡ ((n + N a) + N c) - 1 = omega (arith, k.slots) in
        let both : late ≡ stored before (4 * n) (nodes_bytes ns) =
        k.block ∙ ap₂ (λ (l : List ℕ) (i : ℕ). stored l (4 * i) (nodes_bytes (Fl c r.n))) h.block h.slots
        ∙ ap (λ (l : List Node). stored (stored before (4 * n) (nodes_bytes (Fl a n))) (4 * (n + length (Fl a n))) (nodes_bytes l)) same
        ∙ stored_nodes before n (Fl a n) (Fl c (n + N a)) (omega (arith, h.slots, h.kept)) in
        put_behind n left before late p m₂ t₂ (two_n o ((n + N a) - 1) (((n + N a) + N c) - 1)) q after ns (mk a c) (flat-mk a c n)
        k.behind k.inside k.allowed
        (omega (arith, k.slots)) (omega (arith, k.kept, h.kept, h.allowed)) both long few
        (subst (λ (j : ℕ). WithNode late p (two_byte o ∷ ((n + N a) - 1) ∷ j ∷ 0 ∷ []) q after) last
        (subst (λ (i : ℕ). WithNode late p (two_byte o ∷ i ∷ (p.n - 1) ∷ 0 ∷ []) q after) first g))

  -- the block keeps its length
  pub part_length : (n left : ℕ) (before : List ℕ) (r : Result Part Fault) (block : List ℕ) (g : Got (Form L))
      → PartIs leaf_nodes leaf_flat s n left before r block g → length before ≡ 512 → n + left ≤ 128 → length block ≡ length before
  part_length n left before (Err f) block (no w t) h long few = h.block
  part_length n left before (Ok r) block (no w t) h long few = absurd h
  part_length n left before (Err f) block (got a m t) h long few = absurd h
  part_length n left before (Ok r) block (got a m t) h long few =
      ap length h.block ∙ length-stored before (4 * n) (nodes_bytes (Fl a n)) (omega (arith, length_nodes (Fl a n), h.slots, h.kept))
