-- The block that holds a clause's nodes: they are in order, and the last of them stands for the clause.
use Prim.Native.Nat.{ℕ, zero, suc, ◌+◌, ◌-◌, ◌*◌, ◌/◌, ◌%◌, ◌≤◌, ◌<◌}
use Rattle.std.specs.Prelude.{◌≡◌, refl, Bool, true, false, List, [], ◌∷◌, ◌++◌, eqb, length, drop, get_or}
use Rattle.std.proofs.Common.{ap, ap₂, subst, sym, ◌∙◌, append_assoc, append-nil, arith, length-append, get_or-append-add}
use Rattle.record.specs.Buffer.{stored}
use Rattle.record.specs.Stored.{length-stored, stored_front}
use Rattle.grammar.specs.Grammar.{Form, top, leaf, neg, and, or, next, until, release, ev, gl, Inner, Over, fleet, group, Amount, amount, Counted, counted, Clause}
use Rattle.grammar.specs.Limits.{nodes, mark_nodes, count_nodes, InRange, MarkOk, AmountOk, CountOk}
use Rattle.grammar.specs.Nodes.{Node, top_n, mark_n, count_n, one_n, two_n, Op₁, neg₁, next₁, ev₁, gl₁, Op₂, and₂, or₂, until₂, release₂, flat, flat_mark, flat_inner, flat_count, flat_clause, node, Stands, StandsMark, StandsCount}
use Rattle.grammar.specs.Groups.{groups, node_groups, nodes_groups, clause_groups}
use Rattle.grammar.proofs.Standing.{node_some, flat-length, clause_stands, clause_length}
use Rattle.token.specs.Block.{count_byte, over_number, node_bytes, nodes_bytes}
use Rattle.token.specs.Joined.{length_nodes, nodes_one}
use Rattle.drift.specs.Need.{SixPairsDo}
use Rattle.drift.specs.Needing.{six_pairs}
use Rattle.plancheck.specs.NodeNeeds.{clause_need}
use Rattle.drift.specs.Lacking.{groups_from}
use Rattle.drift.specs.Tree.{over_of, amount_of, node_at, OperandsBelow, Ordered, one, two, form_of, tree, inner_tree, clause_tree}

---- The nodes come back from their bytes.
-- a count's number has ten bits, and the carts that it is over stand above them
abbrev pub FitsBytes : Node → Type 0
FitsBytes top_n = Unit {0}
FitsBytes (mark_n m) = Unit {0}
FitsBytes (count_n i (amount m percent o)) = m < 1024
FitsBytes (one_n o i) = Unit {0}
FitsBytes (two_n o i j) = Unit {0}

kind_back : (p : Bool) → eqb (count_byte p) 11 ≡ p
kind_back true = refl
kind_back false = refl

over_back : (o : Over) → over_of (over_number o) ≡ o
over_back fleet = refl
over_back (group g) = refl

amount_back : (m : ℕ) (p : Bool) (o : Over) → m < 1024 → amount_of (count_byte p) (m % 256) (m / 256 + 4 * over_number o) ≡ amount m p o
amount_back m p o few =
    let k = over_number o in
    let number : m % 256 + 256 * ((m / 256 + 4 * k) % 4) ≡ m = omega arith in
    let over : (m / 256 + 4 * k) / 4 ≡ k = omega arith in
    ap₂ (λ (n c : ℕ). amount n (eqb (count_byte p) 11) (over_of c)) number over ∙ ap₂ (λ (b : Bool) (z : Over). amount m b z) (kind_back p) (over_back o)

count_back : (i m : ℕ) (p : Bool) (o : Over) (rest : List ℕ) → m < 1024 → node_at (node_bytes (count_n i (amount m p o)) ++ rest) 0 ≡ count_n i (amount m p o)
count_back i m false o rest few = ap (count_n i) (amount_back m false o few)
count_back i m true o rest few = ap (count_n i) (amount_back m true o few)

pub node_back : (x : Node) (rest : List ℕ) → FitsBytes x → node_at (node_bytes x ++ rest) 0 ≡ x
node_back top_n rest few = refl
node_back (mark_n m) rest few = refl
node_back (count_n i (amount m p o)) rest few = count_back i m p o rest few
node_back (one_n neg₁ i) rest few = refl
node_back (one_n next₁ i) rest few = refl
node_back (one_n ev₁ i) rest few = refl
node_back (one_n gl₁ i) rest few = refl
node_back (two_n and₂ i j) rest few = refl
node_back (two_n or₂ i j) rest few = refl
node_back (two_n until₂ i j) rest few = refl
node_back (two_n release₂ i j) rest few = refl

-- behind a node's four bytes
byte_behind : (x : Node) (s : List ℕ) (m k : ℕ) → m ≡ 4 + k → get_or (node_bytes x ++ s) m 0 ≡ get_or s k 0
byte_behind x s m k e =
    let at : m ≡ length (node_bytes x) + k = omega (arith, ap length (nodes_one x), length_nodes (x ∷ [])) in
    ap (λ (i : ℕ). get_or (node_bytes x ++ s) i 0) at ∙ get_or-append-add (node_bytes x) s k 0

node_behind : (x : Node) (s : List ℕ) (k : ℕ) → node_at (node_bytes x ++ s) (suc k) ≡ node_at s k
node_behind x s k =
    let a = byte_behind x s (4 * suc k) (4 * k) (omega arith) in
    let b = byte_behind x s (4 * suc k + 1) (4 * k + 1) (omega arith) in
    let c = byte_behind x s (4 * suc k + 2) (4 * k + 2) (omega arith) in
    let d = byte_behind x s (4 * suc k + 3) (4 * k + 3) (omega arith) in
    rw (a, b, c, d)

-- Each node is below its number, where the first has number b, and fits its bytes.
abbrev pub AllFrom : ℕ → List Node → Type 0
AllFrom b [] = Unit {0}
AllFrom b (x ∷ ns) = (OperandsBelow b x × FitsBytes x) × AllFrom (suc b) ns

bytes_at : (b : ℕ) (ns : List Node) (rest : List ℕ) → AllFrom b ns → (k : ℕ) → k < length ns → node_at (nodes_bytes ns ++ rest) k ≡ node ns k
unfolding nodes_bytes
bytes_at b [] rest h k q = absurd (omega arith)
bytes_at b (x ∷ ns) rest h zero q =
    ap (λ (s : List ℕ). node_at s 0) (append_assoc (node_bytes x) (nodes_bytes ns) rest) ∙ node_back x (nodes_bytes ns ++ rest) h.0.1
bytes_at b (x ∷ ns) rest h (suc k) q =
    ap (λ (s : List ℕ). node_at s (suc k)) (append_assoc (node_bytes x) (nodes_bytes ns) rest)
    ∙ node_behind x (nodes_bytes ns ++ rest) k ∙ bytes_at (suc b) ns rest h.1 k (omega arith)

module _ (before : List ℕ) (ns : List Node) (all : AllFrom 0 ns) where
  pub held_at : (k : ℕ) → k < length ns → node_at (stored before 0 (nodes_bytes ns)) k ≡ node ns k
  held_at k q =
      ap (λ (s : List ℕ). node_at s k) (stored_front before (nodes_bytes ns)) ∙ bytes_at 0 ns (drop (length (nodes_bytes ns)) before) all k q

pub held_length : (before : List ℕ) (ns : List Node) → 4 * length ns ≤ length before → length (stored before 0 (nodes_bytes ns)) ≡ length before
held_length before ns room = length-stored before 0 (nodes_bytes ns) (omega (arith, length_nodes ns))

pub all_append : (b : ℕ) (ns ms : List Node) → AllFrom b ns → AllFrom (b + length ns) ms → AllFrom b (ns ++ ms)
all_append b [] ms h g = let e : b + 0 ≡ b = omega arith in rw e at g
all_append b (x ∷ ns) ms h g =
    let e : b + suc (length ns) ≡ suc b + length ns = omega arith in (h.0, all_append (suc b) ns ms h.1 (rw e at g))

all_at_lem : (b : ℕ) (ns : List Node) → AllFrom b ns → (k : ℕ) → k < length ns → OperandsBelow (b + k) (node ns k)
all_at_lem b [] h k q = absurd (omega arith)
all_at_lem b (x ∷ ns) h zero q = let e : b + 0 ≡ b = omega arith in rw e h.0.0
all_at_lem b (x ∷ ns) h (suc k) q = let e : b + suc k ≡ suc b + k = omega arith in rw e (all_at_lem (suc b) ns h.1 k (omega arith))

-- one more node
all_snoc : (b : ℕ) (ns : List Node) (x : Node) → AllFrom b ns → OperandsBelow (b + length ns) x × FitsBytes x → AllFrom b (ns ++ (x ∷ []))
all_snoc b ns x h g = all_append b ns (x ∷ []) h (g, tt)

module _ {L : Type 0} (leaf_nodes : L → ℕ) (leaf_flat : L → ℕ → List Node) (Ok : L → Type 0) (some : (x : L) → 1 ≤ leaf_nodes x)
    (leaf-length : (x : L) (b : ℕ) → length (leaf_flat x b) ≡ leaf_nodes x)
    (leaf-all : (x : L) (b : ℕ) → Ok x → AllFrom b (leaf_flat x b)) where
  abbrev N : Form L → ℕ
  N a = nodes leaf_nodes a

  abbrev Fl : Form L → ℕ → List Node
  Fl a b = flat leaf_nodes leaf_flat a b

  -- as many as the limit counts, whatever they stand for
  fl_length : (a : Form L) (b : ℕ) → length (Fl a b) ≡ N a
  fl_length a b = flat-length leaf_nodes leaf_flat (λ ns i x. Unit {0}) some leaf-length (λ x p q. tt) a b

  fl_some : (a : Form L) → 1 ≤ N a
  fl_some a = node_some leaf_nodes leaf_flat (λ ns i x. Unit {0}) some leaf-length (λ x p q. tt) a

  -- a text's last node is before what stands behind it
  last_below : (a : Form L) (b : ℕ) → (b + N a) - 1 < b + length (Fl a b)
  last_below a b = omega (arith, fl_length a b, fl_some a)

  one_all : (o : Op₁) (a : Form L) (b : ℕ) → AllFrom b (Fl a b) → AllFrom b (Fl a b ++ (one_n o ((b + N a) - 1) ∷ []))
  one_all o a b h = all_snoc b (Fl a b) _ h (last_below a b, tt)

  two_all : (o : Op₂) (a c : Form L) (b : ℕ) → let m =
      b + N a in AllFrom b (Fl a b) → AllFrom m (Fl c m) → AllFrom b (Fl a b ++ Fl c m ++ (two_n o (m - 1) ((m + N c) - 1) ∷ []))
  two_all o a c b h g =
      let m = b + N a in
      let l = fl_length a b in
      let e : m ≡ b + length (Fl a b) = omega arith in
      let n = length-append (Fl a b) (Fl c m) in
      let p = last_below a b in
      let q = last_below c m in
      all_snoc b (Fl a b ++ Fl c m) _ (all_append b (Fl a b) (Fl c m) h (subst (λ (k : ℕ). AllFrom k (Fl c m)) e g)) ((omega arith, omega arith), tt)

  flat_all : (a : Form L) (b : ℕ) → InRange Ok a → AllFrom b (Fl a b)
  unfolding flat
  flat_all top b ok = ((tt, tt), tt)
  flat_all (leaf x) b ok = leaf-all x b ok
  flat_all (neg a) b ok = one_all neg₁ a b (flat_all a b ok)
  flat_all (next a) b ok = one_all next₁ a b (flat_all a b ok)
  flat_all (ev a) b ok = one_all ev₁ a b (flat_all a b ok)
  flat_all (gl a) b ok = one_all gl₁ a b (flat_all a b ok)
  flat_all (and a c) b ok = two_all and₂ a c b (flat_all a b ok.0) (flat_all c (b + N a) ok.1)
  flat_all (or a c) b ok = two_all or₂ a c b (flat_all a b ok.0) (flat_all c (b + N a) ok.1)
  flat_all (until a c) b ok = two_all until₂ a c b (flat_all a b ok.0) (flat_all c (b + N a) ok.1)
  flat_all (release a c) b ok = two_all release₂ a c b (flat_all a b ok.0) (flat_all c (b + N a) ok.1)

mark_some : (k : ℕ) → 1 ≤ mark_nodes k
mark_some k = omega arith

mark_length : (k b : ℕ) → length (flat_mark k b) ≡ mark_nodes k
unfolding flat_mark
mark_length k b = refl

mark_all : (k b : ℕ) → MarkOk k → AllFrom b (flat_mark k b)
unfolding flat_mark
mark_all k b ok = ((omega arith, tt), tt)

count_some : (x : Counted) → 1 ≤ count_nodes x
count_some (counted a x) = omega arith

count_length : (x : Counted) (b : ℕ) → length (flat_count x b) ≡ count_nodes x
unfolding flat_count flat_inner
count_length (counted a x) b = let h = fl_length mark_nodes flat_mark MarkOk mark_some mark_length mark_all a b in simp length-append (omega arith)

count_all : (x : Counted) (b : ℕ) → CountOk x → AllFrom b (flat_count x b)
unfolding flat_count flat_inner
count_all (counted a x) b ok =
    all_snoc b (flat mark_nodes flat_mark a b) _ (flat_all mark_nodes flat_mark MarkOk mark_some mark_length mark_all a b ok.0)
    (last_below mark_nodes flat_mark MarkOk mark_some mark_length mark_all a b, few x ok.1 ((b + nodes mark_nodes a) - 1))
  where
    few : (x : Amount) → AmountOk x → (i : ℕ) → FitsBytes (count_n i x)
    few (amount m false o) q i = omega arith
    few (amount m true o) q i = omega arith

pub clause_all : (c : Clause) (b : ℕ) → InRange CountOk c → AllFrom b (flat_clause c b)
unfolding flat_clause
clause_all c b ok = flat_all count_nodes flat_count CountOk count_some count_length count_all c b ok

pub held_ordered : (before : List ℕ) (ns : List Node) → 4 * length ns ≤ length before → AllFrom 0 ns → Ordered (stored before 0 (nodes_bytes ns)) (length ns)
held_ordered before ns room h = record {
  room = omega (arith, held_length before ns room);
  below = λ k q. let e : 0 + k ≡ k = omega arith in subst (λ (x : Node). OperandsBelow k x) (sym (held_at before ns h k q)) (rw e at (all_at_lem 0 ns h k q));
}

---- A node's tree is the text that it stands for.
module _ (block : List ℕ) (ns : List Node) (room : length ns ≤ length block) (at : (k : ℕ) → k < length ns → node_at block k ≡ node ns k) where
  module _ {L : Type 0} (mark : ℕ → Form L) (count : ℕ → Amount → Form L) where
    -- however deep the look, past the node's number
    tree_at : (i n : ℕ) → i < n → (x : Node) → node_at block i ≡ x → (a : Form L)
        → ((m : ℕ) → i ≤ m → form_of mark count (λ j. tree mark count block m j) x ≡ a) → tree mark count block n i ≡ a
    unfolding tree
    tree_at i zero q x e a f = absurd (omega arith)
    tree_at i (suc n) q x e a f = rw e (f n (omega arith))

    module _ (Leaf : List Node → ℕ → L → Type 0)
        (leaf-tree : (i : ℕ) → i < length ns → (x : L) → Leaf ns i x → (f : ℕ → Form L) → form_of mark count f (node ns i) ≡ leaf x) where
      abbrev IsTree : ℕ → Form L → Type 0
      IsTree i a = (n : ℕ) → i < n → tree mark count block n i ≡ a

      abbrev AreTrees : Form L → Type 0
      AreTrees a = (i : ℕ) → i < length ns → Stands Leaf ns i a → IsTree i a

      one_tree : (o : Op₁) (a : Form L) → AreTrees a → (i : ℕ) → i < length ns → (j : ℕ) × (j < i) × (node ns i ≡ one_n o j) × Stands Leaf ns j a
          → IsTree i (one o a)
      one_tree o a f i p (j, l, e, s) n q = tree_at i n q (one_n o j) (at i p ∙ e) (one o a) (λ m z. ap (one o) (f j (omega arith) s m (omega arith)))

      two_tree : (o : Op₂) (a c : Form L) → AreTrees a → AreTrees c → (i : ℕ) → i < length ns
          → (j k : ℕ) × (j < i) × (k < i) × (node ns i ≡ two_n o j k) × Stands Leaf ns j a × Stands Leaf ns k c → IsTree i (two o a c)
      two_tree o a c f g i p (j, k, l, r, e, s, t) n q =
          tree_at i n q (two_n o j k) (at i p ∙ e) (two o a c) (λ m z. ap₂ (two o) (f j (omega arith) s m (omega arith)) (g k (omega arith) t m (omega arith)))

      stands_tree : (a : Form L) → AreTrees a
      stands_tree top i p s = λ n q. tree_at i n q top_n (at i p ∙ s) top (λ m z. refl)
      stands_tree (leaf x) i p s = λ n q. tree_at i n q (node ns i) (at i p) (leaf x) (λ m z. leaf-tree i p x s _)
      stands_tree (neg a) i p s = one_tree neg₁ a (λ j l t. stands_tree a j l t) i p s
      stands_tree (next a) i p s = one_tree next₁ a (λ j l t. stands_tree a j l t) i p s
      stands_tree (ev a) i p s = one_tree ev₁ a (λ j l t. stands_tree a j l t) i p s
      stands_tree (gl a) i p s = one_tree gl₁ a (λ j l t. stands_tree a j l t) i p s
      stands_tree (and a c) i p s = two_tree and₂ a c (λ j l t. stands_tree a j l t) (λ j l t. stands_tree c j l t) i p s
      stands_tree (or a c) i p s = two_tree or₂ a c (λ j l t. stands_tree a j l t) (λ j l t. stands_tree c j l t) i p s
      stands_tree (until a c) i p s = two_tree until₂ a c (λ j l t. stands_tree a j l t) (λ j l t. stands_tree c j l t) i p s
      stands_tree (release a c) i p s = two_tree release₂ a c (λ j l t. stands_tree a j l t) (λ j l t. stands_tree c j l t) i p s

  inner_tree_lem : (a : Inner) (i : ℕ) → i < length ns → Stands StandsMark ns i a → (n : ℕ) → i < n → inner_tree block n i ≡ a
  unfolding inner_tree
  inner_tree_lem a i p s n q = stands_tree (λ m. leaf m) (λ i x. top) StandsMark (λ i p x e f. rw e) a i p s n q

  -- counts, whose inner text is looked up as deep as the block is long
  abbrev counts : ℕ → Amount → Form Counted
  counts i x = leaf (counted (inner_tree block (length block) i) x)

  count_tree : (i : ℕ) → i < length ns → (x : Counted) → StandsCount ns i x → (f : ℕ → Form Counted) → form_of (λ m. top) counts f (node ns i) ≡ leaf x
  count_tree i p (counted a x) (j, l, e, s) f =
      rw e (ap (λ (b : Inner). leaf (counted b x)) (inner_tree_lem a j (omega arith) s (length block) (omega arith)))

  pub clause_tree_lem : (c : Clause) (i : ℕ) → i < length ns → Stands StandsCount ns i c → (n : ℕ) → i < n → clause_tree block n i ≡ c
  unfolding clause_tree
  clause_tree_lem c i p s n q = stands_tree (λ m. top) counts StandsCount count_tree c i p s n q

-- the groups that the nodes name, in their order
held_groups : (block : List ℕ) (b : ℕ) (ns : List Node) → ((k : ℕ) → k < length ns → node_at block (b + k) ≡ node ns k)
    → groups_from block (length ns) b ≡ nodes_groups ns
unfolding groups_from
held_groups block b [] at = refl
held_groups block b (x ∷ ns) at =
    let z : b + 0 ≡ b = omega arith in
    ap₂ (λ (y : Node) (gs : List ℕ). node_groups y ++ gs) (ap (node_at block) (sym z) ∙ at 0 (omega arith))
    (held_groups block (suc b) ns (λ k q. let e : suc b + k ≡ b + suc k = omega arith in ap (node_at block) e ∙ at (suc k) (omega arith)))

-- a clause's last node stands for it
clause_last : (c : Clause) → let ns = flat_clause c 0 in Stands StandsCount ns (length ns - 1) c
clause_last c =
    let ns = flat_clause c 0 in
    let n = clause_length c 0 in
    let i : (0 + nodes count_nodes c) - 1 ≡ length ns - 1 = omega arith in
    subst (λ (k : ℕ). Stands StandsCount ns k c) i
    (subst (λ (l : List Node). Stands StandsCount l ((0 + nodes count_nodes c) - 1) c) (append-nil ns) (clause_stands c [] []))

-- a clause's nodes, at most 128, at the front of a block
pub held : (c : Clause) (before : List ℕ) → length before ≡ 512 → nodes count_nodes c ≤ 128 → InRange CountOk c → let ns =
    flat_clause c 0 in let block = stored before 0 (nodes_bytes ns) in
    (Ordered block (length ns)) × (0 < length ns) × (length block ≡ 512) × ((n : ℕ) → length ns ≤ n → clause_tree block n (length ns - 1) ≡ c)
    × SixPairsDo block (length ns - 1) × (groups_from block (length ns) 0 ≡ groups c)
held c before size small ok =
    let ns = flat_clause c 0 in
    let many = clause_length c 0 in
    let some = fl_some count_nodes flat_count CountOk count_some count_length count_all c in
    let room : 4 * length ns ≤ length before = omega arith in
    let long = held_length before ns room in
    let all = clause_all c 0 ok in
    let stands : Stands StandsCount ns (length ns - 1) c = clause_last c in (
      held_ordered before ns room all,
      omega arith,
      long ∙ size,
      λ n q. clause_tree_lem (stored before 0 (nodes_bytes ns)) ns (omega arith) (held_at before ns all) c (length ns - 1) (omega arith) stands n (omega arith),
      λ needs r.
          let e = clause_need (stored before 0 (nodes_bytes ns)) ns (held_at before ns all) needs (length ns - 1 + 1) (omega arith) r c (length ns - 1) (omega arith) stands in
          subst (λ (k : ℕ). k ≤ 6) (sym e) (six_pairs c small),
      held_groups (stored before 0 (nodes_bytes ns)) 0 ns
          (λ k q. let e : 0 + k ≡ k = omega arith in ap (node_at (stored before 0 (nodes_bytes ns))) e ∙ held_at before ns all k q) ∙ clause_groups c 0,
    )
