-- What the readers give is in the grammar and within the limits, and where they refuse some text of the grammar goes on.
use Prim.Native.Nat.{ℕ, zero, suc, ◌+◌, ◌≤◌, max}
use Rattle.std.specs.Prelude.{◌≡◌, length, eqb}
use Rattle.std.proofs.Math.Path.{refl, subst}
use Rattle.std.proofs.Common.{sym, arith}
use mathlib.Core.List.{List, [], ◌∷◌}
use borrow.Author.Tests.{eqb-true}
use Rattle.grammar.specs.Grammar.{Form, top, Spaces, none, space, other, Prefix, not, next, finally, globally, prefix_byte, prefixed, Reach, U, R, reach_byte, reached, Rank, small, Part, word, parens, prefix, one_small, reach, one_until, one_and}
use Rattle.grammar.specs.Limits.{level, nodes, InRange}
use Rattle.grammar.specs.Reader.{Reader, skip, literal, Kind, kind, Onward, stop, onward, Deeper, shut, open', chain_at, chain_more, chain, and_chain, or_chain, by_kind, small_at, small_of, by_onward, until_at, until_of, deeper, smalls, untils, ands, ors}
use Rattle.grammar.specs.Answers.{Token}
use Rattle.grammar.proofs.Ends.{Swap, here, there, Mode, near, whole, Keeps, keeps_13, keeps_14, swap_trans, swap_short, Framed, frame_spaces, frame_token, frame}
use Rattle.grammar.proofs.Each.{Each, gives, denies, each_bind, each_map, each_node, either, skip_spaces, each_expect, each_literal}

pub spaces_short : {s r : List ℕ} → Spaces s r → length r ≤ length s
spaces_short none = omega arith
spaces_short (space x) = let h = spaces_short x in omega arith

pub nodes_prefix : {L : Type 0} (f : L → ℕ) (o : Prefix) (a : Form L) → nodes f (prefixed o a) ≡ suc (nodes f a)
nodes_prefix f not a = refl
nodes_prefix f next a = refl
nodes_prefix f finally a = refl
nodes_prefix f globally a = refl

pub range_prefix : {L : Type 0} (P : L → Type 0) (o : Prefix) (a : Form L) → InRange P a → InRange P (prefixed o a)
range_prefix P not a x = x
range_prefix P next a x = x
range_prefix P finally a x = x
range_prefix P globally a x = x

pub nodes_reach : {L : Type 0} (f : L → ℕ) (o : Reach) (a b : Form L) → nodes f (reached o a b) ≡ suc (nodes f a + nodes f b)
nodes_reach f U a b = refl
nodes_reach f R a b = refl

pub range_reach : {L : Type 0} (P : L → Type 0) (o : Reach) (a b : Form L) → InRange P a → InRange P b → InRange P (reached o a b)
range_reach P U a b x y = (x, y)
range_reach P R a b x y = (x, y)

-- which byte a kind stands for
abbrev pub Shows : Kind → ℕ → Type 0
Shows Kind.word b = b ≡ 116
Shows Kind.paren b = b ≡ 40
Shows Kind.other b = Unit {0}
Shows (Kind.prefix o) b = b ≡ prefix_byte o

pub kind_shows : (b : ℕ) → Shows (kind b) b
kind_shows b =
    either (λ k. Shows k b) (eqb b 116) _ _ (eqb-true b 116)
    (λ x. either (λ k. Shows k b) (eqb b 40) _ _ (eqb-true b 40)
    (λ x. either (λ k. Shows k b) (eqb b 33) _ _ (eqb-true b 33)
    (λ x. either (λ k. Shows k b) (eqb b 88) _ _ (eqb-true b 88)
    (λ x. either (λ k. Shows k b) (eqb b 70) _ _ (eqb-true b 70)
    (λ x. either (λ k. Shows k b) (eqb b 71) _ _ (eqb-true b 71) (λ x. tt))))))

abbrev pub Leads : Onward → ℕ → Type 0
Leads stop b = Unit {0}
Leads (Onward.reach o) b = b ≡ reach_byte o

pub onward_leads : (b : ℕ) → Leads (onward b) b
onward_leads b = either (λ k. Leads k b) (eqb b 85) _ _ (eqb-true b 85) (λ x. either (λ k. Leads k b) (eqb b 82) _ _ (eqb-true b 82) (λ x. tt))

module _ {L : Type 0} (Leaf : List ℕ → List ℕ → L → Type 0) (leafLevel : (s r : List ℕ) (x : L) → Leaf s r x → ℕ) (leaf_nodes : L → ℕ) (Ok : L → Type 0) where
  pub record Reads (k : Rank) (l n : ℕ) (s : List ℕ) (a : Form L) (m : ℕ) (r : List ℕ) : Type 0 where
    pub part : Part Leaf k s r a
    pub low : level Leaf leafLevel part ≤ l
    pub used : n ≡ m + nodes leaf_nodes a
    pub ok : InRange Ok a

  -- with what stands before r kept, and as much of r as the refusal leaves, some text goes on to be such a part, whatever is to stand behind it
  abbrev pub Completed : Rank → List ℕ → ℕ → List ℕ → List ℕ → Mode → Type 0
  Completed k s w r t m = (q v s' : List ℕ) × (a : Form L) × Swap q v s s' × Part Leaf k s' t a × Keeps m w r q v × (m ≡ near → InRange Ok a)

  abbrev pub Completes : Rank → List ℕ → ℕ → List ℕ → Type 0
  Completes k s w r = (t : List ℕ) (m : Mode) → Completed k s w r t m

  pub modes : (k : Rank) (s : List ℕ) (w : ℕ) (r : List ℕ) → ((t : List ℕ) → Completed k s w r t near) → ((t : List ℕ) → Completed k s w r t whole)
      → Completes k s w r
  modes k s w r f g t near = f t
  modes k s w r f g t whole = g t

  pub record Refuses (k : Rank) (s : List ℕ) (w : ℕ) (r : List ℕ) : Type 0 where
    pub short : length r ≤ length s
    pub goes : Completes k s w r

  abbrev pub Good : Rank → ℕ → Reader (Form L) → Type 0
  Good k l rd = (n : ℕ) (s : List ℕ) → Each (Reads k l n s) (Refuses k s) (rd n s)

  abbrev pub GoodDeeper : ℕ → Deeper (Form L) → Type 0
  GoodDeeper l shut = l ≡ 0
  GoodDeeper l (open' sm un) = (i : ℕ) × (l ≡ suc i) × Good small i sm × Good Rank.untils i un

  -- a leaf's reading, from its first byte
  pub record LeafReads (l n : ℕ) (s : List ℕ) (x : L) (m : ℕ) (r : List ℕ) : Type 0 where
    pub leaf : Leaf s r x
    pub low : leafLevel s r x leaf ≤ l
    pub used : n ≡ m + leaf_nodes x
    pub ok : Ok x

  abbrev pub GoodLeaf : ℕ → Reader L → Type 0
  GoodLeaf l lf = (n : ℕ) (s₀ s : List ℕ) → Spaces s₀ s → Each (LeafReads l n s₀) (Refuses small s₀) (lf n s)

  -- a whole token past a limit: a text goes on behind it
  pub token_refuses : (k : Rank) {s r r₁ : List ℕ} → Spaces s r → Token r r₁ → (a : Form L) → InRange Ok a
      → ((t : List ℕ) → (v v₁ : List ℕ) × Swap r₁ v₁ r v × ((s' : List ℕ) → Spaces s' v → Part Leaf k s' t a)) → Refuses k s 14 r
  token_refuses k {r = r} x o a ok f = record {
    short = spaces_short x;
    goes = λ t m. let g = f t in let y = frame_spaces x g.0 in (r, g.0, y.0, a, y.1, g.3 y.0 y.2, keeps_14 refl o g.2, λ e. ok);
  }

  -- of one byte
  pub byte_refuses : (k : Rank) {s r : List ℕ} (b : ℕ) → Spaces s (b ∷ r) → Token (b ∷ r) r → (behind : List ℕ → List ℕ) (a : Form L) → InRange Ok a
      → ((s' t : List ℕ) → Spaces s' (b ∷ behind t) → Part Leaf k s' t a) → Refuses k s 14 (b ∷ r)
  byte_refuses k b x o behind a ok f = token_refuses k x o a ok (λ t. (b ∷ behind t, behind t, there here, λ s' y. f s' t y))

  -- what is refused behind something that stands in the grammar
  pub through : {k k' : Rank} {s s₁ r : List ℕ} (w : ℕ) (Rel : List ℕ → List ℕ → Type 0) (tail : List ℕ → List ℕ) → Framed Rel s s₁ → Refuses k' s₁ w r
      → ((s' s₁' t : List ℕ) (a : Form L) → Rel s' s₁' → Part Leaf k' s₁' (tail t) a → (b : Form L) × Part Leaf k s' t b × (InRange Ok a → InRange Ok b))
      → Refuses k s w r
  through {s₁ = s₁} w Rel tail f q build = record {
    short = let h = swap_short (f s₁).1 in let i = q.short in omega arith;
    goes = λ t m.
        let y = q.goes (tail t) m in
        let z = f y.2 in
        let b = build z.0 y.2 t y.3 z.2 y.5 in
        (y.0, y.1, z.0, b.0, swap_trans z.1 y.4, b.1, y.6, λ e. b.2 (y.7 e));
  }

  -- where a smallest part has to begin, `true` may stand
  pub true_near : (w : ℕ) {s r : List ℕ} → Spaces s r → (m : Mode) → ((v : List ℕ) → Keeps m w r r v) → (t : List ℕ) → Completed small s w r t m
  true_near w {r = r} x m k t = let v : List ℕ = 116 ∷ 114 ∷ 117 ∷ 101 ∷ t in let y = frame_spaces x v in (r, v, y.0, top, y.1, word y.2, k v, λ e. tt)

  pub true_refuses : {s r : List ℕ} → Spaces s r → Refuses small s 13 r
  true_refuses x = record { short = spaces_short x; goes = λ t m. true_near 13 x m (λ v. keeps_13 refl) t }

  module _ (frame-leaf : (s r : List ℕ) (x : L) → Leaf s r x → Framed (λ s r. Leaf s r x) s r) where
    pub part_short : {k : Rank} {s r : List ℕ} {a : Form L} → Part Leaf k s r a → length r ≤ length s
    part_short {r = r} p = swap_short (frame Leaf frame-leaf p r).1

    -- a chain over parts of rank k₁ is a part of rank k₂
    module _ (k₁ k₂ : Rank) (c : ℕ) (join : Form L → Form L → Form L)
        (join-nodes : (a b : Form L) → nodes leaf_nodes (join a b) ≡ suc (nodes leaf_nodes a + nodes leaf_nodes b))
        (join-range : (a b : Form L) → InRange Ok a → InRange Ok b → InRange Ok (join a b))
        (one : (s r : List ℕ) (a : Form L) (p : Part Leaf k₁ s r a) → (q : Part Leaf k₂ s r a) × (level Leaf leafLevel q ≡ level Leaf leafLevel p))
        (more : (s s₁ s₂ r : List ℕ) (a b : Form L) (p : Part Leaf k₂ s s₁ a) → Spaces s₁ (c ∷ s₂) → (q : Part Leaf k₁ s₂ r b)
        → (z : Part Leaf k₂ s r (join a b)) × (level Leaf leafLevel z ≡ max (level Leaf leafLevel p) (level Leaf leafLevel q)))
        (plain : (t : List ℕ) → Part Leaf k₁ (116 ∷ 114 ∷ 117 ∷ 101 ∷ t) t top)
        (operator : (r : List ℕ) → Token (c ∷ r) r) (l : ℕ) (sub : Reader (Form L)) (good : Good k₁ l sub) where
      -- the operator past the nodes
      joint_refuses : {s r r₁ : List ℕ} {a : Form L} → Part Leaf k₂ s r a → InRange Ok a → Spaces r (c ∷ r₁) → Refuses k₂ s 14 (c ∷ r₁)
      joint_refuses {r₁ = r₁} {a = a} p ok x = record {
        short = let h = spaces_short x in let h₂ = part_short p in omega arith;
        goes = λ t m.
            let v : List ℕ = 116 ∷ 114 ∷ 117 ∷ 101 ∷ t in
            let y = frame_spaces x (c ∷ v) in
            let u = frame Leaf frame-leaf p y.0 in (
              c ∷ r₁,
              c ∷ v,
              u.0,
              join a top,
              swap_trans u.1 y.1,
              (more u.0 y.0 v t a top u.2 y.2 (plain t)).0,
              keeps_14 refl (operator r₁) (there here),
              λ e. join-range a top ok tt,
            );
      }

      chain_at_lem : {P : Form L → ℕ → List ℕ → Type 0} {Q : ℕ → List ℕ → Type 0} (a : Form L) (n : ℕ) (r : List ℕ) (go : Reader (Form L)) (r' : List ℕ)
          → Spaces r r'
          → P a n r → ((m : ℕ) (r₁ : List ℕ) → n ≡ suc m → Spaces r (c ∷ r₁) → Each P Q (go m r₁)) → ((r₁ : List ℕ) → Spaces r (c ∷ r₁) → Q 14 (c ∷ r₁))
          → Each P Q (chain_at c join a n r go r')
      unfolding chain_at
      chain_at_lem a n r go [] x p y z = gives p
      chain_at_lem {P} {Q} a n r go (b ∷ r₁) x p y z =
          either (Each P Q) (eqb b c) _ _
          (λ e. let h = eqb-true b c e in
          each_node (b ∷ r₁) n _ (λ m i. y m r₁ i (subst (λ (d : ℕ). Spaces r (d ∷ r₁)) h x))
          (λ i. subst (λ (d : ℕ). Q 14 (d ∷ r₁)) (sym h) (z r₁ (subst (λ (d : ℕ). Spaces r (d ∷ r₁)) h x))))
          (λ e. gives p)

      chain_more_lem : (f n : ℕ) (s : List ℕ) (a : Form L) (m : ℕ) (r : List ℕ) → Reads k₂ l n s a m r
          → Each (Reads k₂ l n s) (Refuses k₂ s) (chain_more c join sub f a m r)
      unfolding chain_more
      chain_more_lem zero n s a m r p =
          chain_at_lem a m r _ (skip r) (skip_spaces r) p
          (λ i r₁ e x. denies (joint_refuses p.part p.ok x)) (λ r₁ x. joint_refuses p.part p.ok x)
      chain_more_lem (suc f) n s a m r p =
          chain_at_lem a m r _ (skip r) (skip_spaces r) p
          (λ i r₁ e x.
          each_bind (sub i r₁) _
          (each_map (good i r₁)
          (λ b m₂ r₂ q.
          let z = more s r r₁ r₂ a b p.part x q.part in
          chain_more_lem f n s (join a b) m₂ r₂ (record {
            part = z.0;
            low = let h₁ = p.low in let h₂ = q.low in let h₃ = z.1 in omega arith;
            used = let h₁ = p.used in let h₂ = q.used in let h₃ = join-nodes a b in omega arith;
            ok = join-range a b p.ok q.ok;
          }))
          (λ w r₂ q.
          through w (λ s' s₁'. (s₁ : List ℕ) × Part Leaf k₂ s' s₁ a × Spaces s₁ (c ∷ s₁')) (λ t. t)
          (λ t. let y = frame_token x t in let u = frame Leaf frame-leaf p.part y.0 in (u.0, swap_trans u.1 y.1, (y.0, u.2, y.2)))
          q
          (λ s' s₁' t b y u. (join a b, (more s' y.0 s₁' t a b y.1 y.2 u).0, λ o. join-range a b p.ok o)))))
          (λ r₁ x. joint_refuses p.part p.ok x)

      pub chain_good : Good k₂ l (chain c join sub)
      unfolding chain
      chain_good n s =
          each_bind (sub n s) _
          (each_map (good n s)
          (λ a m r p. let z = one s r a p.part in chain_more_lem m n s a m r
          (record { part = z.0; low = let h = p.low in let h₂ = z.1 in omega arith; used = p.used; ok = p.ok }))
          (λ w r q. record
          { short = q.short; goes = λ t m. let y = q.goes t m in (y.0, y.1, y.2, y.3, y.4, (one y.2 t y.3 y.5).0, y.6, y.7) }))

    and_good : (l : ℕ) (sub : Reader (Form L)) → Good Rank.untils l sub → Good Rank.ands l (and_chain sub)
    unfolding and_chain
    and_good l sub g =
        chain_good Rank.untils Rank.ands 38 Form.and (λ a b. refl) (λ a b x y. (x, y)) (λ s r a p. (one_until p, refl))
        (λ s s₁ s₂ r a b p x q. (Part.and p x q, refl)) (λ t. one_small (word none)) (λ r. Token.and) l sub g

    or_good : (l : ℕ) (sub : Reader (Form L)) → Good Rank.untils l sub → Good Rank.ors l (or_chain sub)
    unfolding or_chain
    or_good l sub g =
        chain_good Rank.ands Rank.ors 124 Form.or (λ a b. refl) (λ a b x y. (x, y)) (λ s r a p. (one_and p, refl))
        (λ s s₁ s₂ r a b p x q. (Part.or p x q, refl)) (λ t. one_until (one_small (word none))) (λ r. Token.or) l (and_chain sub)
        (and_good l sub g)

    prefix_refuses : (o : Prefix) (b : ℕ) {s r : List ℕ} → Spaces s (b ∷ r) → b ≡ prefix_byte o → Refuses small s 14 (b ∷ r)
    prefix_refuses o b {r = r} x e =
        byte_refuses small b x (subst (λ (c : ℕ). Token (c ∷ r) r) (sym e) (Token.prefix o)) (λ t. 116 ∷ 114 ∷ 117 ∷ 101 ∷ t) (prefixed o top)
        (range_prefix Ok o top tt) (λ s' t y. prefix o (subst (λ (c : ℕ). Spaces s' (c ∷ 116 ∷ 114 ∷ 117 ∷ 101 ∷ t)) e y) (word none))

    by_kind_lem : (l : ℕ) (lf : Reader L) (d : Deeper (Form L)) → GoodLeaf l lf → GoodDeeper l d
        → (q : Kind) (n b : ℕ) (s r : List ℕ) → Shows q b → Spaces s (b ∷ r) → Each (Reads small l n s) (Refuses small s) (by_kind lf d q n b r)
    unfolding by_kind
    by_kind_lem l lf d gl gd Kind.word n b s r e x =
        let x₁ : Spaces s (116 ∷ r) = subst (λ (c : ℕ). Spaces s (c ∷ r)) e x in
        each_bind (literal (114 ∷ 117 ∷ 101 ∷ []) tt n r) _
        (each_literal (114 ∷ 117 ∷ 101 ∷ []) tt n r
        (λ r₁ i.
        each_node (b ∷ r) n _
        (λ m j. gives (record { part = word (subst (λ (y : List ℕ). Spaces s (116 ∷ y)) i x₁); low = omega arith; used = omega arith; ok = tt }))
        (λ j.
        let w : 116 ∷ 114 ∷ 117 ∷ 101 ∷ r₁ ≡ b ∷ r = cc in
        subst (λ (y : List ℕ). Refuses small s 14 y) w
        (token_refuses small (subst (λ (y : List ℕ). Spaces s y) (sym w) x) Token.word top tt
        (λ t. (116 ∷ 114 ∷ 117 ∷ 101 ∷ t, t, there (there (there (there here))), λ s' y. word y)))))
        (λ r₁ q. record {
          short = let h = swap_short (q []).1 in let h₂ = spaces_short x in omega arith;
          goes =
              λ t m. let y = q t in let u = frame_token x₁ (114 ∷ 117 ∷ 101 ∷ t) in
              (r₁, y.0, u.0, top, swap_trans u.1 y.1, word u.2, keeps_13 refl, λ o. tt);
        }))
    by_kind_lem l lf shut gl gd Kind.paren n b s r e x =
        denies
        (byte_refuses small b x (subst (λ (c : ℕ). Token (c ∷ r) r) (sym e) Token.paren) (λ t. 116 ∷ 114 ∷ 117 ∷ 101 ∷ 41 ∷ t) top tt
        (λ s' t y. parens (subst (λ (c : ℕ). Spaces s' (c ∷ 116 ∷ 114 ∷ 117 ∷ 101 ∷ 41 ∷ t)) e y) (one_and (one_until (one_small (word none)))) none))
    by_kind_lem l lf (open' sm un) gl gd Kind.paren n b s r e x =
        let i : ℕ = gd.0 in
        let x₁ : Spaces s (40 ∷ r) = subst (λ (c : ℕ). Spaces s (c ∷ r)) e x in
        each_bind (or_chain un n r) _
        (each_map (or_good i un gd.3 n r)
        (λ a m r₁ p.
        each_expect 41 a m r₁
        (λ r₂ y. record { part = parens x₁ p.part y; low = let h = p.low in let h₂ = gd.1 in omega arith; used = p.used; ok = p.ok })
        (λ r₂ y. record {
          short = let h = spaces_short x in let h₂ = part_short p.part in let h₃ = spaces_short y in omega arith;
          goes = λ t m.
              let c = frame_spaces y (41 ∷ t) in
              let u = frame Leaf frame-leaf p.part c.0 in
              let v = frame_token x₁ u.0 in
              (r₂, 41 ∷ t, v.0, a, swap_trans v.1 (swap_trans u.1 c.1), parens v.2 u.2 c.2, keeps_13 refl, λ o. p.ok);
        }))
        (λ w r₁ q. through w (λ s r. Spaces s (40 ∷ r)) (λ t. 41 ∷ t) (frame_token x₁) q (λ s' s₁' t a y p. (a, parens y p none, λ o. o))))
    by_kind_lem l lf shut gl gd (Kind.prefix o) n b s r e x = denies (prefix_refuses o b x e)
    by_kind_lem l lf (open' sm un) gl gd (Kind.prefix o) n b s r e x =
        let i : ℕ = gd.0 in
        let x₁ : Spaces s (prefix_byte o ∷ r) = subst (λ (c : ℕ). Spaces s (c ∷ r)) e x in
        each_node (b ∷ r) n _
        (λ m j.
        each_bind (sm m r) _
        (each_map (gd.2 m r)
        (λ a m₁ r₁ p. gives (record {
          part = prefix o x₁ p.part;
          low = let h = p.low in let h₂ = gd.1 in omega arith;
          used = let h = p.used in let h₂ = nodes_prefix leaf_nodes o a in omega arith;
          ok = range_prefix Ok o a p.ok;
        }))
        (λ w r₁ q. through w (λ s r. Spaces s (prefix_byte o ∷ r)) (λ t. t) (frame_token x₁) q
        (λ s' s₁' t a y p. (prefixed o a, prefix o y p, range_prefix Ok o a)))))
        (λ j. prefix_refuses o b x e)
    by_kind_lem l lf d gl gd Kind.other n b s r e x =
        each_bind (lf n (b ∷ r)) _
        (each_map (gl n s (b ∷ r) x) (λ y m r₁ p. gives (record { part = Part.leaf p.leaf; low = p.low; used = p.used; ok = p.ok })) (λ w r₁ q. q))

    small_at_lem : (l : ℕ) (lf : Reader L) (d : Deeper (Form L)) → GoodLeaf l lf → GoodDeeper l d
        → (n : ℕ) (s s₁ : List ℕ) → Spaces s s₁ → Each (Reads small l n s) (Refuses small s) (small_at lf d n s₁)
    unfolding small_at
    small_at_lem l lf d gl gd n s [] x = denies (true_refuses x)
    small_at_lem l lf d gl gd n s (b ∷ r) x = by_kind_lem l lf d gl gd (kind b) n b s r (kind_shows b) x

    small_good : (l : ℕ) (lf : Reader L) (d : Deeper (Form L)) → GoodLeaf l lf → GoodDeeper l d → Good small l (small_of lf d)
    unfolding small_of
    small_good l lf d gl gd n s = small_at_lem l lf d gl gd n s (skip s) (skip_spaces s)

    reach_refuses : (o : Reach) (b : ℕ) {s r r₁ : List ℕ} {a : Form L} → Part Leaf small s r a → InRange Ok a → Spaces r (b ∷ r₁) → b ≡ reach_byte o
        → Refuses Rank.untils s 14 (b ∷ r₁)
    reach_refuses o b {r₁ = r₁} {a = a} p ok x e = record {
      short = let h = spaces_short x in let h₂ = part_short p in omega arith;
      goes = λ t m.
          let v : List ℕ = 116 ∷ 114 ∷ 117 ∷ 101 ∷ t in
          let y = frame_spaces x (b ∷ v) in
          let u = frame Leaf frame-leaf p y.0 in (
            b ∷ r₁,
            b ∷ v,
            u.0,
            reached o a top,
            swap_trans u.1 y.1,
            reach o u.2 (subst (λ (c : ℕ). Spaces y.0 (c ∷ v)) e y.2) (one_small (word none)),
            keeps_14 refl (subst (λ (c : ℕ). Token (c ∷ r₁) r₁) (sym e) (Token.reach o)) (there here),
            λ i. range_reach Ok o a top ok tt,
          );
    }

    by_onward_lem : (l : ℕ) (d : Deeper (Form L)) → GoodDeeper l d → (n : ℕ) (s : List ℕ) (a : Form L) (m : ℕ) (r : List ℕ) → Reads small l n s a m r
        → (q : Onward) (b : ℕ) (r₁ : List ℕ) → Leads q b → Spaces r (b ∷ r₁) → Each (Reads Rank.untils l n s) (Refuses Rank.untils s) (by_onward d a m r q b r₁)
    unfolding by_onward
    by_onward_lem l d gd n s a m r p stop b r₁ e x = gives (record { part = one_small p.part; low = p.low; used = p.used; ok = p.ok })
    by_onward_lem l shut gd n s a m r p (Onward.reach o) b r₁ e x = denies (reach_refuses o b p.part p.ok x e)
    by_onward_lem l (open' sm un) gd n s a m r p (Onward.reach o) b r₁ e x =
        let i : ℕ = gd.0 in
        let x₁ : Spaces r (reach_byte o ∷ r₁) = subst (λ (c : ℕ). Spaces r (c ∷ r₁)) e x in
        each_node (b ∷ r₁) m _
        (λ m₁ j.
        each_bind (un m₁ r₁) _
        (each_map (gd.3 m₁ r₁)
        (λ c m₂ r₂ q. gives (record {
          part = reach o p.part x₁ q.part;
          low = let h = p.low in let h₂ = q.low in let h₃ = gd.1 in omega arith;
          used = let h = p.used in let h₂ = q.used in let h₃ = nodes_reach leaf_nodes o a c in omega arith;
          ok = range_reach Ok o a c p.ok q.ok;
        }))
        (λ w r₂ q.
        through w (λ s' s₁'. (s₁ : List ℕ) × Part Leaf small s' s₁ a × Spaces s₁ (reach_byte o ∷ s₁')) (λ t. t)
        (λ t. let y = frame_token x₁ t in let u = frame Leaf frame-leaf p.part y.0 in (u.0, swap_trans u.1 y.1, (y.0, u.2, y.2)))
        q
        (λ s' s₁' t c y u. (reached o a c, reach o y.1 y.2 u, λ v. range_reach Ok o a c p.ok v)))))
        (λ j. reach_refuses o b p.part p.ok x e)

    until_at_lem : (l : ℕ) (d : Deeper (Form L)) → GoodDeeper l d → (n : ℕ) (s : List ℕ) (a : Form L) (m : ℕ) (r : List ℕ) → Reads small l n s a m r
        → (r' : List ℕ) → Spaces r r' → Each (Reads Rank.untils l n s) (Refuses Rank.untils s) (until_at d a m r r')
    unfolding until_at
    until_at_lem l d gd n s a m r p [] x = gives (record { part = one_small p.part; low = p.low; used = p.used; ok = p.ok })
    until_at_lem l d gd n s a m r p (b ∷ r₁) x = by_onward_lem l d gd n s a m r p (onward b) b r₁ (onward_leads b) x

    until_good : (l : ℕ) (sm : Reader (Form L)) (d : Deeper (Form L)) → Good small l sm → GoodDeeper l d → Good Rank.untils l (until_of sm d)
    unfolding until_of
    until_good l sm d g gd n s =
        each_bind (sm n s) _
        (each_map (g n s) (λ a m r p. until_at_lem l d gd n s a m r p (skip r) (skip_spaces r))
        (λ w r q. record { short = q.short; goes = λ t m. let y = q.goes t m in (y.0, y.1, y.2, y.3, y.4, one_small y.5, y.6, y.7) }))

    module _ (lf : ℕ → Reader L) (gl : (l : ℕ) → GoodLeaf l (lf l)) where
      deeper_good : (l : ℕ) → GoodDeeper l (deeper lf l)
      unfolding deeper
      deeper_good zero = refl
      deeper_good (suc l) =
          let d = deeper_good l in
          let sm = small_good l (lf l) (deeper lf l) (gl l) d in
          (l, refl, sm, until_good l (small_of (lf l) (deeper lf l)) (deeper lf l) sm d)

      untils_good : (l : ℕ) → Good Rank.untils l (untils lf l)
      unfolding untils smalls
      untils_good l = until_good l (small_of (lf l) (deeper lf l)) (deeper lf l) (small_good l (lf l) (deeper lf l) (gl l) (deeper_good l)) (deeper_good l)

      pub ors_good : (l : ℕ) → Good Rank.ors l (ors lf l)
      unfolding ors
      ors_good l = or_good l (untils lf l) (untils_good l)
