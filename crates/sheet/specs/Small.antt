-- A smallest part, by its first byte.
use Prim.Native.Nat.{ℕ, zero, suc, ◌+◌, ◌-◌, ◌≤◌}
use Rattle.std.proofs.Common.{arith, sym, ◌∙◌, eqb-true, ne_eqb}
use Rattle.std.specs.Prelude.{◌≡◌, Bool, true, false, eqb, length, Option, None, Some, Result, Ok, Err}
use Rattle.std.proofs.Math.Path.{refl, ap, subst}
use mathlib.Core.List.{List, [], ◌∷◌, ◌++◌}
use Rattle.std.proofs.Math.ListN.{drop}
use Rattle.grammar.specs.Grammar.{Form, top, Prefix, not, next, finally, globally, prefix_byte, prefixed}
use Rattle.grammar.specs.Limits.{nodes}
use Rattle.grammar.specs.Nodes.{Node, top_n, one_n, Op₁, neg₁, next₁, ev₁, gl₁, flat}
use Rattle.grammar.specs.Reader.{Got, got, no, Reader, pick, bind, skip, expect, node, literal, Kind, kind, smalls, ors}
use Rattle.grammar.proofs.Steps.{small_end, small_true, small_leaf, small_paren_none, small_paren, small_prefix_none, small_prefix}
use Rattle.token.specs.Block.{unary_byte, one_byte}
use Rattle.token.specs.Leaves.{LeafIs, Expected, word_got}
use Rattle.token.specs.Parts.{PartIs}
use Rattle.token.specs.More.{WithNode}
use Rattle.token.specs.Joined.{stay, one_part}
use Rattle.token.specs.Placed.{placed_part}
use Rattle.token.specs.Ended.{ended_part}
use Rattle.token.specs.declared.Unary.{Unary}
use Rattle.token.specs.declared.Unary.TheVariants.{Not, Next, Finally, Globally}
use Rattle.token.specs.declared.Part.{Part}
use Rattle.token.specs.declared.Fault.{Fault}

abbrev pub prefix_op : Prefix → Op₁
prefix_op not = neg₁
prefix_op next = next₁
prefix_op finally = ev₁
prefix_op globally = gl₁

-- a prefix operator by its byte, none for any other byte
abbrev pub choose : Bool → Bool → Bool → Bool → Option Unary
choose w x y z = pick w (Some Not) (pick x (Some Next) (pick y (Some Finally) (pick z (Some Globally) None)))

unfoldable pub prefix_kind : ℕ → Option Unary
prefix_kind b = choose (eqb b 33) (eqb b 88) (eqb b 70) (eqb b 71)

-- a byte is that of a prefix operator, or of none
pub record IsPrefix (b : ℕ) (k : Unary) : Type 0 where
  pub operator : Prefix
  pub byte : b ≡ prefix_byte operator
  pub node : unary_byte k ≡ one_byte (prefix_op operator)

pub prefix_of : (b : ℕ) (k : Unary) → prefix_kind b ≡ Some k → IsPrefix b k
unfolding prefix_kind
prefix_of b k some = go (eqb b 33) (eqb b 88) (eqb b 70) (eqb b 71) refl refl refl refl some
  where
    is : (o : Unary) → ◌≡◌ {A = Option Unary} (Some o) (Some k) → unary_byte k ≡ unary_byte o
    is o q = let e : k ≡ o = cc in ap unary_byte e

    go : (w x y z : Bool) → eqb b 33 ≡ w → eqb b 88 ≡ x → eqb b 70 ≡ y → eqb b 71 ≡ z
        → choose w x y z ≡ Some k → IsPrefix b k
    go true x y z d e f g q = record { operator = not; byte = eqb-true b 33 d; node = is Not q }
    go false true y z d e f g q = record { operator = next; byte = eqb-true b 88 e; node = is Next q }
    go false false true z d e f g q = record { operator = finally; byte = eqb-true b 70 f; node = is Finally q }
    go false false false true d e f g q = record { operator = globally; byte = eqb-true b 71 g; node = is Globally q }
    go false false false false d e f g q = absurd cc

-- neither `t`, `(` nor a prefix operator
pub other_byte : (b : ℕ) → (b ≡ 116 → ⊥) → (b ≡ 40 → ⊥) → prefix_kind b ≡ None → kind b ≡ Kind.other
unfolding prefix_kind
other_byte b t p e =
    ap (λ (x : Bool). pick x Kind.word (pick (eqb b 40) Kind.paren rest)) (ne_eqb b 116 t) ∙ ap (λ (x : Bool). pick x Kind.paren rest) (ne_eqb b 40 p)
    ∙ go (eqb b 33) (eqb b 88) (eqb b 70) (eqb b 71) e
  where
    rest : Kind
    rest =
        pick (eqb b 33) (Kind.prefix not)
        (pick (eqb b 88) (Kind.prefix next) (pick (eqb b 70) (Kind.prefix finally) (pick (eqb b 71) (Kind.prefix globally) Kind.other)))

    go : (w x y z : Bool) → choose w x y z ≡ None
        → pick w (Kind.prefix not) (pick x (Kind.prefix next) (pick y (Kind.prefix finally) (pick z (Kind.prefix globally) Kind.other))) ≡ Kind.other
    go true x y z e = absurd cc
    go false true y z e = absurd cc
    go false false true z e = absurd cc
    go false false false true e = absurd cc
    go false false false false e = refl

module _ {L : Type 0} (leaf_nodes : L → ℕ) (leaf_flat : L → ℕ → List Node) (fl : (a : Form L) (b : ℕ) → length (flat leaf_nodes leaf_flat a b) ≡ nodes leaf_nodes a)
    (lf : ℕ → Reader L) (s : List ℕ) (n left : ℕ) (before : List ℕ) (l : ℕ) (t : List ℕ) (i : ℕ) (is : drop i s ≡ skip t) where
  abbrev P : Result Part Fault → List ℕ → Got (Form L) → Type 0
  P r block g = PartIs leaf_nodes leaf_flat s n left before r block g

  -- nothing is left
  pub nothing : drop i s ≡ [] → smalls lf l left t ≡ no 13 (drop i s)
  nothing e = small_end lf left t l (sym is ∙ e) ∙ ap (no 13) (sym e)

  module _ (b : ℕ) (here : drop i s ≡ b ∷ drop (suc i) s) where
    sees : skip t ≡ b ∷ drop (suc i) s
    sees = sym is ∙ here

    -- a leaf
    pub leaf_is : kind b ≡ Kind.other → smalls lf l left t ≡ bind (lf l left (drop i s)) (λ x m r₁. got (Form.leaf x) m r₁)
    leaf_is k = small_leaf lf left t l b (drop (suc i) s) sees k ∙ ap (λ (u : List ℕ). bind (lf l left u) (λ x m r₁. got (Form.leaf x) m r₁)) (sym here)

    -- a parenthesis with no level left for it, and one that is closed
    pub paren_shut : b ≡ 40 → l ≡ 0 → smalls lf l left t ≡ no 14 (drop i s)
    paren_shut e z =
        let h : drop i s ≡ 40 ∷ drop (suc i) s = here ∙ ap (λ (x : ℕ). x ∷ drop (suc i) s) e in
        ap (λ (d : ℕ). smalls lf d left t) z ∙ small_paren_none lf left t (drop (suc i) s) (sym is ∙ h) ∙ ap (no 14) (sym h)

    paren_is : b ≡ 40 → (d : ℕ) → l ≡ suc d → smalls lf l left t ≡ bind (ors lf d left (drop (suc i) s)) (λ a m r. expect 41 a m r)
    paren_is e d deep =
        let at : skip t ≡ 40 ∷ drop (suc i) s = sees ∙ ap (λ (x : ℕ). x ∷ drop (suc i) s) e in
        ap (λ (k : ℕ). smalls lf k left t) deep ∙ small_paren lf left t d (drop (suc i) s) at

    pub paren_closed : b ≡ 40 → (d : ℕ) → l ≡ suc d → (r : Part) (block : List ℕ) → P (Ok r) block (ors lf d left (drop (suc i) s))
        → length block ≡ length before → (q : Result Part Fault) → Expected s r 41 q → P q block (smalls lf l left t)
    paren_closed e d deep r block h long q w =
        subst (P q block) (sym (paren_is e d deep)) (ended_part leaf_nodes leaf_flat s n left before r block 41 q w (ors lf d left (drop (suc i) s)) h long)

    -- what stands in it is refused
    pub paren_refused : b ≡ 40 → (d : ℕ) → l ≡ suc d → (f : Fault) (block : List ℕ) → P (Err f) block (ors lf d left (drop (suc i) s))
        → P (Err f) block (smalls lf l left t)
    paren_refused e d deep f block h =
        subst (P (Err f) block) (sym (paren_is e d deep))
        (stay leaf_nodes leaf_flat leaf_nodes leaf_flat s n left n left before before f block (ors lf d left (drop (suc i) s)) h refl
        (λ a m r. expect 41 a m r))

    -- a prefix operator with no level or no node left for it, and one over a smallest part
    pub prefix_shut : (o : Prefix) → b ≡ prefix_byte o → l ≡ 0 → smalls lf l left t ≡ no 14 (drop i s)
    prefix_shut o e z =
        let h : drop i s ≡ prefix_byte o ∷ drop (suc i) s = here ∙ ap (λ (x : ℕ). x ∷ drop (suc i) s) e in
        ap (λ (d : ℕ). smalls lf d left t) z ∙ small_prefix_none lf left t o (drop (suc i) s) (sym is ∙ h) ∙ ap (no 14) (sym h)

    prefix_is : (o : Prefix) → b ≡ prefix_byte o → (d : ℕ) → l ≡ suc d
        → smalls lf l left t ≡ node (drop i s) left (λ m. bind (smalls lf d m (drop (suc i) s)) (λ a m₁ r₁. got (prefixed o a) m₁ r₁))
    prefix_is o e d deep =
        let h : drop i s ≡ prefix_byte o ∷ drop (suc i) s = here ∙ ap (λ (x : ℕ). x ∷ drop (suc i) s) e in
        ap (λ (k : ℕ). smalls lf k left t) deep ∙ small_prefix lf left t o d (drop (suc i) s) (sym is ∙ h)
        ∙ ap (λ (u : List ℕ). node u left (λ m. bind (smalls lf d m (drop (suc i) s)) (λ a m₁ r₁. got (prefixed o a) m₁ r₁))) (sym h)

    pub prefix_spent : (o : Prefix) → b ≡ prefix_byte o → (d : ℕ) → l ≡ suc d → left ≡ 0 → smalls lf l left t ≡ no 14 (drop i s)
    unfolding node
    prefix_spent o e d deep z =
        prefix_is o e d deep ∙ ap (λ (k : ℕ). node (drop i s) k (λ m. bind (smalls lf d m (drop (suc i) s)) (λ a m₁ r₁. got (prefixed o a) m₁ r₁))) z

    flat-prefixed : (o : Prefix) (a : Form L) (m : ℕ)
        → flat leaf_nodes leaf_flat (prefixed o a) m ≡ flat leaf_nodes leaf_flat a m ++ (one_n (prefix_op o) ((m + nodes leaf_nodes a) - 1) ∷ [])
    unfolding flat
    flat-prefixed not a m = refl
    flat-prefixed next a m = refl
    flat-prefixed finally a m = refl
    flat-prefixed globally a m = refl

    prefix_on : (o : Prefix) → b ≡ prefix_byte o → (d : ℕ) → l ≡ suc d → (k : ℕ) → left ≡ suc k
        → smalls lf l left t ≡ bind (smalls lf d k (drop (suc i) s)) (λ a m₁ r₁. got (prefixed o a) m₁ r₁)
    unfolding node
    prefix_on o e d deep k some =
        prefix_is o e d deep ∙ ap (λ (m : ℕ). node (drop i s) m (λ m. bind (smalls lf d m (drop (suc i) s)) (λ a m₁ r₁. got (prefixed o a) m₁ r₁))) some

    -- its operand is refused
    pub prefix_refused : (o : Prefix) → b ≡ prefix_byte o → (d : ℕ) → l ≡ suc d → (k : ℕ) → left ≡ suc k
        → (f : Fault) (mid : List ℕ) → PartIs leaf_nodes leaf_flat s n k before (Err f) mid (smalls lf d k (drop (suc i) s))
        → P (Err f) mid (smalls lf l left t)
    prefix_refused o e d deep k some f mid h =
        subst (P (Err f) mid) (sym (prefix_on o e d deep k some))
        (stay leaf_nodes leaf_flat leaf_nodes leaf_flat s n k n left before before f mid (smalls lf d k (drop (suc i) s)) h refl
        (λ a m₁ r₁. got (prefixed o a) m₁ r₁))

    pub prefix_over : (o : Prefix) → b ≡ prefix_byte o → (d : ℕ) → l ≡ suc d → (k : ℕ) → left ≡ suc k → length before ≡ 512 → n + left ≤ 128
        → (r : Part) (mid : List ℕ) → PartIs leaf_nodes leaf_flat s n k before (Ok r) mid (smalls lf d k (drop (suc i) s))
        → (q : Part) (after : List ℕ) → WithNode mid r (one_byte (prefix_op o) ∷ (r.n - 1) ∷ 0 ∷ 0 ∷ []) q after → P (Ok q) after (smalls lf l left t)
    prefix_over o e d deep k some long few r mid h q after put =
        subst (P (Ok q) after) (sym (prefix_on o e d deep k some))
        (subst
        (λ (m : ℕ). PartIs leaf_nodes leaf_flat s n m before (Ok q) after (bind (smalls lf d k (drop (suc i) s)) (λ a m₁ r₁. got (prefixed o a) m₁ r₁)))
        (sym some)
        (one_part leaf_nodes leaf_flat fl s (prefix_op o) (prefixed o) (flat-prefixed o) n k before r mid (smalls lf d k (drop (suc i) s)) q after h long
        (omega arith) put))

    -- `true`
    pub word_is : b ≡ 116 → (r : Result Part Fault) (after : List ℕ) → LeafIs (λ (u : Unit {0}). top_n) s n left before r after (word_got s left i)
        → P r after (smalls lf l left t)
    unfolding bind node flat
    word_is e r after h =
        let at : drop i s ≡ 116 ∷ drop (suc i) s = here ∙ ap (λ (x : ℕ). x ∷ drop (suc i) s) e in
        let same = small_true lf left t l (drop (suc i) s) (sym is ∙ at)
        ∙ ap
        (λ (v : List ℕ). bind (literal {A = Unit {0}} (114 ∷ 117 ∷ 101 ∷ []) tt left (drop (suc i) s)) (λ u m r₁. node v m (λ m₁. got top m₁ r₁)))
        (sym at) in
        subst (P r after) (sym same) (go r (literal {A = Unit {0}} (114 ∷ 117 ∷ 101 ∷ []) tt left (drop (suc i) s)) h)
      where
        noded : (r : Result Part Fault) (m : ℕ) (u : List ℕ)
            → LeafIs (λ (u : Unit {0}). top_n) s n left before r after (node (drop i s) m (λ m₁. got tt m₁ u))
            → P r after (node (drop i s) m (λ m₁. got top m₁ u))
        noded (Err f) zero u k = k.part
        noded (Ok r) zero u k = absurd k
        noded (Err f) (suc m) u k = absurd k
        noded (Ok r) (suc m) u k = placed_part (λ (u : Unit {0}). top_n) leaf_nodes leaf_flat s n left before r after tt top m u refl k

        go : (r : Result Part Fault) (g : Got (Unit {0}))
            → LeafIs (λ (u : Unit {0}). top_n) s n left before r after (bind g (λ u m r₁. node (drop i s) m (λ m₁. got tt m₁ r₁)))
            → P r after (bind g (λ u m r₁. node (drop i s) m (λ m₁. got top m₁ r₁)))
        go (Err f) (no w u) k = k.part
        go (Ok r) (no w u) k = absurd k
        go r (got x m u) k = noded r m u k
