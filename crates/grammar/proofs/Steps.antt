-- The readers' equations, one for each way that a program goes: what the proof of four functions that call each other cites.
use Rattle.std.specs.Prelude.{ℕ, suc, ◌≡◌, List, [], ◌∷◌}
use Rattle.std.proofs.Math.Path.{refl, ap}
use Rattle.std.proofs.Common.{◌∙◌}
use Rattle.grammar.specs.Grammar.{Form, top, and, or, Prefix, prefix_byte, prefixed, Reach, reach_byte, reached}
use Rattle.grammar.specs.Reader.{got, no, Reader, bind, node, skip, expect, literal, Kind, kind, Onward, stop, onward, chain_more, chain, and_chain, or_chain, by_kind, small_at, small_of, by_onward, until_at, until_of, deeper, smalls, untils, ands, ors}
use Rattle.grammar.proofs.Agree.{kind-prefix, onward-reach}

module _ {L : Type 0} (lf : ℕ → Reader L) where
  ---- Smallest parts: by the first byte behind spaces, the levels and the nodes still allowed.
  module _ (n : ℕ) (s : List ℕ) where
    pub small_end : (l : ℕ) → skip s ≡ [] → smalls lf l n s ≡ no 13 []
    unfolding smalls small_of small_at
    small_end l e = ap (small_at (lf l) (deeper lf l) n) e

    small_sees : (l b : ℕ) (r : List ℕ) → skip s ≡ b ∷ r → smalls lf l n s ≡ by_kind (lf l) (deeper lf l) (kind b) n b r
    unfolding smalls small_of small_at
    small_sees l b r e = ap (small_at (lf l) (deeper lf l) n) e

    pub small_true : (l : ℕ) (r : List ℕ) → skip s ≡ 116 ∷ r
        → smalls lf l n s ≡ bind (literal {A = Unit {0}} (114 ∷ 117 ∷ 101 ∷ []) tt n r) (λ u m r₁. node (116 ∷ r) m (λ m₁. got top m₁ r₁))
    unfolding by_kind
    small_true l r e = small_sees l 116 r e

    pub small_leaf : (l b : ℕ) (r : List ℕ) → skip s ≡ b ∷ r → kind b ≡ Kind.other → smalls lf l n s ≡ bind (lf l n (b ∷ r)) (λ x m r₁. got (Form.leaf x) m r₁)
    unfolding by_kind
    small_leaf l b r e k = small_sees l b r e ∙ ap (λ (q : Kind). by_kind (lf l) (deeper lf l) q n b r) k

    pub small_paren_none : (r : List ℕ) → skip s ≡ 40 ∷ r → smalls lf 0 n s ≡ no 14 (40 ∷ r)
    unfolding by_kind deeper
    small_paren_none r e = small_sees 0 40 r e

    pub small_paren : (l : ℕ) (r : List ℕ) → skip s ≡ 40 ∷ r → smalls lf (suc l) n s ≡ bind (ors lf l n r) (λ a m r₁. expect 41 a m r₁)
    unfolding by_kind deeper ors untils smalls
    small_paren l r e = small_sees (suc l) 40 r e

    pub small_prefix_none : (o : Prefix) (r : List ℕ) → skip s ≡ prefix_byte o ∷ r → smalls lf 0 n s ≡ no 14 (prefix_byte o ∷ r)
    unfolding by_kind deeper
    small_prefix_none o r e = small_sees 0 (prefix_byte o) r e ∙ ap (λ (q : Kind). by_kind (lf 0) (deeper lf 0) q n (prefix_byte o) r) (kind-prefix o)

    pub small_prefix : (o : Prefix) (l : ℕ) (r : List ℕ) → skip s ≡ prefix_byte o ∷ r
        → smalls lf (suc l) n s ≡ node (prefix_byte o ∷ r) n (λ m. bind (smalls lf l m r) (λ a m₁ r₁. got (prefixed o a) m₁ r₁))
    unfolding by_kind deeper smalls
    small_prefix o l r e =
        small_sees (suc l) (prefix_byte o) r e ∙ ap (λ (q : Kind). by_kind (lf (suc l)) (deeper lf (suc l)) q n (prefix_byte o) r) (kind-prefix o)

  ---- Until-chains: a smallest part, and then by the first byte behind spaces.
  pub until_is : (l n : ℕ) (s : List ℕ) → untils lf l n s ≡ bind (smalls lf l n s) (λ a m r. until_at (deeper lf l) a m r (skip r))
  unfolding untils until_of
  until_is l n s = refl

  module _ (a : Form L) (m : ℕ) (r : List ℕ) where
    pub until_end : (l : ℕ) → skip r ≡ [] → until_at (deeper lf l) a m r (skip r) ≡ got a m r
    unfolding until_at
    until_end l e = ap (until_at (deeper lf l) a m r) e

    pub until_stop : (l b : ℕ) (r₁ : List ℕ) → skip r ≡ b ∷ r₁ → onward b ≡ stop → until_at (deeper lf l) a m r (skip r) ≡ got a m r
    unfolding until_at by_onward
    until_stop l b r₁ e k = ap (until_at (deeper lf l) a m r) e ∙ ap (λ (q : Onward). by_onward (deeper lf l) a m r q b r₁) k

    pub until_none : (o : Reach) (r₁ : List ℕ) → skip r ≡ reach_byte o ∷ r₁ → until_at (deeper lf 0) a m r (skip r) ≡ no 14 (reach_byte o ∷ r₁)
    unfolding until_at by_onward deeper
    until_none o r₁ e = ap (until_at (deeper lf 0) a m r) e ∙ ap (λ (q : Onward). by_onward (deeper lf 0) a m r q (reach_byte o) r₁) (onward-reach o)

    pub until_on : (o : Reach) (l : ℕ) (r₁ : List ℕ) → skip r ≡ reach_byte o ∷ r₁
        → until_at (deeper lf (suc l)) a m r (skip r) ≡ node (reach_byte o ∷ r₁) m (λ m₁. bind (untils lf l m₁ r₁) (λ c m₂ r₂. got (reached o a c) m₂ r₂))
    unfolding until_at by_onward deeper untils smalls
    until_on o l r₁ e = ap (until_at (deeper lf (suc l)) a m r) e ∙ ap (λ (q : Onward). by_onward (deeper lf (suc l)) a m r q (reach_byte o) r₁) (onward-reach o)

  ---- And-chains and or-chains: a part, and then as `more_stop`, `more_out` and `more_go` say.
  pub and_is : (l n : ℕ) (s : List ℕ) → ands lf l n s ≡ bind (untils lf l n s) (λ a m r. chain_more 38 and (untils lf l) m a m r)
  unfolding ands and_chain chain
  and_is l n s = refl

  pub or_is : (l n : ℕ) (s : List ℕ) → ors lf l n s ≡ bind (ands lf l n s) (λ a m r. chain_more 124 or (ands lf l) m a m r)
  unfolding ors or_chain ands chain
  or_is l n s = refl
