-- An until-chain: a smallest part, and `U` or `R` with the rest of the chain.
use Prim.Native.Nat.{ℕ, suc, ◌+◌, ◌-◌, ◌≤◌}
use Rattle.std.specs.Prelude.{◌≡◌, Bool, true, false, eqb, length, Result, Ok, Err}
use Rattle.std.proofs.Math.Path.{refl, sym, ap, subst}
use Rattle.std.proofs.Common.{◌∙◌, eqb-true}
use mathlib.Core.List.{List, [], ◌∷◌, ◌++◌}
use Rattle.std.proofs.Math.ListN.{drop}
use Rattle.grammar.specs.Grammar.{Form, Reach, U, R, reach_byte, reached}
use Rattle.grammar.specs.Limits.{nodes}
use Rattle.grammar.specs.Nodes.{Node, two_n, flat}
use Rattle.grammar.specs.Reader.{Got, got, no, Reader, pick, bind, skip, node, stop, reach, onward, until_at, deeper, smalls, untils}
use Rattle.grammar.proofs.Steps.{until_is, until_end, until_stop, until_none, until_on}
use Rattle.token.specs.Block.{two_byte}
use Rattle.token.specs.Parts.{Held, PartIs}
use Rattle.token.specs.More.{WithNode}
use Rattle.token.specs.Joined.{stay, two_parts}
use Rattle.token.specs.Operator.{Stands, Lacks, reach_op}
use Rattle.token.specs.declared.Part.{Part}
use Rattle.token.specs.declared.Fault.{Fault}

-- a byte that is neither goes no further
neither : (b : ℕ) → (b ≡ 85 → ⊥) → (b ≡ 82 → ⊥) → onward b ≡ stop
neither b u r = by (eqb b 85) refl
  where
    by : (x : Bool) → eqb b 85 ≡ x → pick x (reach U) (pick (eqb b 82) (reach R) stop) ≡ stop
    by true e = absurd (u (eqb-true b 85 e))
    by false e = by₂ (eqb b 82) refl
      where
        by₂ : (x : Bool) → eqb b 82 ≡ x → pick x (reach R) stop ≡ stop
        by₂ true e = absurd (r (eqb-true b 82 e))
        by₂ false e = refl

module _ {L : Type 0} (leaf_nodes : L → ℕ) (leaf_flat : L → ℕ → List Node) (fl : (a : Form L) (b : ℕ) → length (flat leaf_nodes leaf_flat a b) ≡ nodes leaf_nodes a)
    (lf : ℕ → Reader L) (s : List ℕ) (n left : ℕ) (before block t : List ℕ) where
  abbrev P : Result Part Fault → List ℕ → Got (Form L) → Type 0
  P r after g = PartIs leaf_nodes leaf_flat s n left before r after g

  flat-reached : (o : Reach) (a c : Form L) (b : ℕ) → flat leaf_nodes leaf_flat (reached o a c) b
      ≡ (flat leaf_nodes leaf_flat a b ++ flat leaf_nodes leaf_flat c (b + nodes leaf_nodes a)) ++
      (two_n (reach_op o) ((b + nodes leaf_nodes a) - 1) (((b + nodes leaf_nodes a) + nodes leaf_nodes c) - 1) ∷ [])
  unfolding flat
  flat-reached U a c b = refl
  flat-reached R a c b = refl

  -- the smallest part is refused
  pub until_refused : (l : ℕ) (f : Fault) → P (Err f) block (smalls lf l left t) → P (Err f) block (untils lf l left t)
  until_refused l f h =
      subst (P (Err f) block) (sym (until_is lf l left t))
      (stay leaf_nodes leaf_flat leaf_nodes leaf_flat s n left n left before before f block (smalls lf l left t) h refl
      (λ a m u. until_at (deeper lf l) a m u (skip u)))

  -- by the smallest part that was read
  module _ (r : Part) (l : ℕ) (h : P (Ok r) block (smalls lf l left t)) where
    by_part : (Q : Got (Form L) → Type 0)
        → ((a : Form L) (m : ℕ) (u : List ℕ) → Held leaf_nodes leaf_flat s n left before r block a m u → Q (until_at (deeper lf l) a m u (skip u)))
        → Q (untils lf l left t)
    unfolding bind
    by_part Q g = subst Q (sym (until_is lf l left t)) (go (smalls lf l left t) h)
      where
        go : (x : Got (Form L)) → P (Ok r) block x → Q (bind x (λ a m u. until_at (deeper lf l) a m u (skip u)))
        go (no w u) k = absurd k
        go (got a m u) k = g a m u k

    pub until_ended : Lacks s r.at 85 → Lacks s r.at 82 → P (Ok r) block (untils lf l left t)
    until_ended p q = by_part (P (Ok r) block) (λ a m u k. go a m u k (skip u) refl)
      where
        go : (a : Form L) (m : ℕ) (u : List ℕ) → Held leaf_nodes leaf_flat s n left before r block a m u → (v : List ℕ) → skip u ≡ v
            → P (Ok r) block (until_at (deeper lf l) a m u (skip u))
        go a m u k [] e = subst (P (Ok r) block) (sym (until_end lf a m u l e)) k
        go a m u k (b ∷ v) e =
            let off : (c : ℕ) → Lacks s r.at c → b ≡ c → ⊥ =
            λ c o z. o.none v (ap skip k.behind ∙ e ∙ ap (λ (x : ℕ). x ∷ v) z) in
            subst (P (Ok r) block) (sym (until_stop lf a m u l b v e (neither b (off 85 p) (off 82 q)))) k

    -- behind it stands an operator
    module _ (o : Reach) (i : ℕ) (op : Stands s r.at (reach_byte o) i) where
      pub until_shut : l ≡ 0 → untils lf l left t ≡ no 14 (drop i s)
      until_shut e =
          by_part (λ g. g ≡ no 14 (drop i s))
          (λ a m u k. ap (λ (x : ℕ). until_at (deeper lf x) a m u (skip u)) e ∙ until_none lf a m u o (drop (suc i) s)
          (ap skip (sym k.behind) ∙ op.there) ∙ ap (no 14) (sym op.here))

      module _ (d : ℕ) (deep : l ≡ suc d) where
        -- the operator, by the nodes still allowed
        goes_on : (a : Form L) (m : ℕ) (u : List ℕ) → Held leaf_nodes leaf_flat s n left before r block a m u → until_at (deeper lf l) a m u (skip u)
            ≡ node (reach_byte o ∷ drop (suc i) s) r.left (λ m₁. bind (untils lf d m₁ (drop (suc i) s)) (λ c m₂ r₂. got (reached o a c) m₂ r₂))
        goes_on a m u k =
            ap (λ (x : ℕ). until_at (deeper lf x) a m u (skip u)) deep ∙ until_on lf a m u o d (drop (suc i) s) (ap skip (sym k.behind) ∙ op.there)
            ∙ ap (λ (x : ℕ). node (reach_byte o ∷ drop (suc i) s) x (λ m₁. bind (untils lf d m₁ (drop (suc i) s)) (λ c m₂ r₂. got (reached o a c) m₂ r₂)))
            (sym k.allowed)

        -- no node is left for it
        pub until_spent : r.left ≡ 0 → untils lf l left t ≡ no 14 (drop i s)
        unfolding node
        until_spent none =
            by_part (λ g. g ≡ no 14 (drop i s))
            (λ a m u k. goes_on a m u k
            ∙ ap (λ (x : ℕ). node (reach_byte o ∷ drop (suc i) s) x (λ m₁. bind (untils lf d m₁ (drop (suc i) s)) (λ c m₂ r₂. got (reached o a c) m₂ r₂))) none
            ∙ ap (no 14) (sym op.here))

        -- the rest of the chain
        module _ (k : ℕ) (some : r.left ≡ suc k) (late : List ℕ) where
          chained : (a : Form L) (m : ℕ) (u : List ℕ) → Held leaf_nodes leaf_flat s n left before r block a m u
              → until_at (deeper lf l) a m u (skip u) ≡ bind (untils lf d k (drop (suc i) s)) (λ c m₂ r₂. got (reached o a c) m₂ r₂)
          unfolding node
          chained a m u h =
              goes_on a m u h
              ∙ ap (λ (x : ℕ). node (reach_byte o ∷ drop (suc i) s) x (λ m₁. bind (untils lf d m₁ (drop (suc i) s)) (λ c m₂ r₂. got (reached o a c) m₂ r₂)))
              some

          pub until_broken : (f : Fault) → PartIs leaf_nodes leaf_flat s r.n k block (Err f) late (untils lf d k (drop (suc i) s))
              → length block ≡ length before → P (Err f) late (untils lf l left t)
          until_broken f next size =
              by_part (P (Err f) late)
              (λ a m u h. subst (P (Err f) late) (sym (chained a m u h))
              (stay leaf_nodes leaf_flat leaf_nodes leaf_flat s r.n k n left block before f late (untils lf d k (drop (suc i) s)) next size
              (λ c m₂ r₂. got (reached o a c) m₂ r₂)))

          pub until_joined : length before ≡ 512 → n + left ≤ 128
              → (p : Part) → PartIs leaf_nodes leaf_flat s r.n k block (Ok p) late (untils lf d k (drop (suc i) s))
              → (q : Part) (after : List ℕ) → WithNode late p (two_byte (reach_op o) ∷ (r.n - 1) ∷ (p.n - 1) ∷ 0 ∷ []) q after
              → P (Ok q) after (untils lf l left t)
          until_joined long few p next q after put =
              by_part (P (Ok q) after)
              (λ a m u h.
              let here = subst (λ (j : ℕ). Held leaf_nodes leaf_flat s n left before r block a j u) (sym h.allowed ∙ some) h in
              subst (P (Ok q) after) (sym (chained a m u h))
              (two_parts leaf_nodes leaf_flat fl s (reach_op o) (reached o) (flat-reached o) n left before r block a k u here long few p late
              (untils lf d k (drop (suc i) s)) next q after put))
