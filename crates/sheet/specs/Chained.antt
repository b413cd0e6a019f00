-- A chain read part by part.
use Prim.Native.Nat.{ℕ, zero, suc, ◌+◌, ◌-◌, ◌≤◌, ◌<◌}
use Rattle.std.proofs.Common.{arith, subst, ◌∙◌, eqb-true}
use Rattle.std.specs.Prelude.{◌≡◌, Bool, length, drop, Result, Ok, Err}
use Rattle.std.proofs.Math.Path.{refl, sym, ap}
use Rattle.std.proofs.Math.Bool.{true, false}
use mathlib.Core.List.{List, [], ◌∷◌, ◌++◌}
use Rattle.std.proofs.Math.Dec.{eqb}
use Rattle.grammar.specs.Grammar.{Form}
use Rattle.grammar.specs.Limits.{nodes}
use Rattle.grammar.specs.Nodes.{Node, two_n, Op₂, flat}
use Rattle.grammar.specs.Reader.{Got, got, no, Reader, bind, skip, chain_at, chain_more, chain}
use Rattle.grammar.proofs.Agree.{more_stop, more_out, more_go}
use Rattle.token.specs.Block.{two_byte}
use Rattle.token.specs.Parts.{Held, PartIs}
use Rattle.token.specs.More.{WithNode}
use Rattle.token.specs.Joined.{stay, two_parts}
use Rattle.token.specs.Operator.{Stands, Lacks}
use Rattle.token.specs.declared.Part.{Part}
use Rattle.token.specs.declared.Fault.{Fault}

bind-bind : {A : Type 0} (g : Got A) (f : A → A) (k : A → ℕ → List ℕ → Got A) → bind g (λ b m t. k (f b) m t) ≡ bind (bind g (λ b m t. got (f b) m t)) k
unfolding bind
bind-bind (got a m t) f k = refl
bind-bind (no w t) f k = refl

module _ {L : Type 0} (leaf_nodes : L → ℕ) (leaf_flat : L → ℕ → List Node) (fl : (a : Form L) (b : ℕ) → length (flat leaf_nodes leaf_flat a b) ≡ nodes leaf_nodes a)
    (c : ℕ) (o : Op₂) (mk : Form L → Form L → Form L)
    (flat-mk : (a d : Form L) (b : ℕ) → flat leaf_nodes leaf_flat (mk a d) b
    ≡ (flat leaf_nodes leaf_flat a b ++ flat leaf_nodes leaf_flat d (b + nodes leaf_nodes a)) ++
    (two_n o ((b + nodes leaf_nodes a) - 1) (((b + nodes leaf_nodes a) + nodes leaf_nodes d) - 1) ∷ []))
    (sub : Reader (Form L)) (s : List ℕ) where
  module _ (n left : ℕ) (before : List ℕ) where
    abbrev P : Result Part Fault → List ℕ → Got (Form L) → Type 0
    P r after g = PartIs leaf_nodes leaf_flat s n left before r after g

    -- the parts so far, and that the rest of the chain gives the answer
    pub record Chain (g : Got (Form L)) (r : Part) (block : List ℕ) : Type 0 where
      pub fuel : ℕ
      pub tree : Form L
      pub allowed : ℕ
      pub rest : List ℕ
      pub part : Held leaf_nodes leaf_flat s n left before r block tree allowed rest
      pub same : g ≡ chain_more c mk sub fuel tree allowed rest
      pub enough : r.left ≤ fuel

    -- the first part is refused, or read
    pub chain_refused : (f : Fault) (block t : List ℕ) → P (Err f) block (sub left t) → P (Err f) block (chain c mk sub left t)
    unfolding chain
    chain_refused f block t h =
        stay leaf_nodes leaf_flat leaf_nodes leaf_flat s n left n left before before f block (sub left t) h refl (λ a m r. chain_more c mk sub m a m r)

    pub begun : (r : Part) (block t : List ℕ) → P (Ok r) block (sub left t) → Chain (chain c mk sub left t) r block
    unfolding chain bind
    begun r block t p = go (sub left t) p
      where
        go : (g : Got (Form L)) → P (Ok r) block g → Chain (bind g (λ a m r. chain_more c mk sub m a m r)) r block
        go (got a m u) h = record { fuel = m; tree = a; allowed = m; rest = u; part = h; same = refl; enough = omega (arith, h.allowed) }
        go (no w u) h = absurd h

    module _ (g : Got (Form L)) (r : Part) (block : List ℕ) (w : Chain g r block) where
      -- no operator: the chain is what was read
      pub ended : Lacks s r.at c → P (Ok r) block g
      unfolding chain_more chain_at
      ended op =
          subst (P (Ok r) block) (sym (w.same ∙ stop w.fuel w.tree w.allowed w.rest (λ u q. op.none u (ap skip w.part.behind ∙ q)) (skip w.rest) refl)) w.part
        where
          stop : (f : ℕ) (a : Form L) (m : ℕ) (t : List ℕ) → ((u : List ℕ) → skip t ≡ c ∷ u → ⊥) → (v : List ℕ) → skip t ≡ v
              → chain_more c mk sub f a m t ≡ got a m t
          stop zero a m t none [] e = ap (chain_at c mk a m t _) e
          stop (suc f) a m t none [] e = ap (chain_at c mk a m t _) e
          stop f a m t none (b ∷ u) e = by (eqb b c) refl
            where
              by : (x : Bool) → eqb b c ≡ x → chain_more c mk sub f a m t ≡ got a m t
              by true q = absurd (none u (e ∙ ap (λ (k : ℕ). k ∷ u) (eqb-true b c q)))
              by false q = more_stop c mk sub a t f m b u e q

      module _ (i : ℕ) (op : Stands s r.at c i) where
        -- an operator with no node left for it
        pub spent : r.left ≡ 0 → g ≡ no 14 (drop i s)
        spent z =
            w.same ∙ ap (λ (k : ℕ). chain_more c mk sub w.fuel w.tree k w.rest) (sym w.part.allowed ∙ z)
            ∙ more_out c mk sub w.tree w.rest w.fuel (drop (suc i) s) (ap skip (sym w.part.behind) ∙ op.there)
            ∙ ap (no 14) (sym op.here)

        -- the operator and another part
        module _ (k : ℕ) (some : r.left ≡ suc k) (late : List ℕ) where
          goes_on : (f : ℕ) → w.fuel ≡ suc f
              → g ≡ bind (bind (sub k (drop (suc i) s)) (λ d m₂ t₂. got (mk w.tree d) m₂ t₂)) (λ a m t. chain_more c mk sub f a m t)
          goes_on f z =
              w.same ∙ ap (λ (j : ℕ). chain_more c mk sub j w.tree w.allowed w.rest) z
              ∙ ap (λ (j : ℕ). chain_more c mk sub (suc f) w.tree j w.rest) (sym w.part.allowed ∙ some)
              ∙ more_go c mk sub w.tree w.rest f k (drop (suc i) s) (ap skip (sym w.part.behind) ∙ op.there)
              ∙ bind-bind (sub k (drop (suc i) s)) (mk w.tree) (λ a m t. chain_more c mk sub f a m t)

          -- that part is refused
          pub broken : (f : Fault) → PartIs leaf_nodes leaf_flat s r.n k block (Err f) late (sub k (drop (suc i) s)) → length block ≡ length before
              → P (Err f) late g
          broken f next size = by_fuel w.fuel refl
            where
              by_fuel : (j : ℕ) → w.fuel ≡ j → P (Err f) late g
              by_fuel zero z = absurd (omega (arith, w.enough))
              by_fuel (suc j) z =
                  let x = sub k (drop (suc i) s) in
                  let first = stay leaf_nodes leaf_flat leaf_nodes leaf_flat s r.n k n left block before f late x next size
                  (λ d m₂ t₂. got (mk w.tree d) m₂ t₂) in
                  subst (P (Err f) late) (sym (goes_on j z))
                  (stay leaf_nodes leaf_flat leaf_nodes leaf_flat s n left n left before before f late (bind x (λ d m₂ t₂. got (mk w.tree d) m₂ t₂)) first refl
                  (λ a m t. chain_more c mk sub j a m t))

          -- or read, and the operator's node is put behind it
          module _ (long : length before ≡ 512) (few : n + left ≤ 128) (p : Part)
              (next : PartIs leaf_nodes leaf_flat s r.n k block (Ok p) late (sub k (drop (suc i) s))) (q : Part) (after : List ℕ)
              (put : WithNode late p (two_byte o ∷ (r.n - 1) ∷ (p.n - 1) ∷ 0 ∷ []) q after) where
            pub onward : Chain g q after × (q.left < r.left)
            unfolding bind
            onward = by_fuel w.fuel refl
              where
                here : Held leaf_nodes leaf_flat s n left before r block w.tree (suc k) w.rest
                here = subst (λ (j : ℕ). Held leaf_nodes leaf_flat s n left before r block w.tree j w.rest) (sym w.part.allowed ∙ some) w.part

                go : (f : ℕ) → w.fuel ≡ suc f → (x : Got (Form L)) → PartIs leaf_nodes leaf_flat s r.n k block (Ok p) late x
                    → g ≡ bind (bind x (λ d m₂ t₂. got (mk w.tree d) m₂ t₂)) (λ a m t. chain_more c mk sub f a m t) → Chain g q after × (q.left < r.left)
                go f z (no v t) y e = absurd y
                go f z (got d m t) y e =
                    let part : Held leaf_nodes leaf_flat s n left before q after (mk w.tree d) m t =
                    two_parts leaf_nodes leaf_flat fl s o mk flat-mk n left before r block w.tree k w.rest here long few p late (got d m t) y q after put in
                    let low : q.left ≤ k = omega (arith, part.allowed, y.allowed, y.kept, y.slots) in (
                      record { fuel = f; tree = mk w.tree d; allowed = m; rest = t; part = part; same = e; enough = omega (arith, low, w.enough) },
                      omega (arith, low),
                    )

                by_fuel : (j : ℕ) → w.fuel ≡ j → Chain g q after × (q.left < r.left)
                by_fuel zero z = absurd (omega (arith, w.enough))
                by_fuel (suc f) z = go f z (sub k (drop (suc i) s)) next (goes_on f z)
