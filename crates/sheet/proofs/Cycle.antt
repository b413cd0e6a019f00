-- Chains in the cycle of levels: what holds before each turn.
use Prim.Native.Nat.{ℕ, suc, ◌+◌, ◌-◌, ◌≤◌, ◌<◌}
use native.Mathlib.Omega.{arith}
use mathlib.Core.Path.{◌≡◌, refl, sym, subst}
use mathlib.Core.Bool.{Bool}
use mathlib.Core.List.{List, [], ◌∷◌, ◌++◌}
use lib.ListN.{length, drop}
use Rattle.std.specs.Prelude.{Result, Ok, Err, IfOk}
use Rattle.grammar.specs.Grammar.{Form, and, or}
use Rattle.grammar.specs.Limits.{nodes}
use Rattle.grammar.specs.Nodes.{two_n, Op₂, and₂, or₂, flat}
use Rattle.grammar.specs.Reader.{Got, got, no, Reader, chain, and_chain, or_chain, untils, ands, ors}
use Rattle.token.specs.Block.{two_byte}
use Rattle.token.specs.Parts.{PartIs}
use Rattle.sheet.specs.Ranks.{LeafOf, leaf_nodes, leaf_flat, leaf_reader}
use Rattle.token.specs.More.{WithNode, WithNodeIfRead}
use Rattle.token.specs.Operator.{Stands, Lacks}
use Rattle.token.specs.Joined.{part_length}
use Rattle.sheet.specs.Room.{flat_size, Room, room, refused_part}
use Rattle.sheet.specs.Chained.{Chain, chain_refused, begun, ended, spent, broken, onward}
use Rattle.token.specs.declared.Part.{Part}
use Rattle.token.specs.declared.Fault.{Fault}

-- the two chains
pub data Joint : Type 0 where
  conj disj : Joint

abbrev pub joint_byte : Joint → ℕ
joint_byte conj = 38
joint_byte disj = 124

abbrev pub joint_op : Joint → Op₂
joint_op conj = and₂
joint_op disj = or₂

abbrev pub joint : {L : Type 0} → Joint → Form L → Form L → Form L
joint conj = and
joint disj = or

pub flat-joint : (inner : Bool) (k : Joint) (a d : Form (LeafOf inner)) (b : ℕ) → flat (leaf_nodes inner) (leaf_flat inner) (joint k a d) b
    ≡ (flat (leaf_nodes inner) (leaf_flat inner) a b ++ flat (leaf_nodes inner) (leaf_flat inner) d (b + nodes (leaf_nodes inner) a))
    ++ (two_n (joint_op k) ((b + nodes (leaf_nodes inner) a) - 1) (((b + nodes (leaf_nodes inner) a) + nodes (leaf_nodes inner) d) - 1) ∷ [])
unfolding flat
flat-joint inner conj a d b = refl
flat-joint inner disj a d b = refl

-- what a chain is made of, and the chain
abbrev pub links : (inner : Bool) → Joint → ℕ → Reader (Form (LeafOf inner))
links inner conj level = untils (leaf_reader inner) level
links inner disj level = ands (leaf_reader inner) level

abbrev pub whole : (inner : Bool) → Joint → ℕ → Reader (Form (LeafOf inner))
whole inner conj level = ands (leaf_reader inner) level
whole inner disj level = ors (leaf_reader inner) level

whole_is : (inner : Bool) (k : Joint) (level left : ℕ) (t : List ℕ) → whole inner k level left t ≡ chain (joint_byte k) (joint k) (links inner k level) left t
unfolding ands and_chain ors or_chain
whole_is inner conj level left t = refl
whole_is inner disj level left t = refl

module _ (inner : Bool) (k : Joint) (level : ℕ) (s : List ℕ) (at n left : ℕ) (before : List ℕ) where
  abbrev P : Result Part Fault → List ℕ → Got (Form (LeafOf inner)) → Type 0
  P r after g = PartIs (leaf_nodes inner) (leaf_flat inner) s n left before r after g

  abbrev pub Turn : Part → List ℕ → Type 0
  Turn r block =
      Chain (leaf_nodes inner) (leaf_flat inner) (flat_size inner) (joint_byte k) (joint_op k) (joint k) (flat-joint inner k) (links inner k level) s n left
      before (whole inner k level left (drop at s)) r block

  pub first_refused : (f : Fault) (block : List ℕ) → P (Err f) block (links inner k level left (drop at s))
      → P (Err f) block (whole inner k level left (drop at s))
  first_refused f block h =
      subst (P (Err f) block) (sym (whole_is inner k level left (drop at s)))
      (chain_refused (leaf_nodes inner) (leaf_flat inner) (flat_size inner) (joint_byte k) (joint_op k) (joint k) (flat-joint inner k)
      (links inner k level) s n left before f block (drop at s) h)

  pub first_turn : (r : Part) (block : List ℕ) → P (Ok r) block (links inner k level left (drop at s)) → Turn r block
  first_turn r block h =
      subst
      (λ g. Chain (leaf_nodes inner) (leaf_flat inner) (flat_size inner) (joint_byte k) (joint_op k) (joint k) (flat-joint inner k)
      (links inner k level) s n left before g r block)
      (sym (whole_is inner k level left (drop at s)))
      (begun (leaf_nodes inner) (leaf_flat inner) (flat_size inner) (joint_byte k) (joint_op k) (joint k) (flat-joint inner k)
      (links inner k level) s n left before r block (drop at s) h)

  module _ (r : Part) (block : List ℕ) (w : Turn r block) where
    pub turn_room : Room n left r
    turn_room = room inner s n left before r block (got w.tree w.allowed w.rest) w.part

    pub turn_size : length before ≡ 512 → n + left ≤ 128 → length block ≡ length before
    turn_size long few =
        part_length (leaf_nodes inner) (leaf_flat inner) (flat_size inner) s n left before (Ok r) block (got w.tree w.allowed w.rest) w.part long few

    pub turn_ended : Lacks s r.at (joint_byte k) → P (Ok r) block (whole inner k level left (drop at s))
    turn_ended op =
        ended (leaf_nodes inner) (leaf_flat inner) (flat_size inner) (joint_byte k) (joint_op k) (joint k) (flat-joint inner k)
        (links inner k level) s n left before (whole inner k level left (drop at s)) r block w op

    module _ (i : ℕ) (op : Stands s r.at (joint_byte k) i) where
      pub turn_spent : r.left ≡ 0 → whole inner k level left (drop at s) ≡ no 14 (drop i s)
      turn_spent z =
          spent (leaf_nodes inner) (leaf_flat inner) (flat_size inner) (joint_byte k) (joint_op k) (joint k) (flat-joint inner k)
          (links inner k level) s n left before (whole inner k level left (drop at s)) r block w i op z

      -- no node is left for the operator
      pub turn_shut : length before ≡ 512 → n + left ≤ 128 → r.left ≡ 0 → (f : Fault) → f ≡ record { number = 14; at = i }
          → P (Err f) block (whole inner k level left (drop at s))
      turn_shut long few z f e =
          refused_part inner s n left before f block 14 i _ e (λ z. omega arith) (omega (arith, op.inside)) (turn_size long few) (turn_spent z)

      -- another part behind the operator
      module _ (some : 0 < r.left) (long : length before ≡ 512) (few : n + left ≤ 128) (late : List ℕ) where
        abbrev Next : Result Part Fault → Type 0
        Next p = PartIs (leaf_nodes inner) (leaf_flat inner) s r.n (r.left - 1) block p late (links inner k level (r.left - 1) (drop (i + 1) s))

        behind_it : (p : Result Part Fault) → Next p
            → PartIs (leaf_nodes inner) (leaf_flat inner) s r.n (r.left - 1) block p late (links inner k level (r.left - 1) (drop (suc i) s))
        behind_it p next =
            let e : i + 1 ≡ suc i = omega arith in
            subst (λ (j : ℕ). PartIs (leaf_nodes inner) (leaf_flat inner) s r.n (r.left - 1) block p late (links inner k level (r.left - 1) (drop j s))) e next

        pub turn_broken : (f : Fault) → Next (Err f) → P (Err f) late (whole inner k level left (drop at s))
        turn_broken f next =
            broken (leaf_nodes inner) (leaf_flat inner) (flat_size inner) (joint_byte k) (joint_op k) (joint k) (flat-joint inner k)
            (links inner k level) s n left before (whole inner k level left (drop at s)) r block w i op (r.left - 1) (omega arith) late f
            (behind_it (Err f) next) (turn_size long few)

        module _ (p : Part) (next : Next (Ok p)) where
          pub next_room : Room r.n (r.left - 1) p
          next_room = room inner s r.n (r.left - 1) block p late (links inner k level (r.left - 1) (drop (i + 1) s)) next

          pub turn_on : (q : Part) (after : List ℕ) → WithNode late p (two_byte (joint_op k) ∷ (r.n - 1) ∷ (p.n - 1) ∷ 0 ∷ []) q after
              → Turn q after × (q.left < r.left)
          turn_on q after put =
              onward (leaf_nodes inner) (leaf_flat inner) (flat_size inner) (joint_byte k) (joint_op k) (joint k) (flat-joint inner k)
              (links inner k level) s n left before (whole inner k level left (drop at s)) r block w i op (r.left - 1) (omega arith) late long few p
              (behind_it (Ok p) next) q after put

        -- its node, if it was read, and the operator's stand in the block
        pub next_fits : (p : Result Part Fault) → Next p → IfOk p (λ x. (0 < x.n) × (x.n < 128)) × (r.n - 1 < 128)
        next_fits p next =
            let m = turn_room in (
              fits p next,
              omega
                  (arith, m.kept, m.some),
            )
          where
            fits : (p : Result Part Fault) → Next p → IfOk p (λ x. (0 < x.n) × (x.n < 128))
            fits (Ok p) next = let m = turn_room in let x = next_room p next in (x.some, omega (arith, x.kept, m.kept))
            fits (Err f) next = tt

        -- by what the function that puts the operator's node gives
        abbrev Put : Result Part Fault → ℕ → Result Part Fault → List ℕ → Type 0
        Put p j q after = WithNodeIfRead late p (λ x. j ∷ (r.n - 1) ∷ (x.n - 1) ∷ 0 ∷ []) q after

        pub turn_broken_with : (p : Result Part Fault) → Next p → (j : ℕ) (f : Fault) (after : List ℕ) → Put p j (Err f) after
            → P (Err f) after (whole inner k level left (drop at s))
        turn_broken_with (Ok p) next j f after put = absurd put
        turn_broken_with (Err g) next j f after put =
            subst (λ (x : Result Part Fault). P x after (whole inner k level left (drop at s))) (sym put.0)
            (subst (λ (l : List ℕ). P (Err g) l (whole inner k level left (drop at s))) (sym put.1) (turn_broken g next))

        pub turn_on_with : (p : Result Part Fault) → Next p → (j : ℕ) → j ≡ two_byte (joint_op k) → (q : Part) (after : List ℕ) → Put p j (Ok q) after
            → Turn q after × (q.left < r.left)
        turn_on_with (Ok p) next j e q after put =
            turn_on p next q after (subst (λ (x : ℕ). WithNode late p (x ∷ (r.n - 1) ∷ (p.n - 1) ∷ 0 ∷ []) q after) e put)
        turn_on_with (Err f) next j e q after put = let z : ◌≡◌ {A = Result Part Fault} (Ok q) (Err f) = put.0 in absurd cc
