-- What a part that was read leaves room for.
use Rattle.std.specs.Prelude.{ℕ, ◌+◌, ◌≤◌, ◌<◌, ◌≡◌, Bool, true, false, List, length, drop, Result, Ok, Err, MatchResult, IfOk}
use Rattle.std.proofs.Common.{arith, sym, subst}
use Rattle.grammar.specs.Grammar.{Form, top, leaf, neg, and, or, next, until, release, ev, gl, counted}
use Rattle.grammar.specs.Limits.{nodes}
use Rattle.grammar.specs.Nodes.{flat}
use Rattle.grammar.proofs.Standing.{inner_flat, clause_flat}
use Rattle.grammar.specs.Reader.{Got, got, no}
use Rattle.token.specs.Parts.{PartIs}
use Rattle.sheet.specs.Ranks.{LeafOf, leaf_nodes, leaf_flat}
use Rattle.token.specs.Placed.{refused_at}
use Rattle.token.specs.declared.Part.{Part}
use Rattle.token.specs.declared.Fault.{Fault}

pub flat_size : (inner : Bool) (a : Form (LeafOf inner)) (b : ℕ) → length (flat (leaf_nodes inner) (leaf_flat inner) a b) ≡ nodes (leaf_nodes inner) a
flat_size true = inner_flat
flat_size false = clause_flat

leaf_some : (inner : Bool) (x : LeafOf inner) → 1 ≤ leaf_nodes inner x
leaf_some true x = omega arith
leaf_some false (counted a x) = omega arith

some_node : (inner : Bool) (a : Form (LeafOf inner)) → 1 ≤ nodes (leaf_nodes inner) a
some_node inner top = omega arith
some_node inner (leaf x) = leaf_some inner x
some_node inner (neg a) = omega arith
some_node inner (next a) = omega arith
some_node inner (ev a) = omega arith
some_node inner (gl a) = omega arith
some_node inner (and a c) = omega arith
some_node inner (or a c) = omega arith
some_node inner (until a c) = omega arith
some_node inner (release a c) = omega arith

-- the nodes of a part that was read
pub record Room (n left : ℕ) (r : Part) : Type 0 where
  pub kept : r.n + r.left ≡ n + left
  pub some : 0 < r.n
  pub more : n < r.n

pub room : (inner : Bool) (s : List ℕ) (n left : ℕ) (before : List ℕ) (r : Part) (block : List ℕ) (g : Got (Form (LeafOf inner)))
    → PartIs (leaf_nodes inner) (leaf_flat inner) s n left before (Ok r) block g → Room n left r
room inner s n left before r block (no w t) h = absurd h
room inner s n left before r block (got a m t) h =
    let x = flat_size inner a n in
    let y = some_node inner a in
    record { kept = h.kept; some = omega (arith, h.slots); more = omega (arith, h.slots) }

pub room_if_read : (inner : Bool) (s : List ℕ) (n left : ℕ) (before : List ℕ) (r : Result Part Fault) (block : List ℕ) (g : Got (Form (LeafOf inner)))
    → PartIs (leaf_nodes inner) (leaf_flat inner) s n left before r block g → IfOk r (Room n left)
room_if_read inner s n left before (Ok r) block g h = room inner s n left before r block g h
room_if_read inner s n left before (Err f) block g h = tt

-- a refusal as a part
pub refused_part : (inner : Bool) (s : List ℕ) (n left : ℕ) (before : List ℕ) (f : Fault) (block : List ℕ) (w i : ℕ) (g : Got (Form (LeafOf inner)))
    → f ≡ record { number = w; at = i } → (w ≡ 0 → ⊥) → i ≤ length s → length block ≡ length before → g ≡ no w (drop i s)
    → PartIs (leaf_nodes inner) (leaf_flat inner) s n left before (Err f) block g
refused_part inner s n left before f block w i g e some l b q =
    subst (PartIs (leaf_nodes inner) (leaf_flat inner) s n left before (Err f) block) (sym q)
    (refused_at s before f block w i e some l b)

-- where a part ends is in the text, and so is what is refused
pub part_inside : (inner : Bool) (s : List ℕ) (n left : ℕ) (before : List ℕ) (r : Result Part Fault) (block : List ℕ) (g : Got (Form (LeafOf inner)))
    → PartIs (leaf_nodes inner) (leaf_flat inner) s n left before r block g → MatchResult r (λ p. p.at ≤ length s) (λ f. f.at ≤ length s)
part_inside inner s n left before (Err f) block (no w t) h = h.inside
part_inside inner s n left before (Ok r) block (no w t) h = absurd h
part_inside inner s n left before (Err f) block (got a m t) h = absurd h
part_inside inner s n left before (Ok r) block (got a m t) h = h.inside
