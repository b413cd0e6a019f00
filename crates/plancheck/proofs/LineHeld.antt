-- The nodes of a line that was read: in order, and its clause's.
use Rattle.std.specs.Prelude.{ℕ, ◌+◌, ◌-◌, ◌≤◌, ◌<◌, ◌≡◌, List, length, drop, Result, Ok}
use Rattle.std.proofs.Common.{arith, sym, subst, ◌∙◌}
use Rattle.record.specs.Buffer.{stored}
use Rattle.grammar.specs.Grammar.{Clause}
use Rattle.grammar.specs.Groups.{groups}
use Rattle.grammar.specs.Limits.{count_nodes}
use Rattle.grammar.specs.Nodes.{flat_count, flat_clause}
use Rattle.grammar.specs.Reader.{clause_line}
use Rattle.token.specs.Block.{nodes_bytes}
use Rattle.token.specs.Parts.{PartIs}
use Rattle.token.specs.declared.Part.{Part}
use Rattle.token.specs.declared.Fault.{Fault}
use Rattle.drift.specs.Lacking.{groups_from}
use Rattle.drift.specs.Tree.{Ordered, clause_tree}
use Rattle.drift.specs.Need.{SixPairsDo}
use Rattle.plancheck.proofs.Lines.{Left, Line, next_line}
use Rattle.plancheck.specs.NodesHeld.{held}

-- a block whose n nodes are clause c's
pub record Judgeable (block : List ℕ) (n : ℕ) (c : Clause) : Type 0 where
  pub some : 0 < n
  pub ordered : Ordered block ((n - 1) + 1)
  pub size : length block ≡ 512
  pub tree : (m : ℕ) → n - 1 < m → clause_tree block m (n - 1) ≡ c
  pub small : SixPairsDo block (n - 1)
  pub named : groups_from block n 0 ≡ groups c

pub line_held : (s before : List ℕ) (r : Part) (block : List ℕ) (n : ℕ) (cs : List Clause) → (l : Line s before r block n cs) → length before ≡ 512
    → Judgeable block r.n l.clause
unfolding flat_clause
line_held s before r block n cs l size =
    let c = l.clause in
    let h = held c before size l.good.0 l.good.1 in
    let k : ℕ = length (flat_clause c 0) in
    let e : k ≡ r.n = sym (l.held.slots ∙ zero k) in
    subst (λ (b : List ℕ). Judgeable b r.n c) (sym l.held.block)
    (subst (λ (m : ℕ). Judgeable (stored before 0 (nodes_bytes (flat_clause c 0))) m c) e (all h))
  where
    zero : (k : ℕ) → 0 + k ≡ k
    zero k = omega arith

    all : {b : List ℕ} {k : ℕ} {c : Clause}
        → (Ordered b k) × (0 < k) × (length b ≡ 512) × ((m : ℕ) → k ≤ m → clause_tree b m (k - 1) ≡ c) × SixPairsDo b (k - 1)
        × (groups_from b k 0 ≡ groups c) → Judgeable b k c
    all {b} {k} h =
        let z : k ≡ (k - 1) + 1 = omega (arith, h.1) in
        record { some = h.1; ordered = subst (Ordered b) z h.0; size = h.2; tree = λ m q. h.3 m (omega (arith, h.1)); small = h.4; named = h.5 }

-- a line read where one is left, ready to be judged
pub record Ready (s before : List ℕ) (r : Part) (block : List ℕ) (n : ℕ) (cs : List Clause) : Type 0 where
  pub line : Line s before r block n cs
  pub judge : Judgeable block r.n line.clause

pub ready : {s : List ℕ} {at n : ℕ} {cs : List Clause} {a : Result Part Fault} {r : Part} → Left s at n cs → at < length s → a ≡ Ok r
    → (before block : List ℕ) → PartIs count_nodes flat_count s 0 128 before a block (clause_line 128 (drop at s)) → length before ≡ 512
    → Ready s before r block n cs
ready {s} {at} {n} {cs} {a} {r} left inside e before block h size =
    let k = subst (λ (x : Result Part Fault). PartIs count_nodes flat_count s 0 128 before x block (clause_line 128 (drop at s))) e h in
    let l = next_line s at n inside cs left before r block k in
    record { line = l; judge = line_held s before r block n cs l size }
