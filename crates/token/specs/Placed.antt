-- A refusal at an offset, and a leaf of one node, as parts.
use Rattle.std.specs.Prelude.{ℕ, ◌+◌, ◌*◌, ◌≤◌, ◌≡◌, List, [], ◌∷◌, length, drop}
use Rattle.std.proofs.Common.{sym, ap, subst, ◌∙◌}
use Rattle.record.specs.Buffer.{stored}
use Rattle.grammar.specs.Grammar.{Form}
use Rattle.grammar.specs.Nodes.{Node, flat}
use Rattle.token.specs.Block.{nodes_bytes}
use Rattle.token.specs.Leaves.{PartRefused, Placed}
use Rattle.token.specs.Parts.{Held}
use Rattle.token.specs.Joined.{nodes_one}
use Rattle.token.specs.declared.Part.{Part}
use Rattle.token.specs.declared.Fault.{Fault}

pub refused_at : (s before : List ℕ) (f : Fault) (block : List ℕ) (w i : ℕ) → f ≡ record { number = w; at = i } → (w ≡ 0 → ⊥) → i ≤ length s
    → length block ≡ length before → PartRefused s before f block w (drop i s)
refused_at s before f block w i e some l b = record {
  number = ap (λ (x : Fault). x.number) e;
  some = λ z. some (sym (ap (λ (x : Fault). x.number) e) ∙ z);
  behind = ap (λ (x : Fault). drop x.at s) e;
  inside = subst (λ (x : Fault). x.at ≤ length s) (sym e) l;
  block = b;
}

pub placed_part : {A L : Type 0} (node : A → Node) (leaf_nodes : L → ℕ) (leaf_flat : L → ℕ → List Node) (s : List ℕ) (n left : ℕ) (before : List ℕ)
    (r : Part) (after : List ℕ)
    (x : A) (a : Form L) (m : ℕ) (t : List ℕ) → flat leaf_nodes leaf_flat a n ≡ node x ∷ [] → Placed node s n left before r after x m t
    → Held leaf_nodes leaf_flat s n left before r after a m t
placed_part node leaf_nodes leaf_flat s n left before r after x a m t e h = record {
  behind = h.behind;
  inside = h.inside;
  allowed = h.allowed;
  slots = h.slots ∙ ap (λ (ns : List Node). n + length ns) (sym e);
  kept = h.kept;
  block = h.block ∙ ap (stored before (4 * n)) (sym (nodes_one (node x)) ∙ ap nodes_bytes (sym e));
}
