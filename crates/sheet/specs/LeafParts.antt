-- Leaves as parts: a mark, and a count at its `[`.
use Rattle.std.specs.Prelude.{ℕ, suc, ◌<◌, ◌≡◌, refl, Bool, List, eqb, length, get_or, drop, Result, Ok, Err}
use Rattle.std.proofs.Common.{sym, ◌∙◌, drop-cons, eq-eqb, ne_eqb}
use Rattle.std.proofs.Math.Path.{ap}
use Rattle.std.proofs.Math.Bool.{true}
use Rattle.grammar.specs.Grammar.{Form, Counted, Clause}
use Rattle.grammar.specs.Limits.{mark_nodes}
use Rattle.grammar.specs.Nodes.{mark_n, flat, flat_mark}
use Rattle.grammar.specs.Reader.{Got, got, no, bind, node, marks, inners, count_by, counts, ors}
use Rattle.token.specs.Leaves.{LeafIs}
use Rattle.token.specs.Parts.{PartIs}
use Rattle.token.specs.Counts.{count_got}
use Rattle.token.specs.Placed.{placed_part}
use Rattle.token.specs.declared.Part.{Part}
use Rattle.token.specs.declared.Fault.{Fault}

pub mark_part : (s : List ℕ) (n left : ℕ) (before : List ℕ) (r : Result Part Fault) (after : List ℕ) (g : Got ℕ) → LeafIs mark_n s n left before r after g
    → PartIs mark_nodes flat_mark s n left before r after (bind g (λ x m t. got (Form.leaf x) m t))
unfolding bind flat flat_mark
mark_part s n left before (Err f) after (no w t) h = h.part
mark_part s n left before (Ok r) after (no w t) h = absurd h
mark_part s n left before (Err f) after (got x m t) h = absurd h
mark_part s n left before (Ok r) after (got x m t) h = placed_part mark_n mark_nodes flat_mark s n left before r after x (Form.leaf x) m t refl h

module _ (s : List ℕ) (level left i : ℕ) (l : i < length s) where
  -- what a count gives, as a leaf of a clause
  abbrev pub count_leaf : Got Clause
  count_leaf = bind (counts level left (drop i s)) (λ x m t. got (Form.leaf x) m t)

  sees : counts level left (drop i s) ≡ count_by level (eqb (get_or s i 0) 91) left (get_or s i 0) (drop (suc i) s)
  unfolding counts
  sees = ap (counts level left) (drop-cons s i 0 l)

  pub no_count : (get_or s i 0 ≡ 91 → ⊥) → count_leaf ≡ no 13 (drop i s)
  unfolding count_by bind
  no_count n =
      ap (λ (g : Got Counted). bind g (λ x m t. got (Form.leaf x) m t))
      (sees ∙ ap (λ (b : Bool). count_by level b left (get_or s i 0) (drop (suc i) s)) (ne_eqb (get_or s i 0) 91 n))
      ∙ ap (no 13) (sym (drop-cons s i 0 l))

  module _ (e : get_or s i 0 ≡ 91) where
    begins : count_leaf ≡ bind (count_by level true left (get_or s i 0) (drop (suc i) s)) (λ x m t. got (Form.leaf x) m t)
    begins =
        ap (λ (g : Got Counted). bind g (λ x m t. got (Form.leaf x) m t))
        (sees ∙ ap (λ (b : Bool). count_by level b left (get_or s i 0) (drop (suc i) s)) (eq-eqb (get_or s i 0) 91 e))

    pub count_shut : level ≡ 0 → count_leaf ≡ no 14 (drop i s)
    unfolding count_by bind
    count_shut z =
        begins ∙ ap (λ (d : ℕ). bind (count_by d true left (get_or s i 0) (drop (suc i) s)) (λ x m t. got (Form.leaf x) m t)) z
        ∙ ap (no 14) (sym (drop-cons s i 0 l))

    module _ (d : ℕ) (deep : level ≡ suc d) where
      opened : count_leaf ≡ bind (count_by (suc d) true left (get_or s i 0) (drop (suc i) s)) (λ x m t. got (Form.leaf x) m t)
      opened = begins ∙ ap (λ (j : ℕ). bind (count_by j true left (get_or s i 0) (drop (suc i) s)) (λ x m t. got (Form.leaf x) m t)) deep

      pub count_spent : left ≡ 0 → count_leaf ≡ no 14 (drop i s)
      unfolding count_by node bind
      count_spent z =
          opened ∙ ap (λ (m : ℕ). bind (count_by (suc d) true m (get_or s i 0) (drop (suc i) s)) (λ x m t. got (Form.leaf x) m t)) z
          ∙ ap (no 14) (sym (drop-cons s i 0 l))

      pub count_is : (m : ℕ) → left ≡ suc m → count_leaf ≡ count_got (ors (λ j. marks) d m (drop (suc i) s))
      unfolding count_by node inners
      count_is m z = opened ∙ ap (λ (j : ℕ). bind (count_by (suc d) true j (get_or s i 0) (drop (suc i) s)) (λ x m t. got (Form.leaf x) m t)) z
