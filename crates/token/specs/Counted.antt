-- A count: its inner text, its amount, and its node behind those of the inner text.
use Prim.Native.Nat.{ℕ, suc, ◌+◌, ◌-◌, ◌≤◌}
use Rattle.std.proofs.Common.{arith, ◌∙◌}
use Rattle.std.specs.Prelude.{◌≡◌, Result, Ok, Err}
use Rattle.std.proofs.Math.Path.{refl, sym, ap, subst}
use mathlib.Core.List.{List, [], ◌∷◌, ◌++◌}
use Rattle.std.proofs.Math.ListN.{length, drop}
use Rattle.grammar.specs.Grammar.{Form, Inner, Amount, Counted, counted, Clause}
use Rattle.grammar.specs.Limits.{nodes, mark_nodes, count_nodes}
use Rattle.grammar.specs.Nodes.{count_n, flat, flat_mark, flat_inner, flat_count}
use Rattle.grammar.proofs.Standing.{clause_flat, inner_flat}
use Rattle.grammar.specs.Reader.{Got, got, no, bind, skip, expect, amounts, count_end}
use Rattle.token.specs.Block.{node_bytes}
use Rattle.token.specs.Leaves.{Expected, amount_of, AmountIs}
use Rattle.token.specs.Digits.{relabel, amounts_any}
use Rattle.token.specs.Parts.{Held, PartIs}
use Rattle.token.specs.Counts.{count_got}
use Rattle.token.specs.More.{WithNode}
use Rattle.token.specs.Joined.{put_behind, part_length}
use Rattle.token.specs.Ended.{expect_found, expect_missing, refused_13, ended_part}
use Rattle.token.specs.declared.Part.{Part}
use Rattle.token.specs.declared.Fault.{Fault}
use Rattle.token.specs.declared.Amount.{Amount as Read}

-- an amount with the nodes still allowed handed on
abbrev pub count_end_by : Inner → ℕ → Got Amount → Got Counted
count_end_by a n (got x m r) = expect 93 (counted a x) n r
count_end_by a n (no w r) = no w r

module _ (a : Inner) (n : ℕ) (u : List ℕ) where
  by_amount : (g : Got Amount) → bind (relabel n g) (λ x m r. expect 93 (counted a x) m r) ≡ count_end_by a n g
  unfolding bind
  by_amount (got x m r) = refl
  by_amount (no w r) = refl

  pub count_end_is : count_end a n u ≡ count_end_by a n (amounts 0 u)
  unfolding count_end
  count_end_is = ap (λ (g : Got Amount). bind g (λ x m r. expect 93 (counted a x) m r)) (amounts_any n u) ∙ by_amount (amounts 0 u)

-- refused inner text is a refused count
pub text_handed_on : (s : List ℕ) (n m left : ℕ) (before : List ℕ) (f : Fault) (block : List ℕ) (g : Got Inner)
    → PartIs mark_nodes flat_mark s n m before (Err f) block g → PartIs count_nodes flat_count s n left before (Err f) block (count_got g)
unfolding bind
text_handed_on s n m left before f block (no w t) h = h
text_handed_on s n m left before f block (got a k t) h = absurd h

module _ (s : List ℕ) (n left : ℕ) (before : List ℕ) (long : length before ≡ 512) (few : n + suc left ≤ 128) (r : Part) (block : List ℕ) (g : Got Inner)
    (h : PartIs mark_nodes flat_mark s n left before (Ok r) block g) where
  abbrev C : Result Part Fault → List ℕ → Got Clause → Type 0
  C q after x = PartIs count_nodes flat_count s n (suc left) before q after x

  size : length block ≡ length before
  size = part_length mark_nodes flat_mark inner_flat s n left before (Ok r) block g h long (omega arith)

  -- with the comma
  comma : (p : Result Part Fault) → Expected s r 44 p → PartIs mark_nodes flat_mark s n left before p block (bind g (λ a m₁ r₁. expect 44 a m₁ r₁))
  comma p w = ended_part mark_nodes flat_mark s n left before r block 44 p w g h size

  pub comma_missing : (f : Fault) → Expected s r 44 (Err f) → C (Err f) block (count_got g)
  unfolding bind
  comma_missing f w = go (bind g (λ a m₁ r₁. expect 44 a m₁ r₁)) (comma (Err f) w)
    where
      go : (x : Got Inner) → PartIs mark_nodes flat_mark s n left before (Err f) block x
          → C (Err f) block (bind (bind x (λ a m₁ r₁. count_end a m₁ (skip r₁))) (λ x m r₁. got (Form.leaf x) m r₁))
      go (no v t) k = k
      go (got a m t) k = absurd k

  -- the comma is there, and behind it and spaces the amount
  module _ (p : Part) (w : Expected s r 44 (Ok p)) (i : ℕ) (is : drop i s ≡ skip (drop p.at s)) where
    by : (P : Got Clause → Type 0) → ((a : Inner) (m : ℕ) (t : List ℕ) → Held mark_nodes flat_mark s n left before p block a m t
        → P (bind (count_end_by a m (amounts 0 (drop i s))) (λ x m r₁. got (Form.leaf x) m r₁))) → P (count_got g)
    unfolding bind
    by P f = go (bind g (λ a m₁ r₁. expect 44 a m₁ r₁)) (comma (Ok p) w)
      where
        go : (x : Got Inner) → PartIs mark_nodes flat_mark s n left before (Ok p) block x
            → P (bind (bind x (λ a m₁ r₁. count_end a m₁ (skip r₁))) (λ x m r₁. got (Form.leaf x) m r₁))
        go (no v t) q = absurd q
        go (got a m t) q =
            let e : skip t ≡ drop i s = ap skip (sym q.behind) ∙ sym is in
            subst (λ (u : Got Counted). P (bind u (λ x m r₁. got (Form.leaf x) m r₁))) (sym (ap (count_end a m) e ∙ count_end_is a m (drop i s))) (f a m t q)

    pub amount_refused : (f : Fault) → AmountIs s (Err f) (amounts 0 (drop i s)) → f.at ≤ length s → C (Err f) block (count_got g)
    unfolding bind
    amount_refused f l in_text = by (C (Err f) block) (λ a m t h'. go a m (amounts 0 (drop i s)) l)
      where
        go : (a : Inner) (m : ℕ) (x : Got Amount) → AmountIs s (Err f) x → C (Err f) block (bind (count_end_by a m x) (λ x m r₁. got (Form.leaf x) m r₁))
        go a m (got y m₁ t) z = absurd z
        go a m (no v t) z = record { number = z.0; some = λ y. z.2 (sym z.0 ∙ y); behind = z.1; inside = in_text; block = size }

    -- the amount, the `]` and the count's node
    module _ (k : Read) (l : AmountIs s (Ok k) (amounts 0 (drop i s))) where
      abbrev here : Part
      here = record { at = k.at; left = p.left; n = p.n }

      -- what is expected behind the amount
      ends : (P : Got Clause → Type 0) → ((a : Inner) (m : ℕ) (t : List ℕ) → Held mark_nodes flat_mark s n left before p block a m t → (v : Amount) (u : List ℕ)
          → amount_of k ≡ v → drop k.at s ≡ u → P (bind (expect 93 (counted a v) m u) (λ x m r₁. got (Form.leaf x) m r₁))) → P (count_got g)
      ends P f = by P (λ a m t h'. go a m t h' (amounts 0 (drop i s)) l)
        where
          go : (a : Inner) (m : ℕ) (t : List ℕ) → Held mark_nodes flat_mark s n left before p block a m t → (y : Got Amount) → AmountIs s (Ok k) y
              → P (bind (count_end_by a m y) (λ x m r₁. got (Form.leaf x) m r₁))
          go a m t h' (no v u) y = absurd y
          go a m t h' (got v m₁ u) y = f a m t h' v u y.1 y.0

      pub unclosed : (f : Fault) → Expected s here 93 (Err f) → C (Err f) block (count_got g)
      unfolding bind
      unclosed f x =
          ends (C (Err f) block)
          (λ a m t h' v u ev e.
          subst (λ (y : Got Counted). C (Err f) block (bind y (λ x m r₁. got (Form.leaf x) m r₁))) (sym (expect_missing (counted a v) m s here u e 93 f x))
          (refused_13 s before here 93 f block x size))

      count_node : (a : Inner) (v : Amount)
          → flat count_nodes flat_count (Form.leaf (counted a v)) n ≡ flat mark_nodes flat_mark a n ++ (count_n ((n + nodes mark_nodes a) - 1) v ∷ [])
      unfolding flat flat_count flat_inner
      count_node a v = refl

      pub count_read_lem : (q : Part) → Expected s here 93 (Ok q) → (z : Part) (after : List ℕ)
          → WithNode block q (node_bytes (count_n (q.n - 1) (amount_of k))) z after → C (Ok z) after (count_got g)
      unfolding bind
      count_read_lem q x z after put =
          ends (C (Ok z) after)
          (λ a m t h' v u ev e.
          let na = inner_flat a n in
          let last : (q.n - 1) ≡ (n + nodes mark_nodes a) - 1 = omega (arith, x.slots, h'.slots) in
          let node : WithNode block q (node_bytes (count_n ((n + nodes mark_nodes a) - 1) v)) z after =
          subst (λ (j : ℕ). WithNode block q (node_bytes (count_n j v)) z after) last
          (subst (λ (x : Amount). WithNode block q (node_bytes (count_n (q.n - 1) x)) z after) ev put) in
          subst (λ (y : Got Counted). C (Ok z) after (bind y (λ x m r₁. got (Form.leaf x) m r₁))) (sym (expect_found (counted a v) m s here u e 93 q x))
          (put_behind count_nodes flat_count clause_flat s n (suc left) before block q m (drop q.at s) (count_n ((n + nodes mark_nodes a) - 1) v) z after
          (flat mark_nodes flat_mark a n)
          (Form.leaf (counted a v)) (count_node a v) refl x.inside (x.allowed ∙ h'.allowed) (x.slots ∙ h'.slots)
          (omega (arith, x.allowed, x.slots, h'.kept)) h'.block long few node))
