-- The tables of the marks, that of all and that of none in one block.
use Prim.Native.Nat.{ℕ, ◌+◌, ◌*◌, ◌-◌, ◌^◌, ◌≤◌, ◌<◌}
use mathlib.Core.Path.{◌≡◌, sym, ap, ◌∙◌}
use mathlib.Core.Bool.{Bool, false, cond}
use mathlib.Core.List.{List}
use native.Mathlib.Omega.{arith}
use native.Mathlib.Nat.{add-mul}
use lib.ListN.{get_or, length}
use borrow.Author.Tests.{lt-ltb, le-ltb}
use Rattle.row.specs.Round.{pick}
use Rattle.mask.specs.Mask.{on}
use Rattle.mask.specs.EachBit.{on_zero, on_ones}
use Rattle.table.specs.Table.{told, Stored}
use Rattle.table.specs.Layout.{all_at, none_at, pairs_at, mark_at}
use Rattle.marks.specs.Bears.{bearing, NoneFrom}
use Rattle.marks.specs.Tables.{Holds, Tables, Empty, Bearers, Filled}
use Rattle.marks.proofs.Filling.{apart}

word : (t : List ℕ) {i j : ℕ} → i ≡ j → get_or t i 0 ≡ get_or t j 0
word t e = ap (λ (k : ℕ). get_or t k 0) e

module _ (marks h : ℕ) {end full at_all at_none : ℕ} {before cleared all none : List ℕ} (c : Stored (λ s y. y ≡ 0) 0 0 end before cleared)
    (a : Stored (λ s y. y ≡ full) at_all 0 h cleared all) (n : Stored (λ s y. y ≡ 0) at_none 0 h all none)
    (laid : (end ≡ marks * h) × (full ≡ 2 ^ 32 - 1) × (at_all ≡ marks * h) × (at_none ≡ marks * h + h)) where
  pub length_kept : length none ≡ length before
  length_kept = n.kept ∙ a.kept ∙ c.kept

  pub empty : Holds Empty marks h none
  empty k p s q =
      let i : k * h + s < end = omega (arith, apart k marks h p) in
      n.below (k * h + s) (omega arith) ∙ a.below (k * h + s) (omega arith) ∙ word cleared (omega arith) ∙ c.each (k * h + s) (omega arith) i

  module _ (floor block : List ℕ) (carts : ℕ) (after : List ℕ) (room : pairs_at marks h ≤ length before)
      (r : Tables (Bearers floor block carts) marks h none after) (f : NoneFrom floor block carts h marks) where
    all_word : (s : ℕ) → s < h → get_or after (all_at marks h + s) 0 ≡ full
    all_word s p = word after (omega arith) ∙ r.beyond (at_all + s) (omega arith) ∙ n.below (at_all + s) (omega arith) ∙ a.each s (omega arith) p

    none_word : (s : ℕ) → s < h → get_or after (none_at marks h + s) 0 ≡ 0
    none_word s p = word after (omega (arith, add-mul marks 1 h)) ∙ r.beyond (at_none + s) (omega arith) ∙ n.each s (omega arith) p

    none_told : (i s : ℕ) → s < h → told after (none_at marks h) i s ≡ false
    none_told i s p = ap (λ (x : ℕ). on x i) (none_word s p) ∙ on_zero i

    mark_told : (i s k : ℕ) → i < carts → s < h → k < 32 → told after (mark_at marks h k) i s ≡ bearing floor block i s k
    mark_told i s k p q u =
        let at : Bool → Bool = λ b. told after (cond b (k * h) (none_at marks h)) i s in
        pick k marks (told after (mark_at marks h k) i s ≡ bearing floor block i s k)
        (λ v. ap at (lt-ltb k marks v) ∙ (r.each k v s q).at i p)
        (λ v. ap at (le-ltb k marks v) ∙ none_told i s q ∙ sym (f.none i s k p q v u))

    pub filled : Filled floor block carts h marks before after
    filled = record {
      kept = r.kept ∙ length_kept;
      constants = record {
        room = omega (arith, r.kept, length_kept);
        all = λ i s p q. ap (λ (x : ℕ). on x i) (all_word s q ∙ laid.1) ∙ on_ones 32 i p;
        none = λ i s p q. none_told i s q;
      };
      shown = mark_told;
      low = λ k p s q. (r.each k p s q).low;
      beyond = λ j p.
          let e = add-mul marks 2 h in
          r.beyond j (omega arith) ∙ n.above j (omega arith) ∙ a.above j (omega arith) ∙ c.above j (omega arith);
    }
