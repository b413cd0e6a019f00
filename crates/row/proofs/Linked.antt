-- Building the chain lane by lane, and judging a move along it.
use Prim.Native.Nat.{ℕ, zero, suc, ◌+◌, ◌-◌, ◌≤◌, ◌<◌}
use native.Mathlib.Omega.{arith}
use Rattle.std.specs.Prelude.{◌≡◌, refl, Bool, true, ◌&&◌, ◌||◌, ◌⊎◌, drop, get_or, set, replicate}
use Rattle.std.proofs.Common.{sym, subst, ◌∙◌, inl, inr, drop_of_length-le, get_or-set_same, get_or-set_other}
use Rattle.std.proofs.Math.Path.{ap}
use Rattle.std.proofs.Math.Bool.{false}
use mathlib.Core.List.{List, []}
use Rattle.std.proofs.Math.Dec.{eqb}
use Rattle.std.proofs.Math.ListN.{length}
use Rattle.std.proofs.lemmas.List.{get_or-replicate}
use Rattle.std.proofs.Math.Seq.{drop-cons}
use borrow.Author.Tests.{eqb-true, eqb-false, ne_eqb}
use Rattle.row.specs.Moves.{bit, opens, some_lane_opens}
use Rattle.row.specs.Chain.{leaves, Free, Leads, end, link, Chained}

module _ (lanes : List (List ℕ)) where
  -- lanes that leave another place are passed over
  skip : (c a b n j i : ℕ) → i ≡ j + n → i ≤ length lanes → Free lanes a j i → some_lane_opens (drop j lanes) c a b ≡ some_lane_opens (drop i lanes) c a b
  unfolding some_lane_opens
  skip c a b zero j i e l f = let q : j ≡ i = omega arith in ap (λ (k : ℕ). some_lane_opens (drop k lanes) c a b) q
  skip c a b (suc n) j i e l f =
      let m : j < length lanes = omega arith in
      let s = drop-cons lanes j [] m in
      let off : eqb (leaves lanes j) a ≡ false = ne_eqb _ _ (f j (omega arith) (omega arith)) in
      ap (λ (x : List (List ℕ)). some_lane_opens x c a b) s
      ∙ ap (λ (t : Bool). (t && (eqb (get_or (get_or lanes j []) 1 0) b && bit c (get_or (get_or lanes j []) 2 0))) || some_lane_opens (drop (suc j) lanes) c a b) off
      ∙ skip c a b n (suc j) i (omega arith) l (λ x p q. f x (omega arith) q)

  free_more : (a j i top : ℕ) → j ≡ suc i → Free lanes a j top → (leaves lanes i ≡ a → ⊥) → Free lanes a i top
  free_more a j i top e f n m p q z = go (eqb m i) refl
    where
      go : (t : Bool) → eqb m i ≡ t → ⊥
      go true s = n (subst (λ (x : ℕ). leaves lanes x ≡ a) (eqb-true m i s) z)
      go false s = let w : (m ≡ i → ⊥) = eqb-false m i s in f m (omega arith) q z

  module _ (next : List ℕ) (a : ℕ) where
    -- what a link says
    pub record Linked (k j : ℕ) : Type 0 where
      pub lane : ℕ
      pub is : k ≡ suc lane
      pub from : j ≤ lane
      pub there : lane < length lanes
      pub leaves_it : leaves lanes lane ≡ a
      pub rest : Leads lanes next a (get_or next lane 0) (suc lane)
      pub same : (c b : ℕ) → some_lane_opens (drop j lanes) c a b ≡ opens (get_or lanes lane []) c a b || some_lane_opens (drop (suc lane) lanes) c a b

    pub linked : {k j : ℕ} → Leads lanes next a k j → (k ≡ 0 → ⊥) → Linked k j
    unfolding some_lane_opens
    linked (end f) n = absurd (n refl)
    linked {j = j} (link {i = i} p q e f r) n = record {
      lane = i;
      is = refl;
      from = p;
      there = q;
      leaves_it = e;
      rest = r;
      same = λ c b. skip c a b (i - j) j i (omega arith) (omega arith) f ∙ ap (λ (x : List (List ℕ)). some_lane_opens x c a b) (drop-cons lanes i [] q);
    }

    pub ended : {k j : ℕ} → Leads lanes next a k j → k ≡ 0 → j ≤ length lanes → (c b : ℕ) → some_lane_opens (drop j lanes) c a b ≡ false
    unfolding some_lane_opens
    ended {j = j} (end f) z l c b =
        skip c a b (length lanes - j) j (length lanes) (omega arith) (omega arith) f
        ∙ ap (λ (x : List (List ℕ)). some_lane_opens x c a b) (drop_of_length-le lanes {i = length lanes} (omega arith))
    ended (link p q e f r) z l c b = absurd (omega arith)

    -- a link points at a later lane
    pub later : {k j : ℕ} → Leads lanes next a k j → (k ≡ 0) ⊎ (j < k)
    later (end f) = inl refl
    later (link p q e f r) = inr (omega arith)

    -- a chain is not changed by a link before it
    framed : (p v : ℕ) {k j : ℕ} → Leads lanes next a k j → p < j → Leads lanes (set next p v) a k j
    framed p v (end f) h = end f
    framed p v (link {i = i} q r e f u) h =
        let n : (i ≡ p → ⊥) = λ z. omega arith in
        link q r e f (subst (λ (x : ℕ). Leads lanes (set next p v) a x (suc i)) (sym (get_or-set_other next p i v 0 n)) (framed p v u (omega arith)))

    -- nor by a lane before it that leaves another place
    widened : {k j : ℕ} (i : ℕ) → Leads lanes next a k j → j ≡ suc i → (leaves lanes i ≡ a → ⊥) → Leads lanes next a k i
    widened {j = j} i (end f) e n = end (free_more a j i (length lanes) e f n)
    widened {j = j} i (link {i = o} p q u f r) e n = link {j = i} {i = o} (omega arith) q u (free_more a j i o e f n) r

  -- no lane linked yet
  pub chained_none : (next : List ℕ) (n : ℕ) → length lanes ≡ n → Chained lanes (replicate 256 0) next n
  chained_none next n e a below = subst (λ (x : ℕ). Leads lanes next a x n) (sym (get_or-replicate 256 a 0 0 below)) (end (λ m p q. absurd (omega arith)))

  -- one lane more in front
  pub chained_more : (first next : List ℕ) (j from : ℕ) → Chained lanes first next (suc j) → j < length lanes → leaves lanes j ≡ from
      → from < length first → j < length next
      → Chained lanes (set first from (suc j)) (set next j (get_or first from 0)) j
  chained_more first next j from ch l e room room' a below = go (eqb a from) refl
    where
      old : Leads lanes (set next j (get_or first from 0)) a (get_or first a 0) (suc j)
      old = framed next a j (get_or first from 0) (ch a below) (omega arith)

      go : (t : Bool) → eqb a from ≡ t → Leads lanes (set next j (get_or first from 0)) a (get_or (set first from (suc j)) a 0) j
      go true q =
          let same : a ≡ from = eqb-true a from q in
          let here : get_or (set first from (suc j)) a 0 ≡ suc j =
          ap (λ (x : ℕ). get_or (set first from (suc j)) x 0) same ∙ get_or-set_same first from (suc j) 0 room in
          let next_is : get_or first a 0 ≡ get_or (set next j (get_or first from 0)) j 0 =
          ap (λ (x : ℕ). get_or first x 0) same ∙ sym (get_or-set_same next j (get_or first from 0) 0 room') in
          subst (λ (x : ℕ). Leads lanes (set next j (get_or first from 0)) a x j) (sym here)
          (link (omega arith) l (e ∙ sym same) (λ m x y. absurd (omega arith))
          (subst (λ (x : ℕ). Leads lanes (set next j (get_or first from 0)) a x (suc j)) next_is old))
      go false q =
          let n : (a ≡ from → ⊥) = eqb-false a from q in
          subst (λ (x : ℕ). Leads lanes (set next j (get_or first from 0)) a x j) (sym (get_or-set_other first from a (suc j) 0 n))
          (widened (set next j (get_or first from 0)) a j old refl (λ z. n (sym z ∙ e)))
