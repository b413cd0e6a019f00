-- Lanes followed along the links of a place: what holds before each turn.
use Prim.Native.Nat.{ℕ, zero, suc, ◌+◌, ◌-◌, ◌≤◌, ◌<◌}
use native.Mathlib.Omega.{arith}
use mathlib.Core.Path.{◌≡◌, refl, sym, ap, ap₂, subst, ◌∙◌}
use mathlib.Core.Bool.{Bool, true, false, ◌&&◌, ◌||◌}
use mathlib.Core.Logic.{◌⊎◌, inl, inr}
use mathlib.Core.List.{List, []}
use lib.Dec.{eqb}
use lib.ListN.{length, drop, get_or}
use borrow.Author.Tests.{eq-eqb}
use Rattle.floor.specs.Numbers.{lane_at}
use Rattle.floor.specs.Promises.{AcceptedFloor}
use Rattle.floor.specs.declared.Floor.{Floor}
use Rattle.row.specs.Moves.{bit, opens, some_lane_opens, lanes_in}
use Rattle.row.specs.Chain.{Leads, Chained}
use Rattle.std.proofs.Math.Logic.{∥∥₁_elim, ∥∥₁_map}
use Rattle.std.proofs.Math.Bool.{Bool-set}
use Rattle.std.proofs.Math.Bridge.{le_prop}
use Rattle.row.proofs.Linked.{Linked, linked, ended, later}
use Rattle.row.proofs.FloorBytes.{lane_count, lane_byte}

-- what is left to be followed from a link on
unfoldable pub rank : ℕ → ℕ
rank zero = 0
rank (suc i) = 1024 - i

-- lanes from j on decide, and the link leads through those of them that leave the place
pub record Following (s next : List ℕ) (c a b k : ℕ) : Type 0 where
  pub from : ℕ
  pub within : from ≤ length (lanes_in s)
  pub leads : Leads (lanes_in s) next a k from
  pub same : some_lane_opens (lanes_in s) c a b ≡ some_lane_opens (drop from (lanes_in s)) c a b

module _ (s next : List ℕ) (f : Floor) (w : AcceptedFloor s f) (c a b k : ℕ) (g : Following s next c a b k) where
  pub none_open : k ≡ 0 → false ≡ some_lane_opens (lanes_in s) c a b
  none_open z = sym (g.same ∙ ended (lanes_in s) next a g.leads z g.within c b)

  module _ (some : k ≡ 0 → ⊥) where
    it : Linked (lanes_in s) next a k g.from
    it = linked (lanes_in s) next a g.leads some

    lane_is : it.lane ≡ k - 1
    lane_is = omega (arith, it.is)

    pub lane_below : k - 1 < f.lanes
    lane_below = omega (arith, it.is, it.there, lane_count s f w)

    -- whether the link's lane opens the move, by its other two bytes; at is where its record lies
    abbrev pub judged : ℕ → Bool
    judged at = eqb (get_or s (at + 4 + 1) 0) b && bit c (get_or s (at + 4 + 2) 0)

    by_bytes : (at : ℕ) → at ≡ lane_at f (k - 1) → opens (get_or (lanes_in s) it.lane []) c a b ≡ judged at
    by_bytes at here =
        let l : it.lane < f.lanes = omega (arith, it.there, lane_count s f w) in
        let z : lane_at f it.lane ≡ at = omega (arith, lane_is) in
        let p = lane_byte s f w it.lane 1 l (omega arith) ∙ ap (λ (n : ℕ). get_or s (n + 4 + 1) 0) z in
        let q = lane_byte s f w it.lane 2 l (omega arith) ∙ ap (λ (n : ℕ). get_or s (n + 4 + 2) 0) z in
        ap (λ (t : Bool). t && (eqb (get_or (get_or (lanes_in s) it.lane []) 1 0) b && bit c (get_or (get_or (lanes_in s) it.lane []) 2 0)))
        (eq-eqb _ _ it.leaves_it)
        ∙ ap₂ (λ (x y : ℕ). eqb x b && bit c y) p q

    module _ (at : ℕ) (here : at ≡ lane_at f (k - 1)) (t : Bool) (e : t ≡ judged at) where
      decided : (answer : Bool) → t ≡ answer → some_lane_opens (lanes_in s) c a b ≡ answer || some_lane_opens (drop (suc it.lane) (lanes_in s)) c a b
      decided answer z = g.same ∙ it.same c b ∙ ap (λ (x : Bool). x || some_lane_opens (drop (suc it.lane) (lanes_in s)) c a b) (by_bytes at here ∙ sym e ∙ z)

      pub found : t ≡ true → true ≡ some_lane_opens (lanes_in s) c a b
      found z = sym (decided true z)

      pub again : t ≡ false → (n : ℕ) → n ≡ get_or next (k - 1) 0 → Following s next c a b n
      again z n q = record {
        from = suc it.lane;
        within = omega (arith, it.there);
        leads = subst (λ (x : ℕ). Leads (lanes_in s) next a x (suc it.lane)) (ap (λ (i : ℕ). get_or next i 0) lane_is ∙ sym q) it.rest;
        same = decided false z;
      }

    lane_low : it.lane < 1024
    lane_low = omega (arith, it.there, lane_count s f w, w.valid.few_lanes)

    sinks : (n : ℕ) → (n ≡ 0) ⊎ (suc it.lane < n) → rank n < rank (suc it.lane)
    unfolding rank
    sinks zero o = omega (arith, lane_low)
    sinks (suc m) (inl z) = absurd (omega arith)
    sinks (suc m) (inr l) = omega (arith, lane_low)

    pub falls : (n : ℕ) → n ≡ get_or next (k - 1) 0 → rank n < rank k
    falls n q =
        let e : get_or next it.lane 0 ≡ n = ap (λ (i : ℕ). get_or next i 0) lane_is ∙ sym q in
        subst (λ (x : ℕ). rank n < rank x) (sym it.is) (sinks n (subst (λ (x : ℕ). (x ≡ 0) ⊎ (suc it.lane < x)) e (later (lanes_in s) next a it.rest)))

---- The same where it is only known that some lane is such.
module _ (s next : List ℕ) (f : Floor) (w : AcceptedFloor s f) (c a b k : ℕ) (g : ∥ Following s next c a b k ∥₁) where
  pub none_opens : k ≡ 0 → false ≡ some_lane_opens (lanes_in s) c a b
  none_opens z = ∥∥₁_elim g (Bool-set _ _) (λ x. none_open s next f w c a b k x z)

  module _ (some : k ≡ 0 → ⊥) where
    pub link_below : k - 1 < f.lanes
    link_below = ∥∥₁_elim g le_prop (λ x. lane_below s next f w c a b k x some)

    pub link_falls : (n : ℕ) → n ≡ get_or next (k - 1) 0 → rank n < rank k
    link_falls n q = ∥∥₁_elim g le_prop (λ x. falls s next f w c a b k x some n q)

    module _ (at : ℕ) (here : at ≡ lane_at f (k - 1)) (t : Bool) (e : t ≡ (eqb (get_or s (at + 4 + 1) 0) b && bit c (get_or s (at + 4 + 2) 0))) where
      pub link_opens : t ≡ true → true ≡ some_lane_opens (lanes_in s) c a b
      link_opens z = ∥∥₁_elim g (Bool-set _ _) (λ x. found s next f w c a b k x some at here t e z)

      pub link_again : t ≡ false → (n : ℕ) → n ≡ get_or next (k - 1) 0 → ∥ Following s next c a b n ∥₁
      link_again z n q = ∥∥₁_map g (λ x. again s next f w c a b k x some at here t e z n q)

-- from the first link of a place on
pub first_link : (s first next : List ℕ) (c a b k : ℕ) → ∥ Chained (lanes_in s) first next 0 ∥₁ → a < 256 → k ≡ get_or first a 0
    → ∥ Following s next c a b k ∥₁
first_link s first next c a b k g below e = ∥∥₁_map g (λ chained. record {
  from = 0;
  within = omega arith;
  leads = subst (λ (n : ℕ). Leads (lanes_in s) next a n 0) (sym e) (chained a below);
  same = refl;
})
