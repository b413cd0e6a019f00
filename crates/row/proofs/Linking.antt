-- Lanes linked from the last to the first: what holds before each turn.
use Prim.Native.Nat.{ℕ, suc, ◌+◌, ◌-◌, ◌≤◌, ◌<◌}
use native.Mathlib.Omega.{arith}
use mathlib.Core.Path.{◌≡◌, sym, ap, subst, ◌∙◌}
use mathlib.Core.List.{List}
use lib.ListN.{length, drop, get_or, set, length-set}
use lib.Seq.{drop-set-lt}
use Rattle.floor.specs.Numbers.{lane_at}
use Rattle.floor.specs.Promises.{AcceptedFloor}
use Rattle.floor.specs.declared.Floor.{Floor}
use Rattle.row.specs.Moves.{lanes_in}
use Rattle.row.specs.Chain.{leaves, Chained}
use Rattle.row.proofs.Linked.{chained_more}
use Rattle.row.proofs.FloorBytes.{lane_count, lane_byte}

-- the lanes from j on are linked, and what lies behind the links of lanes is as before
pub record Linking (s : List ℕ) (f : Floor) (before first next : List ℕ) (j : ℕ) : Type 0 where
  pub accepts : AcceptedFloor s f
  pub left : j ≤ f.lanes
  pub wide : length first ≡ 256
  pub room : f.lanes ≤ length next
  pub kept : length next ≡ length before
  pub behind : drop f.lanes next ≡ drop f.lanes before
  pub chained : Chained (lanes_in s) first next j

pub again : (s : List ℕ) (f : Floor) (before first next : List ℕ) (j at from : ℕ) → Linking s f before first next j → 0 < j
    → at ≡ lane_at f (j - 1) → from ≡ get_or s (at + 4) 0 → from < 256
    → Linking s f before (set first from (j - 1 + 1)) (set next (j - 1) (get_or first from 0)) (j - 1)
again s f before first next j at from w some is e below =
    let k = j - 1 in
    let one : j ≡ suc k = omega arith in
    let room : k < f.lanes = omega (arith, w.left) in
    let same : lane_at f k + 4 + 0 ≡ at + 4 = omega arith in
    let here : leaves (lanes_in s) k ≡ from = lane_byte s f w.accepts k 0 room (omega arith) ∙ ap (λ (n : ℕ). get_or s n 0) same ∙ sym e in
    let more : Chained (lanes_in s) (set first from (suc k)) (set next k (get_or first from 0)) k =
    chained_more (lanes_in s) first next k from (subst (Chained (lanes_in s) first next) one w.chained) (omega (arith, lane_count s f w.accepts))
    here (omega (arith, w.wide)) (omega (arith, w.room)) in
    let last : suc k ≡ k + 1 = omega arith in
    record {
      accepts = w.accepts;
      left = omega (arith, w.left);
      wide = length-set first from (k + 1) ∙ w.wide;
      room = omega (arith, length-set next k (get_or first from 0), w.room);
      kept = length-set next k (get_or first from 0) ∙ w.kept;
      behind = drop-set-lt f.lanes next k (get_or first from 0) room ∙ w.behind;
      chained = subst (λ (n : ℕ). Chained (lanes_in s) (set first from n) (set next k (get_or first from 0)) k) last more;
    }
