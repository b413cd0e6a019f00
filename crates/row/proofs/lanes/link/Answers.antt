use Rattle.std.proofs.Common.{◌+◌, ◌<◌, List, ℕ, length, refl, sym, ap, subst, ◌∙◌, arith}
use Rattle.std.proofs.lemmas.List.{length-replicate}
use Rattle.row.specs.Moves.{lanes_in}
use Rattle.row.specs.Chain.{Chained}
use Rattle.row.proofs.Linked.{chained_none}
use Rattle.row.proofs.FloorBytes.{file_length_lem, lane_count}
use Rattle.row.proofs.Linking.{again}
use Rattle.row.proofs.lanes.link.Goals as goal

pub loop-j-init : goal.loop-j-init
loop-j-init c = let a = c.args in
    let p = c.requires in
    record {
      accepts = p.accepted_floor;
      left = omega arith;
      wide = ap length p.first_value ∙ length-replicate {A = ℕ} 256 0;
      room = p.lanes_in_bounds;
      kept = refl;
      behind = refl;
      chained =
          subst (λ (l : List ℕ). Chained (lanes_in a.s.now) l a.next.now a.f.lanes) (sym p.first_value)
          (chained_none (lanes_in a.s.now) a.next.now a.f.lanes (lane_count a.s.now a.f p.accepted_floor));
    }

pub bounds-s-at : goal.bounds-s-at
bounds-s-at c = let w = c.loop-j.invariant in omega (arith, file_length_lem _ _ w.accepts)

pub loop-j-preserved : goal.loop-j-preserved
loop-j-preserved c =
    let low : c.from-from.result < 256 = omega (arith, c.from-from.ensures, c.type_inv.s (c.lane_at-at.result + 4)) in
    let l = c.loop-j in
    again c.args.s.now c.args.f c.args.next.now l.first l.next l.j c.lane_at-at.result c.from-from.result l.invariant
    (omega arith) c.lane_at-at.ensures (omega (arith, c.from-from.ensures)) low
