use Rattle.std.proofs.Common.{ℕ, ◌+◌, ◌≡◌, get_or, replicate, refl, ap, ◌∙◌, arith, length-set}
use Rattle.floor.specs.Numbers.{numbers_of}
use Rattle.conflict.proofs.Searching.{zeros}
use Rattle.conflict.proofs.Marking.{none_named, one_marked, narrow_byte, narrow_inside}
use Rattle.conflict.proofs.narrow.marked.Goals as goal

pub loop-i-init : goal.loop-i-init
loop-i-init c = record { size = refl; flags = none_named (replicate 256 0) (zeros 256) }

pub bounds-floor-at : goal.bounds-floor-at
bounds-floor-at c = omega (arith, narrow_inside _ _ c.requires c.loop-i.i c.loop-i-test.true)

pub loop-i-preserved : goal.loop-i-preserved
loop-i-preserved c =
    let names : c.from.result ≡ get_or (numbers_of c.args.floor.now).narrow c.loop-i.i 0 =
    c.from.ensures ∙ ap (λ (k : ℕ). get_or c.args.floor.now (k + 4) 0) c.narrow_at-at.ensures ∙ narrow_byte _ _ c.requires c.loop-i.i c.loop-i-test.true in
    record {
      size = omega (arith, length-set {A = ℕ});
      flags = one_marked c.loop-i.bays (numbers_of c.args.floor.now).narrow c.loop-i.i c.from.result c.loop-i.invariant.size
          (omega (arith, c.type_inv.floor (c.narrow_at-at.result + 4))) (omega (arith, c.requires.valid.narrow)) names c.loop-i.invariant.flags;
    }
