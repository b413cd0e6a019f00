use Rattle.std.proofs.Common.{◌≤◌, ◌+◌, length, arith, refl, ◌∙◌}
use Rattle.record.specs.Laid.{first_part, no_part}
use Rattle.record.specs.Putting.{Putting, begin, fits, again, finish}
use Rattle.record.proofs.put_parts.Goals as goal

pub loop-body-init : goal.loop-body-init
loop-body-init c =
    let k = c.chunks-body-items.ensures in
    rw (c.into_iter-body-iterator.ensures.into_iter_gives, k.rest, k.size) (record { size = refl; putting = begin _ _ _ c.requires.2 })

pub put-requires : goal.put-requires
put-requires c =
    let k = c.in-Some.ensures.steps in
    let v = c.loop-body.invariant in
    (omega (arith, k), fits _ _ _ c.requires.2 _ _ _ _ (first_part (Putting _ _ _ _ _) _ _ _ _ _ c.requires.0 k.1.2 k.1.0 (omega (arith, k)) v.putting))

pub overflow_add-next-in-loop-body : goal.overflow_add-next-in-loop-body
overflow_add-next-in-loop-body c =
    let k = c.in-Some.ensures.steps in
    let v = c.loop-body.invariant in
    let room : c.loop-body.next + 4 + length c.in-Some.body.now ≤ length c.loop-body.out =
    fits _ _ _ c.requires.2 _ _ _ _ (first_part (Putting _ _ _ _ _) _ _ _ _ _ c.requires.0 k.1.2 k.1.0 (omega (arith, k)) v.putting) in
    omega (arith, c.loop-body.auto.out)

pub loop-body-preserved : goal.loop-body-preserved
loop-body-preserved c =
    let k = c.in-Some.ensures.steps in
    let v = c.loop-body.invariant in
    let s = v.size in
    record {
      size = k.0 ∙ s;
      putting = again _ _ _ c.requires.2 _ _ _ _ (first_part (Putting _ _ _ _ _) _ _ _ _ _ c.requires.0 k.1.2 k.1.0 (omega (arith, k)) v.putting) _ _ refl c.put.ensures;
    }

pub returns : goal.returns
returns c =
    let all = finish _ _ _ c.requires.2 _ _ (no_part (Putting _ _ _ _ _) _ _ _ c.in-None.ensures.steps.1.0 c.loop-body.invariant.putting) in
    record { value = all.0; out_after = all.1 }
