use Rattle.std.proofs.Common.{◌≡◌, ◌+◌, ◌≤◌, sym, refl, ◌∙◌, length, rules, arith, Err}
use Rattle.record.specs.Laid.{first_part, no_part}
use Rattle.floor.proofs.Onward.{Left, none_left, stays, left_good, left_fault}
use Rattle.floor.proofs.walking.walk_parts.Goals as goal

pub loop-body-init : goal.loop-body-init
loop-body-init c =
    let k = c.chunks-body-items.ensures in
    rw (c.into_iter-body-iterator.ensures.into_iter_gives, k.rest, k.size) (record { size = refl; left = record { short = c.requires.1; same = refl } })

pub judge_at-requires : goal.judge_at-requires
judge_at-requires c = omega (arith, c.loop-body.invariant.left.short)

pub overflow_add-next : goal.overflow_add-next
overflow_add-next c =
    let k = c.in-Some.ensures.steps in
    let v = c.loop-body.invariant in
    let s = v.size in
    let room : c.loop-body.next + (4 + length c.in-Some.body.now) ≤ 65536 =
    stays _ _ _ _ _ (first_part (Left _ _ _) _ _ _ _ _ c.requires.0 k.1.2 k.1.0 (omega (arith, k)) v.left) in
    omega arith

pub loop-body-preserved : goal.loop-body-preserved
loop-body-preserved c =
    let k = c.in-Some.ensures.steps in
    let v = c.loop-body.invariant in
    let s = v.size in
    record {
      size = k.0 ∙ s;
      left = left_good _ _ _ _ _ (first_part (Left _ _ _) _ _ _ _ _ c.requires.0 k.1.2 k.1.0 (omega (arith, k)) v.left) _ _ refl (sym c.judge_at.ensures ∙ c.in_ok-g.was);
    }

pub returns-in_err-g : goal.returns-in_err-g
returns-in_err-g c =
    let k = c.in-Some.ensures.steps in
    let v = c.loop-body.invariant in
    let s = v.size in
    let e : c.from_residual.result ≡ Err c.in_err-g.field-0.0 = search rules in
    e ∙ left_fault _ _ _ _ _ (first_part (Left _ _ _) _ _ _ _ _ c.requires.0 k.1.2 k.1.0 (omega (arith, k)) v.left) _ (sym c.judge_at.ensures ∙ c.in_err-g.was)

pub returns : goal.returns
returns c = none_left _ _ _ (no_part (Left _ _ _) _ _ _ c.in-None.ensures.steps.1.0 c.loop-body.invariant.left)
