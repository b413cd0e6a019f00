use Rattle.std.proofs.Common.{◌≡◌, ◌+◌, ap, sym, refl, ◌∙◌, rules, arith, Err}
use Rattle.endian.specs.RoundTrip.{length-bytes}
use Rattle.floor.specs.Floor.{judged}
use Rattle.floor.specs.Walked.{refused_at}
use Rattle.floor.proofs.Onward.{Left, first_word, no_word, none_left, left_good, left_fault}
use Rattle.floor.proofs.walking.walk_words.Goals as goal

pub loop-word-init : goal.loop-word-init
loop-word-init c = record { short = c.requires; same = refl }

pub judge_at-requires : goal.judge_at-requires
judge_at-requires c = omega (arith, c.loop-word.invariant.short)

pub overflow_add-next : goal.overflow_add-next
overflow_add-next c = omega (arith, c.loop-word.invariant.short)

pub loop-word-preserved : goal.loop-word-preserved
loop-word-preserved c =
    let v = c.loop-word in
    let front = first_word (Left _ _ _) _ _ _ c.loop-word-test.true v.invariant in
    let judged-is = ap (λ b. refused_at v.next (judged v.g c.args.kind b)) (sym c.bytes32.ensures) ∙ sym c.judge_at.ensures ∙ c.in_ok-g.was in
    left_good _ _ _ _ _ front _ _ (ap (λ n. v.next + (4 + n)) (sym (length-bytes 4 _))) judged-is

pub returns-in_err-g : goal.returns-in_err-g
returns-in_err-g c =
    let v = c.loop-word in
    let e : c.from_residual.result ≡ Err c.in_err-g.field-0.0 = search rules in
    let front = first_word (Left _ _ _) _ _ _ c.loop-word-test.true v.invariant in
    let judged-is = ap (λ b. refused_at v.next (judged v.g c.args.kind b)) (sym c.bytes32.ensures) ∙ sym c.judge_at.ensures ∙ c.in_err-g.was in
    e ∙ left_fault _ _ _ _ _ front _ judged-is

pub returns : goal.returns
returns c = none_left _ _ _ (no_word (Left _ _ _) _ _ _ c.loop-word-test.false c.loop-word.invariant)
