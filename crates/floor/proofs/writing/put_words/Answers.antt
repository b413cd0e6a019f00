use Rattle.std.proofs.Common.{◌+◌, ◌≤◌, ap, sym, subst, ◌∙◌, length, arith, List, ℕ, get_or}
use Rattle.endian.specs.Little.{bytes}
use Rattle.endian.specs.RoundTrip.{length-bytes}
use Rattle.record.specs.Record.{encoded}
use Rattle.record.specs.Parts.{of_kind}
use Rattle.record.specs.Buffer.{stored}
use Rattle.record.specs.Putting.{Putting, begin, fits, again, finish}
use Rattle.floor.proofs.Onward.{first_word, no_word}
use Rattle.floor.proofs.writing.put_words.Goals as goal

pub loop-word-init : goal.loop-word-init
loop-word-init c = begin _ _ _ c.requires

pub put-requires : goal.put-requires
put-requires c =
    let v = c.loop-word in
    let n = ap length c.bytes32.ensures ∙ length-bytes 4 _ in
    let room = fits _ _ _ c.requires _ _ _ _ (first_word (Putting _ _ _ _ _) _ _ _ c.loop-word-test.true v.invariant) in
    (omega arith, subst (λ b. v.next + 4 + length b ≤ length v.out) (sym c.bytes32.ensures) room)

pub overflow_add-next : goal.overflow_add-next
overflow_add-next c =
    let v = c.loop-word in
    let room : v.next + 4 + length (bytes 4 (get_or c.args.words.now v.word-index 0)) ≤ length v.out =
    fits _ _ _ c.requires _ _ _ _ (first_word (Putting _ _ _ _ _) _ _ _ c.loop-word-test.true v.invariant) in
    omega (arith, length-bytes 4 (get_or c.args.words.now v.word-index 0), v.auto.out)

pub loop-word-preserved : goal.loop-word-preserved
loop-word-preserved c =
    let v = c.loop-word in
    let front = first_word (Putting _ _ _ _ _) _ _ _ c.loop-word-test.true v.invariant in
    again _ _ _ c.requires _ _ _ _ front _ _ (ap (λ n. v.next + (4 + n)) (sym (length-bytes 4 _)))
    (c.put.ensures ∙ ap (λ (b : List ℕ). stored v.out v.next (encoded (of_kind c.args.kind b))) c.bytes32.ensures)

pub returns : goal.returns
returns c =
    let all = finish _ _ _ c.requires _ _ (no_word (Putting _ _ _ _ _) _ _ _ c.loop-word-test.false c.loop-word.invariant) in
    record { value = all.0; out_after = all.1 }
