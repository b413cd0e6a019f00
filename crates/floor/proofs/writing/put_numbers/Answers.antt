use Rattle.std.proofs.Common.{◌≡◌, ◌+◌, ◌≤◌, ◌<◌, ap, ◌∙◌, length, arith, ℕ, List, refl, Option, None, Some, IsSome, MatchOption}
use Rattle.std.proofs.lemmas.Option.{MatchOption-at_some}
use Rattle.refusal.specs.Held.{gives_written}
use Rattle.refusal.specs.declared.Verdict.TheVariants.{Written, Floor as AboutFloor}
use Rattle.record.specs.Stored.{stored_front}
use Rattle.record.specs.Putting.{begin, finish, all_fit, all_put}
use Rattle.floor.specs.Lent.{lent}
use Rattle.floor.specs.Numbers.{FloorNumbers, floor_records, floor_bytes}
use Rattle.floor.proofs.writing.put_numbers.Goals as goal

-- the size is that of the bytes
laid : {l k : ℕ} {o : Option ℕ} → o ≡ Some k → MatchOption o (65536 < l) (λ k. (k ≡ l) × (k ≤ 65536)) → k ≡ l
laid e w = (MatchOption-at_some _ _ _ e w).0

-- no file that is short enough has none
there : {l : ℕ} (o : Option ℕ) → MatchOption o (65536 < l) (λ k. (k ≡ l) × (k ≤ 65536)) → l ≤ 65536 → IsSome o
there None w short = absurd (omega arith)
there (Some k) w short = refl

-- where there is room
room : (n : FloorNumbers) (size : ℕ) (out : List ℕ) → size ≡ length (floor_bytes n) → size ≤ length out → 0 + length (floor_bytes n) ≤ length out
room n size out e q = omega arith

pub unwrap-size-requires : goal.unwrap-size-requires
unwrap-size-requires c = there _ c.laid_size.ensures c.requires

pub put_words-lanes_at-requires : goal.put_words-lanes_at-requires
put_words-lanes_at-requires c =
    let r = room (lent c.args.n) _ _ (laid c.unwrap-size.ensures c.laid_size.ensures) c.if-out-size.false in
    let w = begin _ 0 (floor_records (lent c.args.n)) r in
    all_fit _ _ _ r _ _ _ _ w

pub put_parts-carts_at-requires : goal.put_parts-carts_at-requires
put_parts-carts_at-requires c =
    let r = room (lent c.args.n) _ _ (laid c.unwrap-size.ensures c.laid_size.ensures) c.if-out-size.false in
    let w = begin _ 0 (floor_records (lent c.args.n)) r in
    let w2 = all_put _ _ _ r _ _ _ _ w _ _ c.put_words-lanes_at.ensures.value c.put_words-lanes_at.ensures.out_after in
    (omega arith, omega arith, all_fit _ _ _ r _ _ _ _ w2)

pub put_parts-narrow_at-requires : goal.put_parts-narrow_at-requires
put_parts-narrow_at-requires c =
    let r = room (lent c.args.n) _ _ (laid c.unwrap-size.ensures c.laid_size.ensures) c.if-out-size.false in
    let w = begin _ 0 (floor_records (lent c.args.n)) r in
    let w2 = all_put _ _ _ r _ _ _ _ w _ _ c.put_words-lanes_at.ensures.value c.put_words-lanes_at.ensures.out_after in
    let w3 = all_put _ _ _ r _ _ _ _ w2 _ _ c.put_parts-carts_at.ensures.value c.put_parts-carts_at.ensures.out_after in
    (omega arith, omega arith, all_fit _ _ _ r _ _ _ _ w3)

pub put_parts-groups_at-requires : goal.put_parts-groups_at-requires
put_parts-groups_at-requires c =
    let r = room (lent c.args.n) _ _ (laid c.unwrap-size.ensures c.laid_size.ensures) c.if-out-size.false in
    let w = begin _ 0 (floor_records (lent c.args.n)) r in
    let w2 = all_put _ _ _ r _ _ _ _ w _ _ c.put_words-lanes_at.ensures.value c.put_words-lanes_at.ensures.out_after in
    let w3 = all_put _ _ _ r _ _ _ _ w2 _ _ c.put_parts-carts_at.ensures.value c.put_parts-carts_at.ensures.out_after in
    let w4 = all_put _ _ _ r _ _ _ _ w3 _ _ c.put_parts-narrow_at.ensures.value c.put_parts-narrow_at.ensures.out_after in
    (omega arith, omega arith, all_fit _ _ _ r _ _ _ _ w4)

pub put_words-requires : goal.put_words-requires
put_words-requires c =
    let r = room (lent c.args.n) _ _ (laid c.unwrap-size.ensures c.laid_size.ensures) c.if-out-size.false in
    let w = begin _ 0 (floor_records (lent c.args.n)) r in
    let w2 = all_put _ _ _ r _ _ _ _ w _ _ c.put_words-lanes_at.ensures.value c.put_words-lanes_at.ensures.out_after in
    let w3 = all_put _ _ _ r _ _ _ _ w2 _ _ c.put_parts-carts_at.ensures.value c.put_parts-carts_at.ensures.out_after in
    let w4 = all_put _ _ _ r _ _ _ _ w3 _ _ c.put_parts-narrow_at.ensures.value c.put_parts-narrow_at.ensures.out_after in
    let w5 = all_put _ _ _ r _ _ _ _ w4 _ _ c.put_parts-groups_at.ensures.value c.put_parts-groups_at.ensures.out_after in
    all_fit _ _ _ r _ _ _ _ w5

pub returns : goal.returns
returns c =
    let r = room (lent c.args.n) _ _ (laid c.unwrap-size.ensures c.laid_size.ensures) c.if-out-size.false in
    let w = begin _ 0 (floor_records (lent c.args.n)) r in
    let w2 = all_put _ _ _ r _ _ _ _ w _ _ c.put_words-lanes_at.ensures.value c.put_words-lanes_at.ensures.out_after in
    let w3 = all_put _ _ _ r _ _ _ _ w2 _ _ c.put_parts-carts_at.ensures.value c.put_parts-carts_at.ensures.out_after in
    let w4 = all_put _ _ _ r _ _ _ _ w3 _ _ c.put_parts-narrow_at.ensures.value c.put_parts-narrow_at.ensures.out_after in
    let w5 = all_put _ _ _ r _ _ _ _ w4 _ _ c.put_parts-groups_at.ensures.value c.put_parts-groups_at.ensures.out_after in
    let all = finish _ _ _ r _ _ (all_put _ _ _ r _ _ _ _ w5 _ _ c.put_words.ensures.value c.put_words.ensures.out_after) in
    gives_written AboutFloor (floor_bytes (lent c.args.n)) _ _ _ (omega arith) (ap Written (omega (arith, laid c.unwrap-size.ensures c.laid_size.ensures))) (all.1 ∙ stored_front c.args.out.now (floor_bytes (lent c.args.n)))
