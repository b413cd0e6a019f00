use Rattle.std.proofs.Common.{◌≡◌, ◌≤◌, ap, sym, ◌∙◌, length, rules, arith, ℕ, false, Err}
use Rattle.std.proofs.lemmas.Option.{MatchOption-at_some, MatchOption-at_none}
use Rattle.floor.specs.Floor.{Walked, walk, at_end, empty_floor, read_floor}
use Rattle.floor.specs.Lent.{lent}
use Rattle.floor.specs.Numbers.{FloorNumbers, floor_records, floor_bytes}
use Rattle.floor.specs.Walk.{read_records_lem}
use Rattle.floor.specs.declared.Floor.{Floor}
use Rattle.floor.proofs.Onward.{Left, none_left, all_stay, all_good, all_fault}
use Rattle.floor.proofs.Steps.{none_counted, too_long}
use Rattle.floor.proofs.writing.judge_numbers.Goals as goal

module _ (n : FloorNumbers) (size : ℕ) (e : (size ≡ length (floor_bytes n)) × (size ≤ 65536)) where
  short : length (floor_bytes n) ≤ 65536
  short = omega (arith, e)

  -- all records are left
  begin : (f : Floor) → (f.places ≡ 0) × ((f.lanes ≡ 0) × ((f.carts ≡ 0) × ((f.narrow ≡ 0) × (f.groups ≡ 0))))
      → Left (walk empty_floor 0 (floor_records n)) f 0 (floor_records n)
  begin f z = record { short = omega (arith, short); same = ap (λ (g : Floor). walk g 0 (floor_records n)) (none_counted f z) }

  -- what they are judged to is what reading gives
  read : (w : Walked) → w ≡ walk empty_floor 0 (floor_records n) → at_end w false ≡ read_floor (floor_bytes n)
  read w q = ap (λ (x : Walked). at_end x false) q ∙ sym (read_records_lem n short)

pub returns-in_default : goal.returns-in_default
returns-in_default c = ap Err c.at_offset.ensures ∙ too_long (floor_bytes (lent c.args.n)) (MatchOption-at_none _ _ c.in_default.is c.laid_size.ensures)

pub walk_words-requires : goal.walk_words-requires
walk_words-requires c =
    let w = begin _ _ (MatchOption-at_some _ _ _ c.in-Some.is c.laid_size.ensures) _ c.default.ensures in
    all_stay _ _ _ _ _ w

pub returns-in_err-f : goal.returns-in_err-f
returns-in_err-f c =
    let w = begin _ _ (MatchOption-at_some _ _ _ c.in-Some.is c.laid_size.ensures) _ c.default.ensures in
    let e : c.from_residual.result ≡ Err c.in_err-f.field-0.0 = search rules in
    e ∙ read _ _ (MatchOption-at_some _ _ _ c.in-Some.is c.laid_size.ensures) _ (all_fault _ _ _ _ _ w _ (sym c.walk_words.ensures ∙ c.in_err-f.was))

pub walk_parts-requires : goal.walk_parts-requires
walk_parts-requires c =
    let w = begin _ _ (MatchOption-at_some _ _ _ c.in-Some.is c.laid_size.ensures) _ c.default.ensures in
    let w2 = all_good _ _ _ _ _ w _ _ (sym c.walk_words.ensures ∙ c.in_ok-f.was) in
    (omega arith, all_stay _ _ _ _ _ w2)

pub returns-in_err-f-2 : goal.returns-in_err-f-2
returns-in_err-f-2 c =
    let w = begin _ _ (MatchOption-at_some _ _ _ c.in-Some.is c.laid_size.ensures) _ c.default.ensures in
    let w2 = all_good _ _ _ _ _ w _ _ (sym c.walk_words.ensures ∙ c.in_ok-f.was) in
    let e : c.from_residual-in_err-f-2.result ≡ Err c.in_err-f-2.field-0.0 = search rules in
    e ∙ read _ _ (MatchOption-at_some _ _ _ c.in-Some.is c.laid_size.ensures) _ (all_fault _ _ _ _ _ w2 _ (sym c.walk_parts.ensures ∙ c.in_err-f-2.was))

pub walk_parts-requires-2 : goal.walk_parts-requires-2
walk_parts-requires-2 c =
    let w = begin _ _ (MatchOption-at_some _ _ _ c.in-Some.is c.laid_size.ensures) _ c.default.ensures in
    let w2 = all_good _ _ _ _ _ w _ _ (sym c.walk_words.ensures ∙ c.in_ok-f.was) in
    let w3 = all_good _ _ _ _ _ w2 _ _ (sym c.walk_parts.ensures ∙ c.in_ok-f-2.was) in
    (omega arith, all_stay _ _ _ _ _ w3)

pub returns-in_err-f-3 : goal.returns-in_err-f-3
returns-in_err-f-3 c =
    let w = begin _ _ (MatchOption-at_some _ _ _ c.in-Some.is c.laid_size.ensures) _ c.default.ensures in
    let w2 = all_good _ _ _ _ _ w _ _ (sym c.walk_words.ensures ∙ c.in_ok-f.was) in
    let w3 = all_good _ _ _ _ _ w2 _ _ (sym c.walk_parts.ensures ∙ c.in_ok-f-2.was) in
    let e : c.from_residual-in_err-f-3.result ≡ Err c.in_err-f-3.field-0.0 = search rules in
    e ∙ read _ _ (MatchOption-at_some _ _ _ c.in-Some.is c.laid_size.ensures) _ (all_fault _ _ _ _ _ w3 _ (sym c.walk_parts-2.ensures ∙ c.in_err-f-3.was))

pub walk_parts-requires-3 : goal.walk_parts-requires-3
walk_parts-requires-3 c =
    let w = begin _ _ (MatchOption-at_some _ _ _ c.in-Some.is c.laid_size.ensures) _ c.default.ensures in
    let w2 = all_good _ _ _ _ _ w _ _ (sym c.walk_words.ensures ∙ c.in_ok-f.was) in
    let w3 = all_good _ _ _ _ _ w2 _ _ (sym c.walk_parts.ensures ∙ c.in_ok-f-2.was) in
    let w4 = all_good _ _ _ _ _ w3 _ _ (sym c.walk_parts-2.ensures ∙ c.in_ok-f-3.was) in
    (omega arith, all_stay _ _ _ _ _ w4)

pub returns-in_err-f-4 : goal.returns-in_err-f-4
returns-in_err-f-4 c =
    let w = begin _ _ (MatchOption-at_some _ _ _ c.in-Some.is c.laid_size.ensures) _ c.default.ensures in
    let w2 = all_good _ _ _ _ _ w _ _ (sym c.walk_words.ensures ∙ c.in_ok-f.was) in
    let w3 = all_good _ _ _ _ _ w2 _ _ (sym c.walk_parts.ensures ∙ c.in_ok-f-2.was) in
    let w4 = all_good _ _ _ _ _ w3 _ _ (sym c.walk_parts-2.ensures ∙ c.in_ok-f-3.was) in
    let e : c.from_residual-in_err-f-4.result ≡ Err c.in_err-f-4.field-0.0 = search rules in
    e ∙ read _ _ (MatchOption-at_some _ _ _ c.in-Some.is c.laid_size.ensures) _ (all_fault _ _ _ _ _ w4 _ (sym c.walk_parts-3.ensures ∙ c.in_err-f-4.was))

pub walk_words-requires-2 : goal.walk_words-requires-2
walk_words-requires-2 c =
    let w = begin _ _ (MatchOption-at_some _ _ _ c.in-Some.is c.laid_size.ensures) _ c.default.ensures in
    let w2 = all_good _ _ _ _ _ w _ _ (sym c.walk_words.ensures ∙ c.in_ok-f.was) in
    let w3 = all_good _ _ _ _ _ w2 _ _ (sym c.walk_parts.ensures ∙ c.in_ok-f-2.was) in
    let w4 = all_good _ _ _ _ _ w3 _ _ (sym c.walk_parts-2.ensures ∙ c.in_ok-f-3.was) in
    let w5 = all_good _ _ _ _ _ w4 _ _ (sym c.walk_parts-3.ensures ∙ c.in_ok-f-4.was) in
    all_stay _ _ _ _ _ w5

pub returns-in_err-f-5 : goal.returns-in_err-f-5
returns-in_err-f-5 c =
    let w = begin _ _ (MatchOption-at_some _ _ _ c.in-Some.is c.laid_size.ensures) _ c.default.ensures in
    let w2 = all_good _ _ _ _ _ w _ _ (sym c.walk_words.ensures ∙ c.in_ok-f.was) in
    let w3 = all_good _ _ _ _ _ w2 _ _ (sym c.walk_parts.ensures ∙ c.in_ok-f-2.was) in
    let w4 = all_good _ _ _ _ _ w3 _ _ (sym c.walk_parts-2.ensures ∙ c.in_ok-f-3.was) in
    let w5 = all_good _ _ _ _ _ w4 _ _ (sym c.walk_parts-3.ensures ∙ c.in_ok-f-4.was) in
    let e : c.from_residual-in_err-f-5.result ≡ Err c.in_err-f-5.field-0.0 = search rules in
    e ∙ read _ _ (MatchOption-at_some _ _ _ c.in-Some.is c.laid_size.ensures) _ (all_fault _ _ _ _ _ w5 _ (sym c.walk_words-2.ensures ∙ c.in_err-f-5.was))

pub at_end-requires : goal.at_end-requires
at_end-requires c =
    let w = begin _ _ (MatchOption-at_some _ _ _ c.in-Some.is c.laid_size.ensures) _ c.default.ensures in
    let w2 = all_good _ _ _ _ _ w _ _ (sym c.walk_words.ensures ∙ c.in_ok-f.was) in
    let w3 = all_good _ _ _ _ _ w2 _ _ (sym c.walk_parts.ensures ∙ c.in_ok-f-2.was) in
    let w4 = all_good _ _ _ _ _ w3 _ _ (sym c.walk_parts-2.ensures ∙ c.in_ok-f-3.was) in
    let w5 = all_good _ _ _ _ _ w4 _ _ (sym c.walk_parts-3.ensures ∙ c.in_ok-f-4.was) in
    let w6 = all_good _ _ _ _ _ w5 _ _ (sym c.walk_words-2.ensures ∙ c.in_ok-f-5.was) in
    omega (arith, w6.short)

pub returns : goal.returns
returns c =
    let w = begin _ _ (MatchOption-at_some _ _ _ c.in-Some.is c.laid_size.ensures) _ c.default.ensures in
    let w2 = all_good _ _ _ _ _ w _ _ (sym c.walk_words.ensures ∙ c.in_ok-f.was) in
    let w3 = all_good _ _ _ _ _ w2 _ _ (sym c.walk_parts.ensures ∙ c.in_ok-f-2.was) in
    let w4 = all_good _ _ _ _ _ w3 _ _ (sym c.walk_parts-2.ensures ∙ c.in_ok-f-3.was) in
    let w5 = all_good _ _ _ _ _ w4 _ _ (sym c.walk_parts-3.ensures ∙ c.in_ok-f-4.was) in
    let w6 = all_good _ _ _ _ _ w5 _ _ (sym c.walk_words-2.ensures ∙ c.in_ok-f-5.was) in
    c.at_end.ensures ∙ read _ _ (MatchOption-at_some _ _ _ c.in-Some.is c.laid_size.ensures) _ (none_left _ _ _ w6)
