use Rattle.std.proofs.Common.{◌≡◌, ℕ, ◌+◌, ◌*◌, ◌-◌, arith, get_or, length, drop, refl, sym, ap, ◌∙◌}
use Rattle.grammar.specs.Reader.{got}
use Rattle.token.specs.Offsets.{digits_end_at, digits_stop_at, digits_on_at, number_end_at, number_nought_at, number_off_at, number_on_at}
use Rattle.token.proofs.Numbers.{none, some}
use Rattle.token.proofs.tokens.number.Goals as goal

pub returns-then-s-at-clause-value : goal.returns-then-s-at-clause-value
returns-then-s-at-clause-value c = let a = c.args in none a.s.now a.at _ _ c.refused.ensures (number_end_at a.s.now a.at c.if-s-at.true)

pub returns-then-b-eq48-clause-value : goal.returns-then-b-eq48-clause-value
returns-then-b-eq48-clause-value c = let a = c.args in
    some a.s.now (a.at + 1) 0 0 0 _ _ refl refl (number_nought_at a.s.now a.at (omega (arith, c.if-s-at.false)) c.if-b-eq48.true)

pub returns-then-not-is_ascii_digit-clause-value : goal.returns-then-not-is_ascii_digit-clause-value
returns-then-not-is_ascii_digit-clause-value c = let a = c.args in
    none a.s.now a.at _ _ c.refused-then-not-is_ascii_digit.ensures
    (number_off_at a.s.now a.at (omega (arith, c.if-s-at.false))
    (sym c.is_ascii_digit.ensures.value ∙ c.if-not-is_ascii_digit.true))

pub loop-i-init : goal.loop-i-init
loop-i-init c = let a = c.args in (
  get_or a.s.now a.at 0 - 48,
  omega (arith, c.shifted-v.ensures),
  number_on_at a.s.now a.at (omega (arith, c.if-s-at.false)) c.if-b-eq48.false
      (sym c.is_ascii_digit.ensures.value ∙ c.if-not-is_ascii_digit.false),
)

pub returns-then-not-is_ascii_digit-2-clause-value : goal.returns-then-not-is_ascii_digit-2-clause-value
returns-then-not-is_ascii_digit-2-clause-value c = let a = c.args in
    let v = c.loop-i in
    some a.s.now v.i v.invariant.0 v.v 0 _ _ refl v.invariant.1
    (v.invariant.2 ∙ digits_stop_at a.s.now v.i v.invariant.0 (omega (arith, c.loop-i-test.true))
    (sym c.is_ascii_digit-in-loop-i.ensures.value ∙ c.if-not-is_ascii_digit-2.true))

pub loop-i-preserved : goal.loop-i-preserved
loop-i-preserved c = let a = c.args in
    let v = c.loop-i in
    let w = v.invariant.0 in (
      w * 10 + (get_or a.s.now v.i 0 - 48),
      omega (arith, v.invariant.1, c.shifted-v-in-loop-i.ensures),
      v.invariant.2 ∙ digits_on_at a.s.now v.i w (omega (arith, c.loop-i-test.true))
          (sym c.is_ascii_digit-in-loop-i.ensures.value ∙ c.if-not-is_ascii_digit-2.false),
    )

pub returns-clause-value : goal.returns-clause-value
returns-clause-value c = let a = c.args in
    let v = c.loop-i in
    let e : v.i ≡ length a.s.now = omega (arith, c.loop-i.auto.i-end) in
    some a.s.now (length a.s.now) v.invariant.0 v.v 0 _ _ refl v.invariant.1
    (v.invariant.2 ∙ digits_end_at a.s.now v.i v.invariant.0 (omega (arith, c.loop-i-test.false)) ∙ ap (λ (j : ℕ). got v.invariant.0 0 (drop j a.s.now)) e)
