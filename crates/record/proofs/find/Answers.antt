use mathlib.Core.Path.{ap₂, ◌∙◌}
use Prim.Native.Nat.{ℕ, ◌+◌}
use native.Mathlib.Omega.{arith}
use Rattle.record.proofs.Offsets.{none, short_header, short_body, whole_at}
use Rattle.record.specs.declared.Found.TheVariants.{Whole}
use Rattle.record.proofs.find.Goals as goal

pub returns-then-s-at : goal.returns-then-s-at
returns-then-s-at c = none _ _ c.if-s-at.true

pub returns-then-left-lt4 : goal.returns-then-left-lt4
returns-then-left-lt4 c = short_header _ _ c.if-s-at.false c.if-left-lt4.true

pub returns-then-left-size : goal.returns-then-left-size
returns-then-left-size c = short_body c.args.s.now c.args.at (omega arith) (omega arith) (omega arith)

pub returns : goal.returns
returns c = let a = c.args in
    ap₂ (λ (x y : ℕ). Whole x (a.at + 4) (a.at + 4 + y)) c.number16-kind.ensures (c.from-size.ensures ∙ c.number16.ensures)
    ∙ whole_at a.s.now a.at (omega arith) (omega arith) (omega arith)
