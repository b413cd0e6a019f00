use Rattle.std.proofs.Common.{rules}
use native.Mathlib.Omega.{arith}
use mathlib.Core.Path.{◌≡◌, sym, ap, ◌∙◌}
use Rattle.std.specs.Prelude.{Err}
use Rattle.refusal.specs.Results.{checked}
use Rattle.edit.proofs.ReplacedReads.{promise}
use Rattle.edit.proofs.replacing.replace_row.Goals as goal

pub returns-in_err-at : goal.returns-in_err-at
returns-in_err-at c =
    let j = c.judge.ensures in
    let e : c.from_residual.result ≡ Err c.in_err-at.field-0.0 = search rules in
    promise _ _ _ _ _ _ (record { answer = ap checked e ∙ sym (ap checked c.in_err-at.was) ∙ j.answer; out = sym (j.kept _ c.in_err-at.was) })
    (λ i. omega (arith, c.type_inv.floor i))
    (λ i. search rules)

pub returns : goal.returns
returns c =
    let j = c.judge.ensures in
    promise _ _ _ _ _ _
    (record { answer = ap checked (sym c.in_ok-at.was) ∙ j.answer; out = c.copy_at.ensures ∙ sym (j.changed _ c.in_ok-at.was) })
    (λ i. omega (arith, c.type_inv.floor i))
    (λ i. search rules)
