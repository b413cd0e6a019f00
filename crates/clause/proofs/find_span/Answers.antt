use Rattle.clause.proofs.Finding.{picks-length}
use Rattle.clause.specs.Picking.{span_picked, span_other, picked_at}
use Rattle.clause.specs.Clause.{clause_in}
use Prim.Native.Nat.{ℕ}
use mathlib.Core.Path.{sym, ap, ◌∙◌}
use native.Mathlib.Omega.{arith}
use Rattle.clause.proofs.find_span.Goals as goal

pub returns-then-not-picks_clause : goal.returns-then-not-picks_clause
returns-then-not-picks_clause c = let s = c.args.sheet.now in
    let v = c.args.verdict.now in
    let e = sym c.picks_clause.ensures ∙ c.if-not-picks_clause.true in
    picked_at s v _ (c.empty_span.ensures ∙ sym (span_other s v e))

pub word_at-requires : goal.word_at-requires
word_at-requires c = let v = c.args.verdict.now in
    omega (arith, picks-length v (sym c.picks_clause.ensures ∙ c.if-not-picks_clause.false))

pub returns : goal.returns
returns c = let s = c.args.sheet.now in
    let v = c.args.verdict.now in
    let e = sym c.picks_clause.ensures ∙ c.if-not-picks_clause.false in
    let k = ap (λ (k : ℕ). clause_in k s) c.word_at.ensures in
    picked_at s v _ (c.find_clause.ensures ∙ k ∙ sym (span_picked s v e))
