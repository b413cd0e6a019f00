use lib.ListN.{drop, length}
use mathlib.Core.Bool.{false}
use mathlib.Core.Path.{◌≡◌, sym, ap, ◌∙◌}
use native.Mathlib.Omega.{arith}
use Prim.Native.Nat.{ℕ, ◌-◌, ◌+◌, ◌<◌, suc}
use Rattle.std.proofs.Common.{rules}
use Rattle.std.proofs.lemmas.Bool.{eqb-true}
use Rattle.std.proofs.lemmas.Result.{err_from_is_err_and}
use Rattle.grammar.specs.Reader.{clause_line}
use Rattle.sheet.specs.Rules.{told_verdict}
use Rattle.sheet.specs.Room.{part_inside}
use Rattle.sheet.specs.Lines.{from_line, too_long, empty, by_lines, all_read, line_33, line_refused, line_read}
use Rattle.std.specs.Prelude.{Ok, Err}
use Rattle.token.specs.declared.Fault.{Fault}
use Rattle.sheet.proofs.reading.read_lines.Goals as goal

pub returns-then-s-gt16384-clause-answer : goal.returns-then-s-gt16384-clause-answer
returns-then-s-gt16384-clause-answer c =
    ap (λ (f : Fault). told_verdict (Err f)) c.refused.ensures ∙ sym (too_long c.args.s.now c.if-s-gt16384.true)

pub returns-then-is_empty-clause-answer : goal.returns-then-is_empty-clause-answer
returns-then-is_empty-clause-answer c =
    let e = eqb-true _ _ (sym c.is_empty.ensures ∙ c.if-is_empty.true) in
    ap (λ (f : Fault). told_verdict (Err f)) c.refused-then-is_empty.ensures ∙ sym (empty c.args.s.now e)

pub loop-line-init : goal.loop-line-init
loop-line-init c =
    let e : 0 < length c.args.s.now = search rules in
    (omega arith, by_lines c.args.s.now e (omega (arith, c.if-s-gt16384.false)))

pub returns-then-s-at-clause-answer : goal.returns-then-s-at-clause-answer
returns-then-s-at-clause-answer c =
    let l = c.loop-line in
    sym (l.invariant.1 ∙ all_read c.args.s.now (32 - l._line) l.at c.if-s-at.true)

pub returns-in_err-r-clause-answer : goal.returns-in_err-r-clause-answer
returns-in_err-r-clause-answer c =
    let s = c.args.s.now in
    let l = c.loop-line in
    let e = err_from_is_err_and c.from_residual.result c.from_residual.ensures.1 in
    let n : 32 - l._line ≡ suc (31 - l._line) = omega (arith, c.loop-line-test.true) in
    rw (e.1, e.2)
    (sym (l.invariant.1 ∙ ap (λ (j : ℕ). from_line s j l.at) n
    ∙ line_refused s l.nodes c.read_clause.new.nodes (31 - l._line) l.at (omega (arith, c.if-s-at.false)) _ c.in_err-r.ensures))

pub loop-line-preserved : goal.loop-line-preserved
loop-line-preserved c =
    let s = c.args.s.now in
    let l = c.loop-line in
    let n : 32 - l._line ≡ suc (31 - l._line) = omega (arith, c.loop-line-test.true) in
    let m : 31 - l._line ≡ 32 - (l._line + 1) = omega arith in (
      part_inside false s 0 128 l.nodes (Ok c.in_ok-r.r) _ (clause_line 128 (drop l.at s)) c.in_ok-r.ensures,
      l.invariant.1 ∙ ap (λ (j : ℕ). from_line s j l.at) n
          ∙ line_read s l.nodes c.read_clause.new.nodes (31 - l._line) l.at (omega (arith, c.if-s-at.false)) _ c.in_ok-r.ensures
          ∙ ap (λ (j : ℕ). from_line s j c.in_ok-r.r.at) m,
    )

pub returns-then-at-s-clause-answer : goal.returns-then-at-s-clause-answer
returns-then-at-s-clause-answer c =
    let s = c.args.s.now in
    let l = c.loop-line in
    let n : 32 - l._line ≡ 0 = omega (arith, c.loop-line-test.false) in
    ap (λ (f : Fault). told_verdict (Err f)) c.refused-then-at-s.ensures
    ∙ sym (l.invariant.1 ∙ ap (λ (j : ℕ). from_line s j l.at) n ∙ line_33 s l.at (omega (arith, c.if-at-s.true)))

pub returns-clause-answer : goal.returns-clause-answer
returns-clause-answer c =
    let l = c.loop-line in
    sym (l.invariant.1 ∙ all_read c.args.s.now (32 - l._line) l.at (omega (arith, c.if-at-s.false)))
