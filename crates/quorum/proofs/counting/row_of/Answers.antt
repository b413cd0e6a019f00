use Rattle.std.proofs.Common.{ℕ, ◌≡◌, ◌^◌, cond, arith, subst, sym, ◌∙◌}
use Rattle.mask.specs.Mask.{Row}
use Rattle.quorum.specs.BitByBit.{begun, onward}
use Rattle.quorum.proofs.Testing.{yes, no}
use Rattle.quorum.proofs.counting.row_of.Goals.{then-test, else-test}
use Rattle.quorum.proofs.counting.row_of.Goals as goal

pub loop-j-init : goal.loop-j-init
loop-j-init g c = λ f _. begun f

pub loop-j-preserved : goal.loop-j-preserved
loop-j-preserved g c = λ f told.
    let v = c.loop-j in
    let says : c.test.result ≡ f v.j = told v.j c.test.result (omega arith) c.test.ensures in
    let bit : c.if-test.row ≡ cond (f v.j) (2 ^ v.j) 0 =
    elim c.if-test.branch [
      | then-test w ↦ yes (f v.j) (2 ^ v.j) _ (sym says ∙ w.if-test.true) (w.row-is ∙ c.requires.bits.each v.j (omega arith))
      | else-test w ↦ no (f v.j) (2 ^ v.j) _ (sym says ∙ w.if-test.false) w.row-is
    ] in
    onward v.j v.row c.if-test.row f (v.invariant f told) bit

pub returns : goal.returns
returns g c = λ f told.
    let e : c.loop-j.j ≡ c.args.n = omega arith in
    subst (λ (n : ℕ). Row n c.loop-j.row f) e (c.loop-j.invariant f told)
