use Prim.Native.Nat.{ℕ, ◌+◌}
use mathlib.Core.Path.{ap, ◌∙◌}
use native.Mathlib.Omega.{arith}
use lib.Bits.{bit_and}
use lib.ListN.{get_or}
use Rattle.std.proofs.lemmas.Nat.{and_comm}
use Rattle.table.specs.Storing.{begun, upward, ended}
use Rattle.quorum.proofs.running.reset.Invariants.{Each}
use Rattle.quorum.proofs.running.reset.Goals as goal

pub loop-j-init : goal.loop-j-init
loop-j-init c = let a = c.args in
    begun (Each a.w.now a.at a.x) a.at 0 a.w.now

pub loop-j-preserved : goal.loop-j-preserved
loop-j-preserved c = let a = c.args in
    let v = c.loop-j in
    let word = v.invariant.above (a.at + v.j) (omega arith) in
    upward (Each a.w.now a.at a.x) a.at 0 v.j _ _ a.w.now v.w v.invariant (omega arith) (omega arith) (omega arith)
    (ap (λ (y : ℕ). bit_and y a.x) word ∙ and_comm (get_or a.w.now (a.at + v.j) 0) a.x)

pub returns : goal.returns
returns c = ended (omega arith) c.loop-j.invariant
