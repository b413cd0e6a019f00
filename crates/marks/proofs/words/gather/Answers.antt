use native.Mathlib.Omega.{arith}
use mathlib.Core.Path.{ap, ◌∙◌}
use Prim.Native.Nat.{◌+◌}
use Rattle.table.specs.Storing.{begun, upward, ended}
use Rattle.marks.specs.Bears.{marks_of}
use Rattle.marks.specs.Tables.{WordAt}
use Rattle.marks.proofs.words.gather.Goals as goal

pub loop-s-init : goal.loop-s-init
loop-s-init c = let a = c.args in
    begun (WordAt a.floor.now a.block.now a.i) a.at 0 a.words.now

pub marks_of-requires : goal.marks_of-requires
marks_of-requires c = omega (arith, c.place_on.ensures, c.requires.on_floor.inside c.loop-s.s (omega arith))

pub loop-s-preserved : goal.loop-s-preserved
loop-s-preserved c = let a = c.args in
    let v = c.loop-s in
    let word = c.marks_of.ensures ∙ ap (marks_of a.floor.now) c.place_on.ensures in
    upward (WordAt a.floor.now a.block.now a.i) a.at 0 v.s (a.at + v.s) _ a.words.now v.words v.invariant (omega arith) (omega arith) (omega arith) word

pub returns : goal.returns
returns c = ended (omega arith) c.loop-s.invariant
