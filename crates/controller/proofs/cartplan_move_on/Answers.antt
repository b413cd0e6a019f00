use Rattle.std.proofs.Common.{ap, ◌∙◌}
use Rattle.refusal.specs.Codes.{code_of}
use native.Mathlib.Omega.{arith}
use Rattle.controller.specs.Told.{moved_on, moves_added}
use Rattle.controller.proofs.cartplan_move_on.Goals as goal

pub returns : goal.returns
returns c = let m = c.move_on.ensures.moved in
    let code = c.code_of.ensures ∙ ap code_of c.into.ensures in
    record {
      moved = moved_on _ _ _ _ _ _ m m.numbers _ code;
      added_up = moves_added _ _ (λ i. omega (arith, c.type_inv.floor i)) _ _ _ _ m c.move_on.ensures.added_up m.numbers _ code;
    }
