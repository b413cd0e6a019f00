use native.Mathlib.Omega.{arith}
use Rattle.quorum.specs.Walking.{one_step}
use Rattle.quorum.proofs.running.one_back.Goals as goal

pub returns : goal.returns
returns c = let a = c.args in
    one_step a.s a.d a.w.now _ c.requires.s_bound.1 (omega arith) c.reset.ensures
