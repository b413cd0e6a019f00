use native.Mathlib.Omega.{arith}
use Rattle.quorum.specs.Walking.{two_steps}
use Rattle.quorum.proofs.running.two_back.Goals as goal

pub returns : goal.returns
returns c = let a = c.args in
    two_steps a.s a.d a.w.now _ c.requires.s_bound.1 (omega arith) c.reset.ensures
