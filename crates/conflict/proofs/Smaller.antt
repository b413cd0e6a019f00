-- Less drift, fewer runs: a plan that is free of conflicts stays so.
use Rattle.std.specs.Prelude.{ℕ, ◌≤◌}
use Rattle.std.proofs.Common.{arith}
use Rattle.cltl.specs.Meaning.{Run}
use Rattle.conflict.specs.Meaning.{Routes, Free}

-- a run within d' is one within d
abbrev wider : (carts d d' : ℕ) → d' ≤ d → Run carts d' → Run carts d
wider carts d d' p r = record {
  at = r.at;
  start = r.start;
  tick = r.tick;
  again = r.again;
  near = λ t i j x y. omega (arith, r.near t i j x y);
}

pub smaller : (P : Routes) (d d' : ℕ) → Free P d → d' ≤ d → Free P d'
smaller P d d' f p r = f (wider P.carts d d' p r)
