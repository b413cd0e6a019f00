use Rattle.std.proofs.Common.{◌≡◌, ◌≤◌, ◌-◌, length, drop}
use Rattle.grammar.specs.Reader.{skip}
use Rattle.token.proofs.tokens.spaces.Given as goal

abbrev pub invariant-loop-i : goal.invariant-loop-i
invariant-loop-i l = (l.at ≤ l.i) × (skip (drop l.i l.s) ≡ skip (drop l.at l.s)) × (l.at ≤ length l.s → l.i ≤ length l.s)

abbrev pub decreases-loop-i : goal.decreases-loop-i
decreases-loop-i l = length l.s - l.i
