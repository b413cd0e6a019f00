use Rattle.drift.proofs.refused.+has_next.Given as goal

abbrev pub decreases-has_next : goal.decreases-has_next
decreases-has_next l = l.k
