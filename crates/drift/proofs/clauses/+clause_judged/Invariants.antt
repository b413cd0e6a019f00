use Rattle.drift.proofs.clauses.+clause_judged.Given as goal

abbrev pub decreases-clause_judged : goal.decreases-clause_judged
decreases-clause_judged l = l.k
