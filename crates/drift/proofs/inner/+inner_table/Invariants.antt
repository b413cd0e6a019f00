use Rattle.drift.proofs.inner.+inner_table.Given as goal

abbrev pub decreases-inner_table : goal.decreases-inner_table
decreases-inner_table l = l.k
