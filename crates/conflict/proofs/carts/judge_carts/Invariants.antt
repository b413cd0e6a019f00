use Rattle.conflict.specs.Table.{table_routes}
use Rattle.conflict.proofs.Judging.{Judging}
use Rattle.conflict.proofs.carts.judge_carts.Given as goal

abbrev pub invariant-loop-c : goal.invariant-loop-c
invariant-loop-c l = Judging (table_routes l.bays l.carts l.fn.h l.block) l.fn.h.drift l.c
