use Rattle.std.proofs.Common.{ℕ, ◌<◌, ◌+◌, Bool, get_or}
use Rattle.table.specs.Table.{Word, Table}
use Rattle.table.proofs.each.each_word.Given as goal

abbrev pub invariant-loop-s : goal.invariant-loop-s
invariant-loop-s g l = (f : ℕ → ℕ → Bool)
    → ((s r : ℕ) → s < l.h → goal.F-post g l.rule (get_or l.initial.t (l.a + s) 0) (get_or l.initial.t (l.b + s) 0) r → Word (λ i. f i s) r)
    → Table f l.k l.s l.initial.t l.t
