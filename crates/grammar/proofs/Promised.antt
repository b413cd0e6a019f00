-- The reader's answers meet what is promised of them.
use Rattle.std.specs.Prelude.{ℕ, ◌+◌, ◌-◌, ◌≡◌, List, [], ◌++◌}
use Rattle.std.proofs.Common.{arith, subst}
use Rattle.grammar.specs.Limits.{nodes, count_nodes}
use Rattle.grammar.specs.Nodes.{flat_clause, Stands, StandsCount}
use Rattle.grammar.proofs.Standing.{clause_stands, clause_length}
use Rattle.grammar.proofs.Accepts.{sound, before_in_range, allowed_14, out_15}
use Rattle.grammar.proofs.First.{begun-nodes, begun_lines, past_14, first_14, none_over}
use Rattle.grammar.proofs.Full.{line_33}
use Rattle.grammar.proofs.Complete.{complete, stuck_13, over_14, codes, long_12}
use Rattle.grammar.specs.Promises.{Promises}

pub promises : (s : List ℕ) → Promises s
promises s = record {
  sound = sound s;
  complete = complete s;
  count = λ c. clause_length c 0;
  standing =
      λ c q. let e : 0 + nodes count_nodes c ≡ nodes count_nodes c = omega arith in subst
      (λ (n : ℕ). Stands StandsCount (flat_clause c 0 ++ q) (n - 1) c) e (clause_stands c [] q);
  begun-nodes = λ c p. begun-nodes p;
  begun_lines = λ cs d. begun_lines d;
  long_12 = long_12 s;
  codes = codes s;
  before = before_in_range s;
  stuck_13 = stuck_13 s;
  token_14 = allowed_14 s;
  over_14 = over_14 s;
  past_14 = past_14 s;
  first_14 = first_14 s;
  none_over = none_over s;
  line_33 = line_33 s;
  number_15 = out_15 s;
}
