-- What the reader of a sheet promises, in the words of the grammar and the limits alone.
use Rattle.std.specs.Prelude.{ℕ, suc, ◌+◌, ◌-◌, ◌≤◌, ◌<◌, ◌≡◌, ◌⊎◌, List, [], ◌++◌, length, take}
use Rattle.grammar.specs.Grammar.{ors, Part, Count, Clause, Sheet}
use Rattle.grammar.specs.Limits.{nodes, count_nodes, Fits, FewLines, FewBytes}
use Rattle.grammar.specs.Nodes.{Node, flat_clause, Stands, StandsCount}
use Rattle.grammar.specs.Begun.{begun}
use Rattle.grammar.specs.Reader.{Read, accepted, refused, read_sheet}
use Rattle.grammar.specs.Answers.{AcceptedSheet, InSheet, RefusedBy, BeginsInRange, Never, Beyond, Allowed, PastLimit, OutOfRange}

-- what an answer a to a sheet s has to meet
pub record Lawful (s : List ℕ) (a : Read) : Type 0 where
  -- accepted: exactly the sheets of the grammar within the limits, and each as it is there
  pub sound : (cs : List Clause) → a ≡ accepted cs → AcceptedSheet s cs
  pub complete : (cs : List Clause) (d : Sheet s cs) → Fits d → FewLines cs → 0 < length s → FewBytes s → a ≡ accepted cs
  -- a clause's nodes, whatever stands behind them: as many as the limit counts, each operand before its operator, the last for the clause
  pub count : (c : Clause) → length (flat_clause c 0) ≡ nodes count_nodes c
  pub standing : (c : Clause) (q : List Node) → Stands StandsCount (flat_clause c 0 ++ q) (nodes count_nodes c - 1) c
  -- what the bytes have begun is what the limits count
  pub begun-nodes : (c : Clause) → Part Count ors s [] c → (begun s (length s)).nodes ≡ nodes count_nodes c
  pub begun_lines : (cs : List Clause) → Sheet s cs → (begun s (length s)).lines ≡ length cs
  -- 12 for what is too long, before all else; no refusals but 7, 12, 13, 14 and 15
  pub long_12 : (FewBytes s → ⊥) → a ≡ refused 12 0
  pub codes : (w k : ℕ) → a ≡ refused w k → RefusedBy s w k
  -- 13, 14 and 15: with the bytes before it a sheet of the grammar begins whose numbers are all in range
  pub before : (w k : ℕ) → InSheet w → a ≡ refused w k → (k ≤ length s) × BeginsInRange (take k s)
  -- 13: the first byte that no sheet of the grammar could have after the bytes before it, or the length
  pub stuck_13 : (k : ℕ) → a ≡ refused 13 k → (k < length s → Never (take (suc k) s)) × ((cs : List Clause) → Sheet s cs → ⊥)
  -- 14: a whole token that the grammar allows there, or the 33rd line; with its first byte every sheet is past the limit on levels, nodes or lines
  pub token_14 : (k : ℕ) → a ≡ refused 14 k → Allowed s k ⊎ ((cs : List Clause) × Sheet (take k s) cs × (length cs ≡ 32))
  pub over_14 : (k : ℕ) → a ≡ refused 14 k → (k < length s) × Beyond (take (suc k) s)
  -- it would be the 129th node or open level 33, or 32 lines stand before; the first such, "at an equal offset 14, 15, 13"; and what is accepted has none
  pub past_14 : (k : ℕ) → a ≡ refused 14 k → PastLimit s k
  pub first_14 : (w k j : ℕ) → InSheet w → a ≡ refused w k → j ≤ k → PastLimit s j → (w ≡ 14) × (j ≡ k)
  pub none_over : (cs : List Clause) → a ≡ accepted cs → (j : ℕ) → PastLimit s j → ⊥
  -- the 33rd line, whatever byte it begins with
  pub line_33 : (k : ℕ) (cs : List Clause) (d : Sheet (take k s) cs) → Fits d → length cs ≡ 32 → k < length s → FewBytes s → a ≡ refused 14 k
  -- 15: the first byte of a number out of range, whole with its `%`, in a mark its first digit, that the grammar allows there
  pub number_15 : (k : ℕ) → a ≡ refused 15 k → OutOfRange s k

-- the reader's answers do; and, by `Only`, no others
abbrev pub Promises : List ℕ → Type 0
Promises s = Lawful s (read_sheet s)
