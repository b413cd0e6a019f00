-- What judging a node gives, however deep its tree is looked up: the table of inner text; a clause's row, or its negation's, and its counts to join.
use Rattle.std.specs.Prelude.{ℕ, suc, ◌+◌, ◌^◌, ◌≤◌, ◌<◌, min, ◌≡◌, Bool, true, cond, ◌&&◌, List, [], ◌∷◌, eqb, length, Option, is_some, IfSome}
use Rattle.grammar.specs.Grammar.{Counted, Clause}
use Rattle.cltl.specs.Meaning.{Rows, among}
use Rattle.cltl.specs.Rules.{leaves, judge, inner, over, count, slack, some_text, uniform, joint, joined}
use Rattle.mask.specs.Mask.{on, Row, signed}
use Rattle.table.specs.Table.{told}
use Rattle.drift.specs.declared.Ground.{Ground}
use Rattle.drift.specs.declared.Joined.{Joined}
use Rattle.drift.specs.declared.Judged.{Judged}
use Rattle.drift.specs.Places.{Placed}
use Rattle.drift.specs.Tree.{inner_tree, clause_tree}
use Rattle.drift.specs.Lent.{who_of}

-- so many carts, h steps with the lap from l on, the marks that are borne, and the groups' carts by the words in a table
abbrev pub rows_on : (carts h l : ℕ) → (ℕ → ℕ → ℕ → Bool) → List ℕ → Rows
rows_on carts h l bears b = record { carts = carts; h = h; l = l; bears = bears; member = λ g i. on (who_of b (suc g)) i }

-- the table from an offset on is inner text's: cart i satisfies it at step s exactly if word s has bit i
pub record InnerTable (P : Rows) (nodes : List ℕ) (k : ℕ) (t : List ℕ) (at : ℕ) : Type 0 where
  pub is : (i n s : ℕ) → i < P.carts → k < n → s < P.h → told t at i s ≡ inner P i true (inner_tree nodes n k) s

-- a clause's row, with drift d
abbrev pub ClauseRow : Rows → ℕ → List ℕ → Bool → ℕ → ℕ → Type 0
ClauseRow P d nodes p k r = (n : ℕ) → k < n → Row P.h r (judge P.h P.l (count P d) (joined P d) p (clause_tree nodes n k))

-- The counts that are joined. Without drift none are: what is true of an or by joining is then true of a side.
abbrev pub joinable : ℕ → Bool → Clause → List (Bool × Counted)
joinable d p c = cond (eqb d 0) [] (leaves p c)

-- the joined rule, left out without drift
abbrev pub joined_with_drift : Rows → ℕ → Bool → Clause → ℕ → Bool
joined_with_drift P d p c s = joint P d (joinable d p c) s

-- each of these counts is over the carts in a word
abbrev pub OverWord : Rows → ℕ → List (Bool × Counted) → Type 0
OverWord P who [] = Unit {0}
OverWord P who (x ∷ xs) = ((i : ℕ) → i < P.carts → on who i ≡ among P (over P x) i) × OverWord P who xs

-- what was told of the counts of an or that are all over the same carts: these carts, the or of their texts by a table, or its negation, and the sum of
-- (threshold − 1), 32 at most
pub record Told (P : Rows) (xs : List (Bool × Counted)) (t : List ℕ) (r : Joined) : Type 0 where
  pub low : r.who < 2 ^ P.carts
  pub word : OverWord P r.who xs
  pub sum : r.slack ≡ min 32 (slack P xs)
  pub each : (i s : ℕ) → i < P.carts → s < P.h → (on r.who i && signed r.sign (told t r.at i s)) ≡ some_text P xs i s

-- there are counts to join if they are all over the same carts
pub record Gathered (P : Rows) (xs : List (Bool × Counted)) (t : List ℕ) (r : Option Joined) : Type 0 where
  pub joins_is : is_some r ≡ uniform P xs
  pub told_of : IfSome r (λ j. Told P xs t j)

-- where their table lies, of pairs of places from an offset on
abbrev pub TableAt : Ground → ℕ → List ℕ → Joined → Type 0
TableAt g at t j = Placed g.marks g.lasso.h at j.at × (j.at + g.lasso.h ≤ length t)

-- their carts are those of the floor, and their sum is 32 at most
abbrev pub Fits : Ground → Joined → Type 0
Fits g j = (j.slack ≤ 32) × (j.who < 2 ^ g.carts)

-- a part of a clause: its row, and its counts
abbrev pub PartRow : Rows → ℕ → List ℕ → Bool → ℕ → ℕ → Type 0
PartRow P d nodes p k r = (n : ℕ) → k < n → Row P.h r (judge P.h P.l (count P d) (joined_with_drift P d) p (clause_tree nodes n k))

pub record ClauseJudged (P : Rows) (d : ℕ) (nodes : List ℕ) (p : Bool) (k : ℕ) (t : List ℕ) (r : Judged) : Type 0 where
  pub rows : PartRow P d nodes p k r.row
  pub counts : (n : ℕ) → k < n → Gathered P (joinable d p (clause_tree nodes n k)) t r.joined
