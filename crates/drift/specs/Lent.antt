-- What is lent to judge a clause.
use Rattle.std.specs.Prelude.{ℕ, ◌+◌, ◌-◌, ◌^◌, ◌≤◌, ◌<◌, ◌≡◌, List, get_or, length}
use Rattle.table.specs.Layout.{Constants}
use Rattle.quorum.specs.Words.{Bits}
use Rattle.drift.specs.declared.Ground.{Ground}
use Rattle.drift.specs.Tree.{Ordered}
use Rattle.drift.specs.Need.{Needs}
use Rattle.drift.specs.Places.{pairs_end}

-- the word with the carts of the fleet (0) or of a group (one more than its number), behind the 32 bits of the table
abbrev pub who_of : List ℕ → ℕ → ℕ
who_of b o = get_or b (32 + o) 0

-- a block of tables t with its pairs of places, and the table b of bits by which steps are gathered, with the words of fleet and groups
pub record Lent (g : Ground) (t b : List ℕ) : Type 0 where
  pub constants : Constants g.marks g.lasso.h t
  pub pairs : pairs_end g.marks g.lasso.h ≤ length t
  pub bits : Bits b
  pub fleet : who_of b 0 ≡ 2 ^ g.carts - 1
  pub groups : (o : ℕ) → who_of b o < 2 ^ g.carts

-- the nodes up to node k, a clause's last one or that of a part of it, with their needs
pub record ClauseNodes (nodes needs : List ℕ) (k : ℕ) : Type 0 where
  pub ordered : Ordered nodes (k + 1)
  pub needed : Needs nodes needs (k + 1)
  pub few : get_or needs k 0 ≤ 6
