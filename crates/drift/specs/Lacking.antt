-- Groups that counts name and the floor lacks.
use Rattle.std.specs.Prelude.{ℕ, zero, suc, cond, List, [], ◌∷◌, ◌++◌, ltb}
use Rattle.grammar.specs.Groups.{node_groups}
use Rattle.drift.specs.Tree.{node_at}

-- the groups that n nodes from node k on name, in their order
unfoldable pub groups_from : List ℕ → ℕ → ℕ → List ℕ
groups_from block zero k = []
groups_from block (suc n) k = node_groups (node_at block k) ++ groups_from block n (suc k)

-- of groups in order, one more than the first that a floor with so many lacks; 0 if there is none
unfoldable pub first_lacked : ℕ → List ℕ → ℕ
first_lacked many [] = 0
first_lacked many (g ∷ gs) = cond (ltb g many) (first_lacked many gs) (suc g)
