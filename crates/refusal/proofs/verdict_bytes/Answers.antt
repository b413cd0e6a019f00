use mathlib.Core.Path.{◌≡◌, ap, ◌∙◌}
use mathlib.Core.List.{List, ◌∷◌, ◌++◌, []}
use Prim.Native.Nat.{ℕ}
use lib.ListN.{get_or}
use Rattle.endian.specs.Little.{bytes}
use Rattle.refusal.specs.Codes.{bytes_of}
use Rattle.refusal.proofs.verdict_bytes.Goals as goal

-- four bytes taken one by one from four arrays of four
four : List ℕ → List ℕ
four l = get_or l 0 0 ∷ get_or l 1 0 ∷ get_or l 2 0 ∷ get_or l 3 0 ∷ []

words : (a n f s : ℕ) (x y z w : List ℕ) → x ≡ bytes 4 a → y ≡ bytes 4 n → z ≡ bytes 4 f → w ≡ bytes 4 s
    → four x ++ four y ++ four z ++ four w ≡ bytes 4 a ++ bytes 4 n ++ bytes 4 f ++ bytes 4 s
unfolding four bytes
words a n f s x y z w p q r t = rw (p, q, r, t)

pub returns : goal.returns
unfolding four
returns c = let d = c.code_of-c in
    words d.result.about d.result.number d.result.first d.result.second _ _ _ _
    c.bytes32-a.ensures c.bytes32-n.ensures c.bytes32-f.ensures c.bytes32-s.ensures
    ∙ ap bytes_of d.ensures
