-- A node more behind a part.
use Rattle.std.specs.Prelude.{ℕ, ◌+◌, ◌*◌, ◌≡◌, List, Result, Ok, Err}
use Rattle.record.specs.Buffer.{stored}
use Rattle.token.specs.declared.Part.{Part}
use Rattle.token.specs.declared.Fault.{Fault}

abbrev pub more_one : Part → Part
more_one r = record { at = r.at; left = r.left; n = r.n + 1 }

pub record WithNode (before : List ℕ) (r : Part) (node : List ℕ) (q : Part) (after : List ℕ) : Type 0 where
  pub part : q ≡ more_one r
  pub block : after ≡ stored before (4 * r.n) node

-- if the part was read; a refused one is handed on, and the block stays as it is
abbrev pub WithNodeIfRead : List ℕ → Result Part Fault → (Part → List ℕ) → Result Part Fault → List ℕ → Type 0
WithNodeIfRead before (Ok p) node (Ok q) after = WithNode before p (node p) q after
WithNodeIfRead before (Ok p) node (Err f) after = ⊥
WithNodeIfRead before (Err f) node q after = (q ≡ Err f) × (after ≡ before)
