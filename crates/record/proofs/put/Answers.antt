use mathlib.Core.Path.{◌≡◌, ap, ap₂, ◌∙◌}
use mathlib.Core.List.{List, [], ◌∷◌, ◌++◌}
use native.Mathlib.Omega.{arith}
use lib.ListN.{length, get_or}
use Prim.Native.Nat.{ℕ, ◌+◌, ◌≤◌}
use Rattle.endian.specs.Little.{bytes}
use Rattle.record.specs.Record.{encoded}
use Rattle.record.specs.Parts.{of_kind}
use Rattle.record.specs.Buffer.{stored}
use Rattle.record.specs.Stored.{stored_more}
use Rattle.record.proofs.put.Goals as goal

abbrev header : List ℕ → List ℕ → List ℕ
header x y = get_or x 0 0 ∷ get_or x 1 0 ∷ get_or y 0 0 ∷ get_or y 1 0 ∷ []

-- a header and then a body are a record
whole : (kind : ℕ) (body x y : List ℕ) → x ≡ bytes 2 (length body) → y ≡ bytes 2 kind → header x y ++ body ≡ encoded (of_kind kind body)
unfolding encoded bytes
whole kind body x y p q = ap₂ (λ (u v : List ℕ). header u v ++ body) p q

pub returns : goal.returns
returns c = let a = c.args in
    let h : a.at + 4 ≤ length a.out.now =
    omega (arith, c.requires) in
    c.copy_at-2.ensures
    ∙ ap (λ (x : List ℕ). stored x (a.at + 4) a.body.now) c.copy_at.ensures
    ∙ stored_more a.out.now a.at
    (header c.bytes16-size.result
    c.bytes16-tag.result)
    a.body.now h
    ∙ ap (stored a.out.now a.at)
    (whole a.kind a.body.now _ _ c.bytes16-size.ensures
    c.bytes16-tag.ensures)
