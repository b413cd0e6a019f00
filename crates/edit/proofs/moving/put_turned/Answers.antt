use Prim.Native.Nat.{ℕ, ◌+◌, ◌-◌}
use mathlib.Core.List.{List}
use mathlib.Core.Path.{ap, ◌∙◌}
use lib.ListN.{take, length}
use Rattle.record.specs.Buffer.{stored}
use Rattle.edit.proofs.RowsMoved.{turned-stored}
use Rattle.edit.proofs.moving.put_turned.Goals as goal

pub returns : goal.returns
returns c = let a = c.args in
    c.copy_at-2.ensures
    ∙ ap (λ (x : List ℕ). stored x (a.at + (length a.lap.now - a.k)) (take a.k a.lap.now))
    c.copy_at.ensures
    ∙ turned-stored a.lap.now a.out.now a.k a.at
    c.requires.1
