-- What stands at an offset of a file.
use Rattle.std.specs.Prelude.{ℕ, ◌+◌, Bool, true, false, List, [], ◌∷◌, length, drop}
use Rattle.record.specs.Record.{Record, Split, records_in}
use Rattle.record.specs.declared.Found.{Found}
use Rattle.record.specs.declared.Found.TheVariants.{End, Cut, Whole}

-- what the file begins with from an offset on: nothing, less than a record, or a record whose body lies from start to end
abbrev pub found_first : ℕ → List Record → Bool → Found
found_first at [] false = End
found_first at [] true = Cut
found_first at (r ∷ rs) c = Whole r.kind (at + 4) (at + 4 + length r.body)

abbrev pub found_in : ℕ → Split → Found
found_in at s = found_first at s.records s.cut

abbrev pub found_at : List ℕ → ℕ → Found
found_at s at = found_in at (records_in (drop at s))
