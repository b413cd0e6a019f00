-- Numbers that are lent one after the other, cut into the bodies of their records.
use Rattle.std.specs.Prelude.{ℕ, zero, suc, ◌+◌, ◌-◌, ◌/◌, List, [], ◌∷◌, map, length, take, drop}
use Rattle.record.specs.Record.{Record, layout}

-- at most n parts of so many bytes each, the last one shorter where bytes are left over
unfoldable pub parts_in : ℕ → ℕ → List ℕ → List (List ℕ)
parts_in zero size l = []
parts_in (suc n) size [] = []
parts_in (suc n) size (b ∷ l) = take size (b ∷ l) ∷ parts_in n size (drop size (b ∷ l))

-- all of it in parts; of size 0 every byte is left over, and they are one part
unfoldable pub parts : ℕ → List ℕ → List (List ℕ)
parts zero l = parts_in 1 (length l) l
parts (suc size) l = parts_in (length l) (suc size) l

-- how many parts of a size n bytes make
abbrev pub part_count : ℕ → ℕ → ℕ
part_count size n = (n + (size - 1)) / size

-- records of one kind
abbrev pub of_kind : ℕ → List ℕ → Record
of_kind k body = record { kind = k; body = body }

-- numbers laid out as records of one kind, so many bytes to a body
abbrev pub laid : ℕ → ℕ → List ℕ → List ℕ
laid k size l = layout (map (of_kind k) (parts size l))
