-- Records: what a file is made of.
use Rattle.std.specs.Prelude.{ℕ, zero, suc, ◌+◌, Bool, true, false, ◌&&◌, List, [], ◌∷◌, ◌++◌, length, take, drop, leb}
use Rattle.endian.specs.Little.{bytes, value}

-- a record's kind and its body; the length is the body's
pub record Record : Type 0 where
  pub kind : ℕ
  pub body : List ℕ

-- "A record is a two-byte body length, a two-byte kind and the body."
unfoldable pub encoded : Record → List ℕ
encoded r = bytes 2 (length r.body) ++ bytes 2 r.kind ++ r.body

-- records laid out one after the other
unfoldable pub layout : List Record → List ℕ
layout [] = []
layout (r ∷ rs) = encoded r ++ layout rs

-- what a header states: the body's length in its first two bytes, the kind in the next two
abbrev pub size_in : List ℕ → ℕ
size_in l = value (take 2 l)

abbrev pub kind_in : List ℕ → ℕ
kind_in l = value (take 2 (drop 2 l))

-- whether a whole record stands in front: a header, and the body that it announces
abbrev pub whole : List ℕ → Bool
whole l = leb 4 (length l) && leb (4 + size_in l) (length l)

-- that record, and what is behind it
abbrev pub front : List ℕ → Record
front l = record { kind = kind_in l; body = take (size_in l) (drop 4 l) }

abbrev pub behind : List ℕ → List ℕ
behind l = drop (4 + size_in l) l

-- a file taken apart: its whole records in order, and whether it goes on with less than one ("cut short")
pub record Split : Type 0 where
  pub records : List Record
  pub cut : Bool

-- nothing is left
abbrev pub ended : Split
ended = record { records = []; cut = false }

-- less than a record is left
abbrev pub cut_short : Split
cut_short = record { records = []; cut = true }

-- the record in front and the file behind it, if it is whole
abbrev pub joined : Bool → Record → Split → Split
joined true r s = record { records = r ∷ s.records; cut = s.cut }
joined false r s = cut_short

-- at most n records; a file of n bytes never has more
unfoldable pub split : ℕ → List ℕ → Split
split zero l = ended
split (suc n) [] = ended
split (suc n) (b ∷ l) = joined (whole (b ∷ l)) (front (b ∷ l)) (split n (behind (b ∷ l)))

-- all of a file
unfoldable pub records_in : List ℕ → Split
records_in l = split (length l) l
