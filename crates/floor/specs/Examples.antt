-- Small floors from bytes to the verdict, and written, by computation.
use Rattle.std.specs.Prelude.{ℕ, ◌≡◌, refl, replicate, Ok}
use mathlib.Core.List.{List, [], ◌∷◌, ◌++◌, flatten}
use Rattle.endian.specs.Little.{bytes, value}
use Rattle.refusal.specs.Codes.{refused}
use Rattle.refusal.specs.Outcome.{Outcome, unchanged}
use Rattle.refusal.specs.declared.Verdict.{Verdict}
use Rattle.refusal.specs.declared.Verdict.TheVariants.{Accepted, Written, Floor as AboutFloor}
use Rattle.record.specs.Record.{encoded, layout, split, records_in}
use Rattle.record.specs.Parts.{parts_in, parts}
use Rattle.floor.specs.Floor.{judged, walk, read_floor, floor_verdict}
use Rattle.floor.specs.Numbers.{numbers, bodies_of, numbers_of, write_floor}

-- a place with m0, a lane from it to itself for class 0, a cart of class 0 on it
abbrev place : List ℕ
place = 4 ∷ 0 ∷ 1 ∷ 0 ∷ 1 ∷ 0 ∷ 0 ∷ 0 ∷ []

abbrev lane : List ℕ
lane = 3 ∷ 0 ∷ 2 ∷ 0 ∷ 0 ∷ 0 ∷ 1 ∷ []

abbrev cart : List ℕ
cart = 2 ∷ 0 ∷ 3 ∷ 0 ∷ 0 ∷ 0 ∷ []

abbrev carts : List ℕ
carts = flatten (replicate 32 cart)

-- place 0 is narrow, and one more
abbrev narrow : List ℕ
narrow = 1 ∷ 0 ∷ 6 ∷ 0 ∷ 0 ∷ []

abbrev narrows : List ℕ
narrows = flatten (replicate 256 narrow)

-- a group of cart 0, an empty one, one of cart 1, and eight
abbrev group : List ℕ → List ℕ
group word = 4 ∷ 0 ∷ 7 ∷ 0 ∷ word

abbrev first : List ℕ
first = group (1 ∷ 0 ∷ 0 ∷ 0 ∷ [])

abbrev empty : List ℕ
empty = group (0 ∷ 0 ∷ 0 ∷ 0 ∷ [])

abbrev second : List ℕ
second = group (2 ∷ 0 ∷ 0 ∷ 0 ∷ [])

abbrev eight : List ℕ
eight = flatten (replicate 8 first)

abbrev verdict : List ℕ → Verdict
verdict s = floor_verdict (read_floor s)

-- a buffer of so many bytes
abbrev blank : ℕ → List ℕ
blank n = replicate n 9

abbrev writing : List ℕ → List ℕ → List ℕ → List ℕ → List ℕ → ℕ → Outcome
writing p l c w g n = write_floor (numbers p l c w g) (blank n)

-- the definitions that these cases compute with, under one name
computing : List ℕ → List ℕ → List ℕ → List ℕ → List ℕ → ℕ → Verdict × Outcome
unfolding flatten bytes value encoded layout split records_in parts_in parts judged walk read_floor bodies_of write_floor
computing p l c w g n = (verdict p, writing p l c w g n)

-- the order at one offset, the offset of each, and the end
pub floors :
    (verdict (1 ∷ 0 ∷ 9 ∷ 0 ∷ 0 ∷ []) ≡ AboutFloor (refused 3 0 0))
    × (verdict (place ++ (lane ++ place)) ≡ AboutFloor (refused 3 15 0))
    × (verdict (place ++ (carts ++ (1 ∷ 0 ∷ 3 ∷ 0 ∷ 0 ∷ []))) ≡ AboutFloor (refused 4 200 0))
    × (verdict (place ++ (carts ++ (2 ∷ 0 ∷ 3 ∷ 0 ∷ 8 ∷ 0 ∷ []))) ≡ AboutFloor (refused 5 200 0))
    × (verdict (place ++ (2 ∷ 0 ∷ 3 ∷ 0 ∷ 8 ∷ 0 ∷ [])) ≡ AboutFloor (refused 6 8 0))
    × (verdict (place ++ (3 ∷ 0 ∷ 2 ∷ 0 ∷ 0 ∷ 1 ∷ 1 ∷ [])) ≡ AboutFloor (refused 6 8 0))
    × (verdict place ≡ AboutFloor (refused 7 8 0))
    × (verdict (place ++ (1 ∷ [])) ≡ AboutFloor (refused 2 8 0))
    × (verdict [] ≡ AboutFloor (refused 7 0 0))
    × (verdict (place ++ carts) ≡ Accepted)
    × (read_floor (place ++ (place ++ (lane ++ cart))) ≡ Ok (record { places = 2; lanes = 1; carts = 1; narrow = 0; groups = 0 }))
    × (numbers_of (place ++ (lane ++ cart)) ≡ numbers (1 ∷ []) (0 ∷ 0 ∷ 1 ∷ []) (0 ∷ 0 ∷ []) [] [])
    -- kind 6: behind the carts, of one byte, 256 of them, the same place twice, an absent one, and no cart at the end
    × (verdict (place ++ (cart ++ (narrow ++ narrow))) ≡ Accepted)
    × (verdict (place ++ (narrow ++ cart)) ≡ AboutFloor (refused 3 13 0))
    × (verdict (place ++ (cart ++ (narrow ++ (2 ∷ 0 ∷ 6 ∷ 0 ∷ 0 ∷ 0 ∷ [])))) ≡ AboutFloor (refused 4 19 0))
    × (verdict (place ++ (cart ++ narrows)) ≡ Accepted)
    × (verdict (place ++ (cart ++ (narrows ++ (1 ∷ 0 ∷ 6 ∷ 0 ∷ 1 ∷ [])))) ≡ AboutFloor (refused 5 1294 0))
    × (verdict (place ++ (cart ++ (1 ∷ 0 ∷ 6 ∷ 0 ∷ 1 ∷ []))) ≡ AboutFloor (refused 6 14 0))
    × (verdict (place ++ narrow) ≡ AboutFloor (refused 7 13 0))
    × (verdict narrow ≡ AboutFloor (refused 6 0 0))
    × (numbers_of (place ++ (cart ++ (narrow ++ narrow))) ≡ numbers (1 ∷ []) [] (0 ∷ 0 ∷ []) (0 ∷ 0 ∷ []) [])
    -- written: a byte too few, a byte more than needed, and numbers that no file could give
    × (writing (1 ∷ []) [] (0 ∷ 0 ∷ []) [] [] 13 ≡ unchanged (AboutFloor (refused 18 14 0)) (blank 13))
    × (writing (1 ∷ []) [] (0 ∷ 0 ∷ []) [] [] 15 ≡ record { answer = Written 14; out = place ++ (cart ++ (9 ∷ [])) })
    × (writing (1 ∷ []) (0 ∷ 0 ∷ []) (0 ∷ 0 ∷ []) [] [] 99 ≡ unchanged (AboutFloor (refused 4 8 0)) (blank 99))
    × (writing [] [] (0 ∷ 0 ∷ []) [] [] 0 ≡ unchanged (AboutFloor (refused 6 0 0)) [])
    × (writing (1 ∷ []) [] (0 ∷ 0 ∷ []) (0 ∷ []) [] 20 ≡ record { answer = Written 19; out = place ++ (cart ++ (narrow ++ (9 ∷ []))) })
    × (writing (1 ∷ []) [] (0 ∷ 0 ∷ []) (0 ∷ 1 ∷ []) [] 99 ≡ unchanged (AboutFloor (refused 6 19 0)) (blank 99))
unfolding computing
floors = (
  refl,
  refl,
  refl,
  refl,
  refl,
  refl,
  refl,
  refl,
  refl,
  refl,
  refl,
  refl,
  refl,
  refl,
  refl,
  refl,
  refl,
  refl,
  refl,
  refl,
  refl,
  refl,
  refl,
  refl,
  refl,
  refl,
  refl,
)

-- kind 7: behind the narrow places, of four bytes, eight of them, the same twice, of no cart and of all, and a bit of an absent one
pub groups :
    (verdict (place ++ (cart ++ (narrow ++ (first ++ first)))) ≡ Accepted)
    × (verdict (place ++ (cart ++ empty)) ≡ Accepted)
    × (verdict (place ++ (cart ++ second)) ≡ AboutFloor (refused 6 14 0))
    × (verdict (place ++ (cart ++ group (3 ∷ 0 ∷ 0 ∷ 0 ∷ []))) ≡ AboutFloor (refused 6 14 0))
    × (verdict (place ++ (cart ++ group (1 ∷ 0 ∷ 0 ∷ 128 ∷ []))) ≡ AboutFloor (refused 6 14 0))
    × (verdict (place ++ (cart ++ (cart ++ second))) ≡ Accepted)
    × (verdict (place ++ (carts ++ group (255 ∷ 255 ∷ 255 ∷ 255 ∷ []))) ≡ Accepted)
    × (verdict (place ++ (flatten (replicate 31 cart) ++ group (0 ∷ 0 ∷ 0 ∷ 128 ∷ []))) ≡ AboutFloor (refused 6 194 0))
    × (verdict (place ++ (cart ++ eight)) ≡ Accepted)
    -- 3, 4, 5 and 6 of one record, each before the next
    × (verdict (place ++ (cart ++ (first ++ narrow))) ≡ AboutFloor (refused 3 22 0))
    × (verdict (place ++ (cart ++ (first ++ cart))) ≡ AboutFloor (refused 3 22 0))
    × (verdict (place ++ (cart ++ (first ++ lane))) ≡ AboutFloor (refused 3 22 0))
    × (verdict (place ++ (cart ++ (first ++ place))) ≡ AboutFloor (refused 3 22 0))
    × (verdict (place ++ (cart ++ (1 ∷ 0 ∷ 8 ∷ 0 ∷ 0 ∷ []))) ≡ AboutFloor (refused 3 14 0))
    × (verdict (place ++ (cart ++ (eight ++ (3 ∷ 0 ∷ 7 ∷ 0 ∷ 255 ∷ 255 ∷ 255 ∷ [])))) ≡ AboutFloor (refused 4 78 0))
    × (verdict (place ++ (cart ++ (5 ∷ 0 ∷ 7 ∷ 0 ∷ 1 ∷ 0 ∷ 0 ∷ 0 ∷ 0 ∷ []))) ≡ AboutFloor (refused 4 14 0))
    × (verdict (place ++ (cart ++ (eight ++ empty))) ≡ AboutFloor (refused 5 78 0))
    × (verdict (place ++ (cart ++ (eight ++ second))) ≡ AboutFloor (refused 5 78 0))
    -- without a cart: every bit is one of an absent cart, an empty group is taken, and 7 stands at the end
    × (verdict (place ++ first) ≡ AboutFloor (refused 6 8 0))
    × (verdict (place ++ empty) ≡ AboutFloor (refused 7 16 0))
    × (verdict empty ≡ AboutFloor (refused 7 8 0))
    -- counted, found again, and written behind the narrow places
    × (read_floor (place ++ (cart ++ (narrow ++ (first ++ empty)))) ≡ Ok (record { places = 1; lanes = 0; carts = 1; narrow = 1; groups = 2 }))
    × (numbers_of (place ++ (cart ++ (cart ++ (second ++ first)))) ≡ numbers (1 ∷ []) [] (0 ∷ 0 ∷ 0 ∷ 0 ∷ []) [] (2 ∷ 1 ∷ []))
    × (writing (1 ∷ []) [] (0 ∷ 0 ∷ []) (0 ∷ []) (1 ∷ 0 ∷ []) 36
    ≡ record { answer = Written 35; out = place ++ (cart ++ (narrow ++ (first ++ (empty ++ (9 ∷ []))))) })
    × (writing (1 ∷ []) [] (0 ∷ 0 ∷ []) [] (1 ∷ []) 21 ≡ unchanged (AboutFloor (refused 18 22 0)) (blank 21))
    × (writing (1 ∷ []) [] (0 ∷ 0 ∷ []) (0 ∷ []) (1 ∷ 2 ∷ []) 99 ≡ unchanged (AboutFloor (refused 6 27 0)) (blank 99))
    × (writing (1 ∷ []) [] (0 ∷ 0 ∷ []) [] (replicate 8 1 ++ (2 ∷ [])) 99 ≡ unchanged (AboutFloor (refused 5 78 0)) (blank 99))
unfolding computing
groups = (
  refl,
  refl,
  refl,
  refl,
  refl,
  refl,
  refl,
  refl,
  refl,
  refl,
  refl,
  refl,
  refl,
  refl,
  refl,
  refl,
  refl,
  refl,
  refl,
  refl,
  refl,
  refl,
  refl,
  refl,
  refl,
  refl,
  refl,
)
