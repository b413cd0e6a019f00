-- A refusal of a floor has one of the numbers that document 01 lists.
use Rattle.std.specs.Prelude.{ℕ, ◌+◌, ◌≡◌, refl, Bool, true, false, cond, not, ◌||◌, List, [], ◌∷◌, ◌++◌, eqb, leb, ltb, length, Result, Ok, Err}
use Rattle.std.proofs.Common.{subst}
use Rattle.refusal.specs.Codes.{at_offset}
use Rattle.refusal.specs.Given.{OneOf, Given, floor_numbers, reading_floor, writing_floor}
use Rattle.refusal.specs.Numbered.{one_among, one_of_more, by_number}
use Rattle.refusal.specs.Held.{given_written}
use Rattle.refusal.specs.declared.Refusal.{Refusal}
use Rattle.refusal.specs.declared.Verdict.TheVariants.{Floor as AboutFloor}
use Rattle.record.specs.Record.{Record, records_in}
use Rattle.floor.specs.Floor.{Kind, kinds, counts, floor_of, seen, judged_as, judged_by, judged, onward, walk, at_end, empty_floor, read_on, read_floor, floor_verdict, Walked}
use Rattle.floor.specs.Numbers.{FloorNumbers, floor_bytes, by_reading, write_floor}
use Rattle.floor.specs.declared.Floor.{Floor}

-- a record: 3, 4, 5 or 6
abbrev FaultListed : Result Floor ℕ → Type 0
FaultListed (Ok g) = Unit {0}
FaultListed (Err n) = OneOf floor_numbers n

by_kind_lem : (ks : List Kind) (before ns : List ℕ) (number : ℕ) (body : List ℕ) → FaultListed (judged_by ks before ns number body)
by_kind_lem [] before ns number body = one_among floor_numbers 3 refl
by_kind_lem (k ∷ ks) before [] number body = one_among floor_numbers 3 refl
by_kind_lem (k ∷ ks) before (n ∷ ns) number body = go (eqb number k.number) (by_kind_lem ks (before ++ (n ∷ [])) ns number body)
  where
    tests : List (Bool × ℕ)
    tests = (seen ns, 3) ∷ (not (eqb (length body) k.size), 4) ∷ (leb k.most n, 5) ∷ (k.bad before body, 6) ∷ []

    go : (b : Bool) → FaultListed (judged_by ks (before ++ (n ∷ [])) ns number body)
        → FaultListed (cond b (judged_as k before n ns body) (judged_by ks (before ++ (n ∷ [])) ns number body))
    go false h = h
    go true h = by_number FaultListed tests (Ok (floor_of (before ++ ((n + 1) ∷ ns)))) Err tt
        (λ m l. one_of_more (3 ∷ 4 ∷ 5 ∷ 6 ∷ []) floor_numbers m refl l)

fault_listed : (f : Floor) (number : ℕ) (body : List ℕ) → FaultListed (judged f number body)
unfolding judged
fault_listed f number body = by_kind_lem kinds [] (counts f) number body

-- records in order: that of the first refused
abbrev StopListed : Walked → Type 0
StopListed (Ok (f, at)) = Unit {0}
StopListed (Err r) = OneOf floor_numbers r.number

stop_listed : (rs : List Record) (f : Floor) (at : ℕ) → StopListed (walk f at rs)
unfolding walk
stop_listed [] f at = tt
stop_listed (r ∷ rs) f at =
    go (judged f r.kind r.body) (fault_listed f r.kind r.body) (λ g. stop_listed rs g (at + 4 + length r.body))
  where
    go : (a : Result Floor ℕ) → FaultListed a → ((g : Floor) → StopListed (walk g (at + 4 + length r.body) rs))
        → StopListed (onward a at (λ g. walk g (at + 4 + length r.body) rs))
    go (Ok g) h next = next g
    go (Err n) h next = h

-- the end: 2 or 7
end_listed : (w : Walked) (cut : Bool) → StopListed w → Given reading_floor (floor_verdict (at_end w cut))
end_listed (Err r) cut h = h
end_listed (Ok (f, at)) true h = one_among floor_numbers 2 refl
end_listed (Ok (f, at)) false h = go (eqb f.places 0 || eqb f.carts 0)
  where
    go : (b : Bool) → Given reading_floor (floor_verdict (cond b (Err (at_offset 7 at)) (Ok f)))
    go true = one_among floor_numbers 7 refl
    go false = refl

-- and before all else 1
pub reading_given : (s : List ℕ) → Given reading_floor (floor_verdict (read_floor s))
unfolding read_floor
reading_given s =
    go (ltb 65536 (length s))
    (end_listed (walk empty_floor 0 (records_in s).records) (records_in s).cut (stop_listed (records_in s).records empty_floor 0))
  where
    go : (b : Bool) → Given reading_floor (floor_verdict (read_on empty_floor 0 (records_in s)))
        → Given reading_floor (floor_verdict (cond b (Err (at_offset 1 0)) (read_on empty_floor 0 (records_in s))))
    go true h = one_among floor_numbers 1 refl
    go false h = h

pub refused_number : (s : List ℕ) (r : Refusal) → read_floor s ≡ Err r → OneOf floor_numbers r.number
refused_number s r e = subst (λ (a : Result Floor Refusal). Given reading_floor (floor_verdict a)) e (reading_given s)

-- writing: reading's refusal, or 18
pub writing_given : (n : FloorNumbers) (before : List ℕ) → Given writing_floor (write_floor n before).answer
unfolding write_floor
writing_given n before = go (read_floor (floor_bytes n)) (reading_given (floor_bytes n))
  where
    go : (a : Result Floor Refusal) → Given reading_floor (floor_verdict a) → Given writing_floor (by_reading a (floor_bytes n) before).answer
    go (Err r) h = one_of_more floor_numbers writing_floor.floor r.number refl h
    go (Ok f) h = given_written writing_floor AboutFloor (floor_bytes n) before refl (one_among writing_floor.floor 18 refl)
