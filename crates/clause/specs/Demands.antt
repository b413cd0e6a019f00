-- What follows from the promises of picking a clause's part alone, for a verdict's own bytes.
use Rattle.std.specs.Prelude.{ℕ, ◌≤◌, ◌<◌, ◌≡◌, refl, Bool, true, false, ◌&&◌, ◌||◌, List, eqb, length, take, drop}
use Rattle.std.proofs.Common.{arith, sym, ap, ◌∙◌, length-take, length-drop, ne_eqb}
use Rattle.std.proofs.Math.Bool.{or-false}
use Rattle.endian.specs.Little.{bytes}
use Rattle.refusal.specs.Codes.{code_of, bytes_of, code_in, Fits32}
use Rattle.refusal.specs.Distinct.{code_in_bytes_of}
use Rattle.refusal.specs.Given.{OneOf, clause_numbers}
use Rattle.refusal.specs.Numbered.{among, among_one, among_none}
use Rattle.refusal.specs.declared.Code.{Code}
use Rattle.refusal.specs.declared.Refusal.{Refusal}
use Rattle.refusal.specs.declared.Verdict.{Verdict}
use Rattle.refusal.specs.declared.Verdict.TheVariants.{Accepted, Written, Floor, Plan, Rules}
use Rattle.clause.specs.Clause.{names_clause, picks, empty_span, span}
use Rattle.clause.specs.Meaning.{line_ends, IsClause}
use Rattle.clause.specs.Promises.{Picked, Shown}
use Rattle.clause.specs.declared.Span.{Span}

-- a refusal that names a clause
abbrev pub Named : ℕ → Type 0
Named n = OneOf clause_numbers n

listed : (n : ℕ) → names_clause n ≡ among clause_numbers n
unfolding names_clause
listed n = ap (λ (b : Bool). eqb n 21 || (eqb n 16 || b)) (sym (or-false (eqb n 17)))

named : (n : ℕ) → Named n → names_clause n ≡ true
named n h = listed n ∙ among_one clause_numbers n h

unnamed : (n : ℕ) → (Named n → ⊥) → names_clause n ≡ false
unnamed n h = listed n ∙ among_none clause_numbers n h

-- a verdict's own bytes pick by its numbers
picks_of : (c : Code) → Fits32 c → picks (bytes_of c) ≡ (eqb c.about 3 && names_clause c.number)
unfolding picks bytes
picks_of c w = ap (λ (d : Code). eqb d.about 3 && names_clause d.number) (code_in_bytes_of c w)

picks_none : (v : Verdict) → Fits32 (code_of v) → ((r : Refusal) → v ≡ Rules r → Named r.number → ⊥) → picks (bytes_of (code_of v)) ≡ false
picks_none Accepted w h = picks_of (code_of Accepted) w
picks_none (Written n) w h = picks_of (code_of (Written n)) w
picks_none (Floor r) w h = picks_of (code_of (Floor r)) w
picks_none (Plan r) w h = picks_of (code_of (Plan r)) w
picks_none (Rules r) w h = picks_of (code_of (Rules r)) w ∙ unnamed r.number (h r refl)

-- 21, 16 or 17 of the rules with clause k
module _ (sheet : List ℕ) (r : Refusal) (names : Named r.number) (fits : Fits32 (code_of (Rules r))) where
  abbrev verdict : List ℕ
  verdict = bytes_of (code_of (Rules r))

  does : picks verdict ≡ true
  does = picks_of (code_of (Rules r)) fits ∙ named r.number names

  clause_number : (code_in verdict).first ≡ r.first
  clause_number = ap (λ (d : Code). d.first) (code_in_bytes_of (code_of (Rules r)) fits)

  module _ (p : Span) (promise : Picked sheet verdict p) where
    -- the part is line k, and nothing else is
    pub its_line : r.first < line_ends sheet → IsClause sheet r.first p
    its_line h = rw clause_number at (promise.clause does (omega (arith, clause_number)))

    pub no_other_line : (q : Span) → IsClause sheet r.first q → q ≡ p
    no_other_line q c = promise.only does q (rw clause_number c)

    -- a sheet of at most k lines lacks it
    pub lacked : line_ends sheet ≤ r.first → p ≡ empty_span
    lacked h = promise.lacking (omega (arith, clause_number))

  -- and its bytes are shown
  pub shown_line : (shown : List ℕ) → Shown sheet verdict shown → r.first < line_ends sheet
      → (q : Span) × IsClause sheet r.first q × (shown ≡ take q.length (drop q.offset sheet))
  shown_line shown promise h = (span sheet verdict, its_line (span sheet verdict) promise.place h, promise.answer)

-- any other verdict: the empty part at offset 0
pub other_empty : (sheet : List ℕ) (v : Verdict) (p : Span) → Fits32 (code_of v) → ((r : Refusal) → v ≡ Rules r → Named r.number → ⊥)
    → Picked sheet (bytes_of (code_of v)) p → p ≡ empty_span
other_empty sheet v p w h promise = promise.other (picks_none v w h)

-- and so are bytes that are no verdict's
pub not_16_bytes : (sheet verdict : List ℕ) (p : Span) → (length verdict ≡ 16 → ⊥) → Picked sheet verdict p → p ≡ empty_span
unfolding picks
not_16_bytes sheet verdict p h promise =
    promise.other (ap (λ (b : Bool). b && (eqb (code_in verdict).about 3 && names_clause (code_in verdict).number)) (ne_eqb (length verdict) 16 h))

-- as many bytes are shown as the part has
pub shown-length : (sheet verdict shown : List ℕ) → Shown sheet verdict shown → length shown ≡ (span sheet verdict).length
shown-length sheet verdict shown promise =
    let inside = promise.place.inside in
    rw promise.answer (simp (length-take, length-drop) (omega arith))
