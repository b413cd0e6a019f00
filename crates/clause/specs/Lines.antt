-- The walk finds a line by the bytes 10 before it, in it and behind it.
use Rattle.std.specs.Prelude.{ℕ, zero, suc, ◌+◌, ◌-◌, ◌≤◌, ◌<◌, ◌≡◌, refl, Bool, true, false, List, [], ◌∷◌, ltb, take, drop, get_or}
use Rattle.std.proofs.Common.{arith, sym, ◌∙◌, length-drop, get_or-drop, eqb-true, lt-ltb, le-ltb}
use Rattle.std.proofs.Math.Path.{ap}
use Rattle.std.proofs.Math.Bool.{cond}
use Rattle.std.proofs.Math.ListN.{length}
use Rattle.clause.specs.Clause.{is_end, line_start, line_length, empty_span, clause_in}
use Rattle.clause.specs.Meaning.{line_ends, IsClause}
use Rattle.clause.specs.declared.Span.{Span}

-- the first line begins at 0
pub start_zero : (s : List ℕ) → line_start 0 s ≡ 0
unfolding line_start
start_zero [] = refl
start_zero (b ∷ s) = refl

pub start_inside : (k : ℕ) (s : List ℕ) → line_start k s ≤ length s
unfolding line_start
start_inside k [] = omega arith
start_inside zero (b ∷ s) = omega arith
start_inside (suc k) (b ∷ s) = omega (arith, start_inside (cond (is_end b) k (suc k)) s)

-- the lines ended from line k on
pub ends_from : (k : ℕ) (s : List ℕ) → line_ends (drop (line_start k s) s) ≡ line_ends s - k
unfolding line_start line_ends
ends_from k [] = omega arith
ends_from zero (b ∷ s) = omega arith
ends_from (suc k) (b ∷ s) = ends_from (cond (is_end b) k (suc k)) s ∙ step (is_end b) (line_ends s)
  where
    step : (t : Bool) (n : ℕ) → n - cond t k (suc k) ≡ cond t 1 0 + n - suc k
    step true n = omega arith
    step false n = omega arith

pub ends_split : (n : ℕ) (s : List ℕ) → line_ends (take n s) + line_ends (drop n s) ≡ line_ends s
unfolding line_ends
ends_split zero s = omega arith
ends_split (suc n) [] = omega arith
ends_split (suc n) (b ∷ s) = omega (arith, ends_split n s)

pub ends_before : (k : ℕ) (s : List ℕ) → k ≤ line_ends s → line_ends (take (line_start k s) s) ≡ k
ends_before k s h = omega (arith, ends_split (line_start k s) s, ends_from k s)

-- what stands before a byte, one byte further on
pub byte_before : (b : ℕ) (s : List ℕ) (n : ℕ) → 0 < n → get_or (b ∷ s) (suc n - 1) 0 ≡ get_or s (n - 1) 0
byte_before b s zero p = absurd (omega arith)
byte_before b s (suc n) p =
    let e : suc (suc n) - 1 ≡ suc n = omega arith in
    let f : n ≡ suc n - 1 = omega arith in
    ap (λ (i : ℕ). get_or (b ∷ s) i 0) e ∙ ap (λ (i : ℕ). get_or s i 0) f

behind_byte : (b : ℕ) (s : List ℕ) (n : ℕ) → (n ≡ 0 → b ≡ 10) → (0 < n → get_or s (n - 1) 0 ≡ 10) → get_or (b ∷ s) (suc n - 1) 0 ≡ 10
behind_byte b s zero first more = first refl
behind_byte b s (suc n) first more = byte_before b s (suc n) (omega arith) ∙ more (omega arith)

pub start_behind : (k : ℕ) (s : List ℕ) → k ≤ line_ends s → 0 < line_start k s → get_or s (line_start k s - 1) 0 ≡ 10
unfolding line_start line_ends
start_behind k [] h p = absurd (omega arith)
start_behind zero (b ∷ s) h p = absurd (omega arith)
start_behind (suc k) (b ∷ s) h p = go (is_end b) refl h (start_behind k s) (start_behind (suc k) s)
  where
    go : (t : Bool) → is_end b ≡ t → suc k ≤ cond t 1 0 + line_ends s
        → (k ≤ line_ends s → 0 < line_start k s → get_or s (line_start k s - 1) 0 ≡ 10)
        → (suc k ≤ line_ends s → 0 < line_start (suc k) s → get_or s (line_start (suc k) s - 1) 0 ≡ 10)
        → get_or (b ∷ s) (suc (line_start (cond t k (suc k)) s) - 1) 0 ≡ 10
    go true e h next same = behind_byte b s (line_start k s) (λ z. eqb-true b 10 e) (next (omega arith))
    go false e h next same =
        let q = ends_before (suc k) s (omega arith) in
        behind_byte b s (line_start (suc k) s)
        (λ z. let r = ap (λ (n : ℕ). line_ends (take n s)) z in absurd (omega arith))
        (same (omega arith))

pub unbroken : (s : List ℕ) → line_ends (take (line_length s) s) ≡ 0
unfolding line_length line_ends
unbroken [] = refl
unbroken (b ∷ s) = go (is_end b) refl (unbroken s)
  where
    go : (t : Bool) → is_end b ≡ t → line_ends (take (line_length s) s) ≡ 0 → line_ends (take (cond t 0 (suc (line_length s))) (b ∷ s)) ≡ 0
    go true e h = refl
    go false e h = let z : ◌≡◌ {A = ℕ} (cond (is_end b) 1 0) 0 = ap (λ (t : Bool). cond t 1 0) e in omega arith

pub length_inside : (s : List ℕ) → line_length s ≤ length s
unfolding line_length
length_inside [] = omega arith
length_inside (b ∷ s) = go (is_end b) (length_inside s)
  where
    go : (t : Bool) → line_length s ≤ length s → cond t 0 (suc (line_length s)) ≤ suc (length s)
    go true h = omega arith
    go false h = omega arith

-- the first line of a text with a byte 10 is ended by it
pub ended : (s : List ℕ) → 0 < line_ends s → (line_length s < length s) × (get_or s (line_length s) 0 ≡ 10)
unfolding line_length line_ends
ended [] h = absurd (omega arith)
ended (b ∷ s) h = go (is_end b) refl h (ended s)
  where
    go : (t : Bool) → is_end b ≡ t → 0 < cond t 1 0 + line_ends s → (0 < line_ends s → (line_length s < length s) × (get_or s (line_length s) 0 ≡ 10))
        → (cond t 0 (suc (line_length s)) < suc (length s)) × (get_or (b ∷ s) (cond t 0 (suc (line_length s))) 0 ≡ 10)
    go true e h f = (omega arith, eqb-true b 10 e)
    go false e h f = let r = f (omega arith) in (omega arith, r.1)

-- and of a text without one it is not
pub unended : (s : List ℕ) → line_ends s ≡ 0 → line_length s ≡ length s
unfolding line_length line_ends
unended [] h = refl
unended (b ∷ s) h = go (is_end b) h (unended s)
  where
    go : (t : Bool) → cond t 1 0 + line_ends s ≡ 0 → (line_ends s ≡ 0 → line_length s ≡ length s) → cond t 0 (suc (line_length s)) ≡ suc (length s)
    go true h f = absurd (omega arith)
    go false h f = ap suc (f (omega arith))

module _ (k : ℕ) (s : List ℕ) where
  -- a clause found, by whether byte 10 ends its line
  clause_by : (t : Bool) → ltb (line_start k s + line_length (drop (line_start k s) s)) (length s) ≡ t
      → clause_in k s ≡ cond t (record { offset = line_start k s; length = line_length (drop (line_start k s) s) }) empty_span
  unfolding clause_in
  clause_by t e = ap (λ (b : Bool). cond b (record { offset = line_start k s; length = line_length (drop (line_start k s) s) }) empty_span) e

  pub clause_at : line_start k s + line_length (drop (line_start k s) s) < length s
      → clause_in k s ≡ record { offset = line_start k s; length = line_length (drop (line_start k s) s) }
  clause_at h = clause_by true (lt-ltb _ _ h)

  pub no_clause : length s ≤ line_start k s + line_length (drop (line_start k s) s) → clause_in k s ≡ empty_span
  no_clause h = clause_by false (le-ltb _ _ h)

-- a clause that the sheet has
pub clause_found : (k : ℕ) (s : List ℕ) → k < line_ends s → IsClause s k (clause_in k s)
clause_found k s h =
    let start = line_start k s in
    let rest = drop start s in
    let n = length-drop start s in
    let line = ended rest (omega (arith, ends_from k s)) in
    rw (clause_at k s (omega arith)) (record {
      begins = start_behind k s (omega arith);
      before = ends_before k s (omega arith);
      unbroken = unbroken rest;
      within = omega arith;
      ended = sym (get_or-drop start s (line_length rest) 0) ∙ line.1;
    })

-- a clause that the sheet lacks
pub clause_lacking : (k : ℕ) (s : List ℕ) → line_ends s ≤ k → clause_in k s ≡ empty_span
clause_lacking k s h =
    let e = unended (drop (line_start k s) s) (omega (arith, ends_from k s)) in
    no_clause k s (omega (arith, length-drop (line_start k s) s, start_inside k s))

pub clause_inside : (k : ℕ) (s : List ℕ) → (clause_in k s).offset + (clause_in k s).length ≤ length s
unfolding clause_in
clause_inside k s = go (ltb (line_start k s + line_length (drop (line_start k s) s)) (length s))
  where
    found : Bool → Span
    found t = cond t (record { offset = line_start k s; length = line_length (drop (line_start k s) s) }) empty_span

    go : (t : Bool) → (found t).offset + (found t).length ≤ length s
    go true = omega (arith, length_inside (drop (line_start k s) s), length-drop (line_start k s) s, start_inside k s)
    go false = omega arith
