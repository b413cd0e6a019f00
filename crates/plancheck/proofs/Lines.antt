-- The clauses of an accepted sheet, line by line.
use Rattle.std.specs.Prelude.{ℕ, zero, suc, ◌+◌, ◌-◌, ◌≤◌, ◌<◌, Bool, true, false, drop, Result, Ok, Err, IsOk}
use native.Mathlib.Omega.{arith}
use Rattle.std.proofs.Math.Path.{◌≡◌, refl, sym, ap, subst}
use Rattle.std.proofs.Common.{◌∙◌, le-ltb, drop_of_length-le}
use mathlib.Core.List.{List, [], ◌∷◌}
use Rattle.std.proofs.Math.ListN.{length}
use Rattle.std.proofs.Math.Seq.{drop-cons}
use Rattle.refusal.specs.declared.Verdict.TheVariants.{Accepted}
use Rattle.record.specs.All.{All}
use Rattle.grammar.specs.Grammar.{Clause, Sheet, done, line}
use Rattle.grammar.specs.Limits.{nodes, count_nodes, InRange, CountOk, Fits}
use Rattle.grammar.specs.Nodes.{flat_count}
use Rattle.grammar.specs.Reader.{Got, got, no, pick, bind, clause_line, lines, accepted, outcome, start, read_sheet}
use Rattle.grammar.specs.Reader as reader
use Rattle.grammar.proofs.Promised.{promises}
use Rattle.token.specs.Parts.{Held, PartIs}
use Rattle.token.specs.declared.Part.{Part}
use Rattle.token.specs.declared.Fault.{Fault}
use Rattle.sheet.specs.Rules.{rules_verdict}
use Rattle.plancheck.specs.Check.{clauses_of}
use Rattle.plancheck.proofs.Stages.{sheet_read}

-- a clause within the limits
abbrev pub Good : Clause → Type 0
Good c = (nodes count_nodes c ≤ 128) × InRange CountOk c

fits_good : {s : List ℕ} {cs : List Clause} (d : Sheet s cs) → Fits d → All Good cs
fits_good done f = tt
fits_good (line p x rest) f = ((f.0.1, f.1.0), fits_good rest (f.0.2, f.1.1))

-- clauses cs are left from offset `at` on, n are read
pub record Left (s : List ℕ) (at n : ℕ) (cs : List Clause) : Type 0 where
  pub few : n ≤ 32
  pub good : All Good cs
  pub allowed : ℕ
  pub end : List ℕ
  pub read : lines (32 - n) (drop at s) ≡ got cs allowed end

abbrev listed : Got (List Clause) → List Clause
listed (got cs m r) = cs
listed (no w r) = []

abbrev is_got : {A : Type 0} → Got A → Bool
is_got (got a m r) = true
is_got (no w r) = false

not_got : {A : Type 0} {w : ℕ} {r r' : List ℕ} {a : A} {m : ℕ} → no w r ≡ got a m r' → ⊥
not_got e = let x : false ≡ true = ap is_got e in let z : ◌≡◌ {A = ℕ} 0 1 = cc in omega arith

-- no clause is left at the end
pub none_left : (s : List ℕ) (at n : ℕ) (cs : List Clause) → Left s at n cs → length s ≤ at → cs ≡ []
unfolding lines
none_left s at n cs l q = sym (ap listed (ap (λ (u : List ℕ). lines (32 - n) u) (sym (drop_of_length-le s {i = at} q)) ∙ l.read)) ∙ go (32 - n)
  where
    go : (k : ℕ) → listed (lines k []) ≡ []
    go zero = refl
    go (suc k) = refl

-- a line, and then k lines
abbrev then_lines : ℕ → Got Clause → Got (List Clause)
then_lines k g = bind g (λ c m t. bind (lines k t) (λ cs m₁ r₁. got (c ∷ cs) m₁ r₁))

-- a line that was read, where one is left: its clause is the first
pub record Line (s before : List ℕ) (r : Part) (block : List ℕ) (n : ℕ) (cs : List Clause) : Type 0 where
  pub clause : Clause
  pub rest : List Clause
  pub first : cs ≡ clause ∷ rest
  pub good : Good clause
  pub more : n < 32
  pub allowed : ℕ
  pub behind : List ℕ
  pub held : Held count_nodes flat_count s 0 128 before r block clause allowed behind
  pub left : Left s r.at (n + 1) rest

module _ (s : List ℕ) (at n : ℕ) (inside : at < length s) where
  opened : (k : ℕ) → lines (suc k) (drop at s) ≡ then_lines k (clause_line 128 (drop at s))
  unfolding lines
  opened k =
      let e = drop-cons s at 0 inside in
      ap (λ (u : List ℕ). lines (suc k) u) e ∙ ap (λ (u : List ℕ). then_lines k (clause_line 128 u)) (sym e)

  full : lines 0 (drop at s) ≡ no 14 (drop at s)
  unfolding lines
  full = let e = drop-cons s at 0 inside in ap (λ (u : List ℕ). lines 0 u) e ∙ ap (no 14) (sym e)

  module _ (cs : List Clause) (l : Left s at n cs) where
    -- the first of the clauses that are left, and the lines behind it
    first_line : (k : ℕ) × (32 - n ≡ suc k) × (then_lines k (clause_line 128 (drop at s)) ≡ got cs l.allowed l.end)
    first_line = go (32 - n) refl l.read
      where
        go : (k : ℕ) → 32 - n ≡ k → lines k (drop at s) ≡ got cs l.allowed l.end
            → (k : ℕ) × (32 - n ≡ suc k) × (then_lines k (clause_line 128 (drop at s)) ≡ got cs l.allowed l.end)
        go zero e q = absurd (not_got (sym full ∙ q))
        go (suc k) e q = (k, e, sym (opened k) ∙ q)

    -- it reads
    pub line_reads : (before block : List ℕ) (a : Result Part Fault) → PartIs count_nodes flat_count s 0 128 before a block (clause_line 128 (drop at s))
        → IsOk a
    unfolding bind
    line_reads before block a h = let f = first_line in go a (clause_line 128 (drop at s)) h f.0 f.2
      where
        go : (a : Result Part Fault) (g : Got Clause) → PartIs count_nodes flat_count s 0 128 before a block g → (k : ℕ)
            → then_lines k g ≡ got cs l.allowed l.end → IsOk a
        go (Ok r) g p k q = refl
        go (Err f) (got c m t) p k q = absurd p
        go (Err f) (no w t) p k q = absurd (not_got q)

    module _ (before : List ℕ) (r : Part) (block : List ℕ)
        (h : PartIs count_nodes flat_count s 0 128 before (Ok r) block (clause_line 128 (drop at s))) where
      by_line : (k : ℕ) → 32 - n ≡ suc k → (g : Got Clause) → PartIs count_nodes flat_count s 0 128 before (Ok r) block g
          → then_lines k g ≡ got cs l.allowed l.end → Line s before r block n cs
      unfolding bind
      by_line k e (no w t) p q = absurd (not_got q)
      by_line k e (got c m t) p q = behind_it (lines k t) refl q
        where
          behind_it : (g : Got (List Clause)) → lines k t ≡ g → bind g (λ cs m₁ r₁. got (c ∷ cs) m₁ r₁) ≡ got cs l.allowed l.end
              → Line s before r block n cs
          behind_it (no w u) z q = absurd (not_got q)
          behind_it (got cs' m' u) z q =
              let f : cs ≡ c ∷ cs' = sym (ap listed q) in
              let good : Good c × All Good cs' = subst (All Good) f l.good in
              let k-is : 32 - (n + 1) ≡ k = omega arith in
              record {
                clause = c;
                rest = cs';
                first = f;
                good = good.0;
                more = omega arith;
                allowed = m;
                behind = t;
                held = p;
                left = record {
                  few = omega arith;
                  good = good.1;
                  allowed = m';
                  end = u;
                  read = ap (λ (j : ℕ). lines j (drop r.at s)) k-is ∙ ap (λ (v : List ℕ). lines k v) p.behind ∙ z;
                };
              }

      pub next_line : Line s before r block n cs
      next_line = let f = first_line in by_line f.0 f.1 (clause_line 128 (drop at s)) h f.2

pub accepted_short : (s : List ℕ) → rules_verdict s ≡ Accepted → length s ≤ 16384
unfolding rules_verdict
accepted_short s e = ((promises s).sound (clauses_of (read_sheet s)) (sheet_read (read_sheet s) e)).short

---- From the first line on.
module _ (s : List ℕ) where
  abbrev From : List Clause → Type 0
  From cs = (m : ℕ) × (r : List ℕ) × (lines 32 s ≡ got cs m r)

  by_outcome : (cs : List Clause) (len : ℕ) (g : Got (List Clause)) → outcome len g ≡ accepted cs → (m : ℕ) × (r : List ℕ) × (g ≡ got cs m r)
  unfolding outcome
  by_outcome cs len (got cs' m r) q = (m, r, ap (λ (x : List Clause). got x m r) (ap clauses_of q))
  by_outcome cs len (no w r) q = absurd (let x : ◌≡◌ {A = ℕ} 0 1 = cc in omega arith)

  from_start : (cs : List Clause) → read_sheet s ≡ accepted cs → length s ≤ 16384 → 0 < length s → From cs
  unfolding read_sheet start
  from_start cs e short some = on_text s some (ap (λ (b : Bool). pick b (reader.refused 12 0) (start s)) (sym (le-ltb 16384 (length s) short)) ∙ e)
    where
      on_text : (u : List ℕ) → 0 < length u → start u ≡ accepted cs → (m : ℕ) × (r : List ℕ) × (lines 32 u ≡ got cs m r)
      on_text [] z q = absurd (omega arith)
      on_text (b ∷ u) z q = by_outcome cs (length (b ∷ u)) (lines 32 (b ∷ u)) q

  begun : (cs : List Clause) → read_sheet s ≡ accepted cs → Left s 0 0 cs
  begun cs e =
      let a = (promises s).sound cs e in
      let x = from_start cs e a.short a.some in
      record { few = omega arith; good = fits_good a.sheet a.fits; allowed = x.0; end = x.1; read = x.2 }

  pub all_left : rules_verdict s ≡ Accepted → Left s 0 0 (clauses_of (read_sheet s))
  unfolding rules_verdict
  all_left e = begun (clauses_of (read_sheet s)) (sheet_read (read_sheet s) e)
