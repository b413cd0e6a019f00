-- The sheet line by line.
use Prim.Native.Nat.{ℕ, zero, suc, ◌-◌, ◌≤◌, ◌<◌}
use Rattle.std.proofs.Common.{arith, sym, ◌∙◌, drop_of_length-le, lt-ltb, le-ltb}
use Rattle.std.specs.Prelude.{◌≡◌, Bool, get_or, Ok, Err}
use Rattle.std.proofs.Math.Path.{refl, ap}
use mathlib.Core.List.{List, [], ◌∷◌}
use Rattle.std.proofs.Math.ListN.{length, drop, length-drop}
use Rattle.std.proofs.Math.Seq.{drop-cons}
use Rattle.refusal.specs.Codes.{at_offset}
use Rattle.refusal.specs.declared.Verdict.{Verdict}
use Rattle.refusal.specs.declared.Verdict.TheVariants.{Accepted, Rules as AboutRules}
use Rattle.grammar.specs.Grammar.{Clause}
use Rattle.grammar.specs.Limits.{count_nodes}
use Rattle.grammar.specs.Nodes.{flat_count}
use Rattle.grammar.specs.Reader.{Got, got, no, pick, bind, clause_line, lines, Read, outcome, start, read_sheet}
use Rattle.token.specs.Parts.{PartIs}
use Rattle.sheet.specs.Rules.{read_verdict, rules_verdict, lines_verdict}
use Rattle.token.specs.declared.Part.{Part}
use Rattle.token.specs.declared.Fault.{Fault}

module _ (s : List ℕ) where
  pub too_long : 16384 < length s → rules_verdict s ≡ AboutRules (at_offset 12 0)
  unfolding rules_verdict read_sheet
  too_long l = ap (λ (b : Bool). read_verdict (pick b (Read.refused 12 0) (start s))) (lt-ltb 16384 (length s) l)

  short : length s ≤ 16384 → rules_verdict s ≡ read_verdict (start s)
  unfolding rules_verdict read_sheet
  short l = ap (λ (b : Bool). read_verdict (pick b (Read.refused 12 0) (start s))) (le-ltb 16384 (length s) l)

  pub empty : length s ≡ 0 → rules_verdict s ≡ AboutRules (at_offset 7 0)
  unfolding start
  empty e = short (omega arith) ∙ go s e
    where
      go : (u : List ℕ) → length u ≡ 0 → read_verdict (start u) ≡ AboutRules (at_offset 7 0)
      go [] z = refl
      go (b ∷ u) z = absurd (omega arith)

  by_outcome : (n : ℕ) (g : Got (List Clause)) → read_verdict (outcome n g) ≡ lines_verdict n g
  unfolding outcome
  by_outcome n (got cs m r) = refl
  by_outcome n (no w r) = refl

  pub by_lines : 0 < length s → length s ≤ 16384 → rules_verdict s ≡ lines_verdict (length s) (lines 32 (drop 0 s))
  unfolding start
  by_lines some few = short few ∙ go s some
    where
      go : (u : List ℕ) → 0 < length u → read_verdict (start u) ≡ lines_verdict (length u) (lines 32 u)
      go [] z = absurd (omega arith)
      go (b ∷ u) z = by_outcome (length (b ∷ u)) (lines 32 (b ∷ u))

  abbrev pub from_line : ℕ → ℕ → Verdict
  from_line k at = lines_verdict (length s) (lines k (drop at s))

  -- no line is left
  pub all_read : (k at : ℕ) → length s ≤ at → from_line k at ≡ Accepted
  unfolding lines
  all_read zero at out = ap (λ (u : List ℕ). lines_verdict (length s) (lines zero u)) (drop_of_length-le s {i = at} out)
  all_read (suc k) at out = ap (λ (u : List ℕ). lines_verdict (length s) (lines (suc k) u)) (drop_of_length-le s {i = at} out)

  -- the 33rd line
  pub line_33 : (at : ℕ) → at < length s → from_line 0 at ≡ AboutRules (at_offset 14 at)
  unfolding lines
  line_33 at l =
      let e = drop-cons s at 0 l in
      let n : length s - length (get_or s at 0 ∷ drop (suc at) s) ≡ at = omega (arith, ap length (sym e), length-drop at s) in
      ap (λ (u : List ℕ). lines_verdict (length s) (lines 0 u)) e ∙ ap (λ (j : ℕ). AboutRules (at_offset 14 j)) n

  -- a line, by what reading it gave
  module _ (before block : List ℕ) (k at : ℕ) (l : at < length s) where
    sees : from_line (suc k) at ≡ lines_verdict (length s) (bind (clause_line 128 (drop at s)) (λ c m t. bind (lines k t) (λ cs m₁ r₁. got (c ∷ cs) m₁ r₁)))
    unfolding lines
    sees =
        let e = drop-cons s at 0 l in
        ap (λ (u : List ℕ). lines_verdict (length s) (lines (suc k) u)) e
        ∙ ap (λ (u : List ℕ). lines_verdict (length s) (bind (clause_line 128 u) (λ c m t. bind (lines k t) (λ cs m₁ r₁. got (c ∷ cs) m₁ r₁)))) (sym e)

    pub line_refused : (f : Fault) → PartIs count_nodes flat_count s 0 128 before (Err f) block (clause_line 128 (drop at s))
        → from_line (suc k) at ≡ AboutRules (at_offset f.number f.at)
    unfolding bind
    line_refused f h = sees ∙ go (clause_line 128 (drop at s)) h
      where
        go : (g : Got Clause) → PartIs count_nodes flat_count s 0 128 before (Err f) block g
            → lines_verdict (length s) (bind g (λ c m t. bind (lines k t) (λ cs m₁ r₁. got (c ∷ cs) m₁ r₁))) ≡ AboutRules (at_offset f.number f.at)
        go (got c m t) w = absurd w
        go (no v t) w =
            let n : length s - length t ≡ f.at = omega (arith, ap length w.behind, length-drop f.at s, w.inside) in
            ap (λ (j : ℕ). AboutRules (at_offset v j)) n ∙ ap (λ (x : ℕ). AboutRules (at_offset x f.at)) (sym w.number)

    pub line_read : (r : Part) → PartIs count_nodes flat_count s 0 128 before (Ok r) block (clause_line 128 (drop at s))
        → from_line (suc k) at ≡ from_line k r.at
    unfolding bind
    line_read r h = sees ∙ go (clause_line 128 (drop at s)) h
      where
        same : (c : Clause) (g : Got (List Clause)) → lines_verdict (length s) (bind g (λ cs m₁ r₁. got (c ∷ cs) m₁ r₁)) ≡ lines_verdict (length s) g
        same c (got cs m t) = refl
        same c (no w t) = refl

        go : (g : Got Clause) → PartIs count_nodes flat_count s 0 128 before (Ok r) block g
            → lines_verdict (length s) (bind g (λ c m t. bind (lines k t) (λ cs m₁ r₁. got (c ∷ cs) m₁ r₁))) ≡ from_line k r.at
        go (got c m t) w = same c (lines k t) ∙ ap (λ (u : List ℕ). lines_verdict (length s) (lines k u)) (sym w.behind)
        go (no v t) w = absurd w
