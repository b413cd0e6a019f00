-- "A clause refused by its number (as in 16 and 17) is shown as its own part of the sheet, picked by the verdict": what is shown is the clause that was
-- judged.
use Rattle.std.specs.Prelude.{ℕ, ◌<◌, ◌≡◌, List, [], ◌∷◌, ◌++◌, length, drop, get_or}
use Rattle.std.proofs.Common.{arith, sym, subst, inl, inr, length-drop}
use Rattle.refusal.specs.Codes.{code_about, code_of, bytes_of, Fits32}
use Rattle.refusal.specs.declared.Refusal.{Refusal}
use Rattle.refusal.specs.declared.Verdict.{Verdict}
use Rattle.refusal.specs.declared.Verdict.TheVariants.{Rules as AboutRules}
use Rattle.clause.specs.Clause.{line_start, clause_in, span}
use Rattle.clause.specs.Promises.{Picked, Shown}
use Rattle.clause.specs.Lines.{clause_at, clause_found, ends_from, ended}
use Rattle.clause.specs.Demands.{Named, no_other_line}
use Rattle.clause.specs.declared.Span.{Span}
use Rattle.grammar.specs.Grammar.{top, Clause, Sheet}
use Rattle.grammar.specs.Answers.{AcceptedSheet}
use Rattle.plancheck.specs.Meaning.{IsLineOf}
use Rattle.plancheck.specs.Promises.{PlanChecked}
use Rattle.plancheck.proofs.Stages.{same_clauses}
use Rattle.plancheck.specs.SheetLines.{sheet_ends, line_alone}

-- line k of a sheet is its k-th clause
line_of : (sheet : List ℕ) (cs : List Clause) → Sheet sheet cs → (k : ℕ) → k < length cs → IsLineOf sheet k (get_or cs k top) (clause_in k sheet)
line_of sheet cs d k l =
    let e = sheet_ends d in
    let rest = drop (line_start k sheet) sheet in
    let x = (ended rest (omega (arith, ends_from k sheet))).0 in
    record {
      line = clause_found k sheet (omega arith);
      alone = rw (clause_at k sheet (omega (arith, length-drop (line_start k sheet) sheet))) (line_alone d k l);
    }

-- these numbers are small
low : (n : ℕ) → Named n → n < 64
low n (inl e) = omega arith
low n (inr (inl e)) = omega arith
low n (inr (inr (inl e))) = omega arith
low n (inr (inr (inr e))) = absurd e

module _ (floor plan sheet : List ℕ) (v : Verdict) (w : PlanChecked floor plan sheet v) (cs : List Clause) (a : AcceptedSheet sheet cs) where
  -- the part that a refusal by 21, 16 or 17 picks, by its 16 bytes, is the line of the clause that it names
  pub shown_clause : (x : Refusal) → v ≡ AboutRules x → Named x.number → (p : Span) → Picked sheet (bytes_of (code_of v)) p
      → (x.first < length cs) × IsLineOf sheet x.first (get_or cs x.first top) p
  shown_clause x e names p q =
      let y = w.names_clause_lem x e names in
      let l = subst (λ (ds : List Clause). x.first < length ds) (same_clauses sheet y.clauses cs y.read a) y.there in
      let few = a.few in
      let fits : Fits32 (code_about 3 x) =
      record { about = omega arith; number = omega (arith, low x.number names); first = omega arith; second = omega (arith, y.small) } in
      let r = subst (λ (u : Verdict). Picked sheet (bytes_of (code_of u)) p) e q in
      let is = line_of sheet cs a.sheet x.first l in
      (l, subst (IsLineOf sheet x.first (get_or cs x.first top)) (no_other_line sheet x names fits p r (clause_in x.first sheet) is.line) is)

  -- and so are the bytes shown
  pub shown_bytes : (x : Refusal) → v ≡ AboutRules x → Named x.number → (shown : List ℕ) → Shown sheet (bytes_of (code_of v)) shown
      → Sheet (shown ++ (10 ∷ [])) (get_or cs x.first top ∷ [])
  shown_bytes x e names shown q =
      subst (λ (t : List ℕ). Sheet (t ++ (10 ∷ [])) (get_or cs x.first top ∷ [])) (sym q.answer)
      (shown_clause x e names (span sheet (bytes_of (code_of v))) q.place).1.alone
