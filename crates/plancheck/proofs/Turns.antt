-- The clauses in one pass: what was found so far, and what is still to be said.
use Rattle.std.specs.Prelude.{ℕ, suc, ◌+◌, ◌/◌, ◌%◌, ◌^◌, ◌≤◌, ◌<◌, ◌≡◌, Bool, eqb, ltb, length, Result, Ok, Err}
use Rattle.std.proofs.Common.{arith, add-one, ◌∙◌, eq-eqb, ne_eqb}
use Rattle.std.specs.Result.{result_and}
use Rattle.std.proofs.Math.Path.{refl, sym, ap, ap₂}
use Rattle.std.proofs.Math.Bool.{true, false, cond}
use mathlib.Core.List.{List, [], ◌∷◌}
use Rattle.refusal.specs.Codes.{refused}
use Rattle.refusal.specs.Stages.{is_accepted, and_then}
use Rattle.refusal.specs.Results.{told, checked}
use Rattle.refusal.specs.Accepting.{accepted_is, stops, goes_on, refused_stops}
use Rattle.refusal.specs.declared.Refused.{Refused}
use Rattle.refusal.specs.declared.Verdict.{Verdict}
use Rattle.refusal.specs.declared.Verdict.TheVariants.{Accepted, Rules as AboutRules}
use Rattle.grammar.specs.Grammar.{Clause}
use Rattle.grammar.specs.Groups.{groups}
use Rattle.grammar.specs.Reader.{read_sheet}
use Rattle.sheet.specs.Rules.{rules_verdict}
use Rattle.token.specs.declared.Part.{Part}
use Rattle.cltl.specs.Meaning.{Rows}
use Rattle.cltl.specs.Rules.{rules, has_next}
use Rattle.cltl.specs.Step.{failing}
use Rattle.mask.specs.Mask.{on, Row}
use Rattle.drift.specs.Lacking.{first_lacked}
use Rattle.plancheck.specs.Check.{lacked, lack_verdict, group_verdict, clause_verdict, clauses_of, next_verdict, kept_verdict, clauses_verdict}
use Rattle.plancheck.specs.Turns.{next_of}
use Rattle.plancheck.proofs.Lines.{Left, Line, all_left, none_left}

---- Verdicts one after the other.
ends : (v : Verdict) → and_then v Accepted ≡ v
ends v = go (is_accepted v) refl
  where
    go : (b : Bool) → is_accepted v ≡ b → and_then v Accepted ≡ v
    go true e = goes_on v Accepted e ∙ sym (accepted_is v e)
    go false e = stops v Accepted e

then_then : (a b c : Verdict) → and_then (and_then a b) c ≡ and_then a (and_then b c)
then_then a b c = go (is_accepted a) refl
  where
    go : (z : Bool) → is_accepted a ≡ z → and_then (and_then a b) c ≡ and_then a (and_then b c)
    go true e = ap (λ (v : Verdict). and_then v c) (goes_on a b e) ∙ sym (goes_on a (and_then b c) e)
    go false e = ap (λ (v : Verdict). and_then v c) (stops a b e) ∙ stops a c e ∙ sym (stops a (and_then b c) e)

-- where x refuses, what is behind it does not count
in_order_lem : (x b f c k : Verdict) → and_then (and_then x b) (and_then f (and_then c k)) ≡ and_then (and_then x b) (and_then (and_then (and_then x f) c) k)
in_order_lem x b f c k = go (is_accepted x) refl
  where
    go : (z : Bool) → is_accepted x ≡ z → and_then (and_then x b) (and_then f (and_then c k)) ≡ and_then (and_then x b) (and_then (and_then (and_then x f) c) k)
    go true e = ap (and_then (and_then x b)) (sym (then_then f c k) ∙ ap (λ (v : Verdict). and_then (and_then v c) k) (sym (goes_on x f e)))
    go false e =
        ap (λ (v : Verdict). and_then v (and_then f (and_then c k))) (stops x b e) ∙ stops x _ e
        ∙ sym (ap (λ (v : Verdict). and_then v (and_then (and_then (and_then x f) c) k)) (stops x b e) ∙ stops x _ e)

-- results one after the other
pub checked_and : {A B : Type 0} (a : Result A Refused) (b : Result B Refused) → checked (result_and a b) ≡ and_then (checked a) (checked b)
checked_and (Ok x) b = refl
checked_and (Err e) b = sym (stops (told e) (checked b) (refused_stops e))

abbrev next_from : ℕ → ℕ → List Clause → Verdict
next_from d n cs = cond (eqb d 0) Accepted (next_verdict n cs)

-- by whether the clause looks one tick on although there is drift
pub next_told : (d n : ℕ) (c : Clause) → true ≡ cond (eqb d 0) false (has_next c) → AboutRules (refused 16 n 0) ≡ next_of d n c
next_told d n c e = go (eqb d 0) (has_next c) e
  where
    go : (z b : Bool) → true ≡ cond z false b → AboutRules (refused 16 n 0) ≡ cond z Accepted (cond b (AboutRules (refused 16 n 0)) Accepted)
    go true b e = let x : ◌≡◌ {A = ℕ} 0 1 = cc in absurd (omega arith)
    go false true e = refl
    go false false e = let x : ◌≡◌ {A = ℕ} 0 1 = cc in absurd (omega arith)

pub next_none : (d n : ℕ) (c : Clause) → false ≡ cond (eqb d 0) false (has_next c) → Accepted ≡ next_of d n c
next_none d n c e = go (eqb d 0) (has_next c) e
  where
    go : (z b : Bool) → false ≡ cond z false b → Accepted ≡ cond z Accepted (cond b (AboutRules (refused 16 n 0)) Accepted)
    go true b e = refl
    go false true e = let x : ◌≡◌ {A = ℕ} 0 1 = cc in absurd (omega arith)
    go false false e = refl

module _ (P : Rows) (d : ℕ) where
  module _ (n : ℕ) (c : Clause) (r : ℕ) (some : 0 < P.h) (row : Row P.h r (rules P d c)) where
    -- the lowest bit is the truth at step 0
    pub clause_kept : r % 2 ≡ 1 → Accepted ≡ clause_verdict P d n c
    unfolding on
    clause_kept e =
        ap (λ (b : Bool). cond b Accepted (AboutRules (refused 17 n (failing P d c)))) (sym (eq-eqb (r / 2 ^ 0 % 2) 1 (omega arith)) ∙ row.at 0 some)

    pub clause_fails : (r % 2 ≡ 1 → ⊥) → (step : ℕ) → step ≡ failing P d c → AboutRules (refused 17 n step) ≡ clause_verdict P d n c
    unfolding on
    clause_fails e step q =
        ap (λ (s : ℕ). AboutRules (refused 17 n s)) q
        ∙ ap (λ (b : Bool). cond b Accepted (AboutRules (refused 17 n (failing P d c))))
        (sym (ne_eqb (r / 2 ^ 0 % 2) 1 (λ z. e (omega arith))) ∙ row.at 0 some)

  -- The verdict on all clauses, where `next` and `found` were found before clause n and cs are left. Where a 16 was found, what else was found does not count.
  abbrev pub seen : ℕ → Verdict → Verdict → ℕ → List Clause → Verdict
  seen many next found n cs = and_then (group_verdict many n cs) (and_then (and_then next (next_from d n cs)) (and_then found (kept_verdict P d n cs)))

  -- from an offset on: the clauses that are left, and that the verdict is theirs and what was found
  pub record Going (many : ℕ) (s : List ℕ) (at n : ℕ) (next found : Verdict) : Type 0 where
    pub rest : List Clause
    pub left : Left s at n rest
    pub same : seen many next found n rest ≡ clauses_verdict P d many (clauses_of (read_sheet s))

  pub going_start : (many : ℕ) (s : List ℕ) → rules_verdict s ≡ Accepted → Going many s 0 0 Accepted Accepted
  going_start many s e = record { rest = clauses_of (read_sheet s); left = all_left s e; same = refl }

  -- nothing more to say
  pub going_end : (many : ℕ) (s : List ℕ) (at n : ℕ) (next found : Verdict) → Going many s at n next found → length s ≤ at
      → and_then next found ≡ clauses_verdict P d many (clauses_of (read_sheet s))
  unfolding group_verdict next_verdict kept_verdict
  going_end many s at n next found g q =
      ap₂ and_then (sym (ends next) ∙ ap (and_then next) (sym (same_both (eqb d 0)))) (sym (ends found))
      ∙ ap (seen many next found n) (sym (none_left s at n g.rest g.left q)) ∙ g.same
    where
      same_both : (b : Bool) → cond b Accepted Accepted ≡ Accepted
      same_both true = refl
      same_both false = refl

  -- 16 of the first clause and then of the others; and so 17
  next_first : (n : ℕ) (c : Clause) (cs : List Clause) → next_from d n (c ∷ cs) ≡ and_then (next_of d n c) (next_from d (suc n) cs)
  unfolding next_verdict
  next_first n c cs = go (eqb d 0) (has_next c)
    where
      go : (z b : Bool)
          → cond z Accepted (cond b (AboutRules (refused 16 n 0)) (next_verdict (suc n) cs))
          ≡ and_then (cond z Accepted (cond b (AboutRules (refused 16 n 0)) Accepted)) (cond z Accepted (next_verdict (suc n) cs))
      go true b = refl
      go false true = refl
      go false false = refl

  kept_first : (n : ℕ) (c : Clause) (cs : List Clause) → kept_verdict P d n (c ∷ cs) ≡ and_then (clause_verdict P d n c) (kept_verdict P d (suc n) cs)
  unfolding kept_verdict
  kept_first n c cs = go (rules P d c 0)
    where
      go : (b : Bool) → cond b (kept_verdict P d (suc n) cs) (AboutRules (refused 17 n (failing P d c)))
          ≡ and_then (cond b Accepted (AboutRules (refused 17 n (failing P d c)))) (kept_verdict P d (suc n) cs)
      go true = refl
      go false = refl

  module _ (many : ℕ) (s before : List ℕ) (r : Part) (block : List ℕ) (at n : ℕ) (next found : Verdict) (g : Going many s at n next found)
      (l : Line s before r block n g.rest) where
    -- the first group that the clause names and the floor lacks
    abbrev lacking : List ℕ
    lacking = lacked many (groups l.clause)

    pub going_21 : (x : ℕ) → lack_verdict n lacking ≡ AboutRules (refused 21 n x)
        → AboutRules (refused 21 n x) ≡ clauses_verdict P d many (clauses_of (read_sheet s))
    unfolding group_verdict
    going_21 x e =
        sym (ap (λ (v : Verdict). and_then (and_then v (group_verdict many (suc n) l.rest)) (after (l.clause ∷ l.rest))) e)
        ∙ ap (seen many next found n) (sym l.first) ∙ g.same
      where
        after : List Clause → Verdict
        after cs = and_then (and_then next (next_from d n cs)) (and_then found (kept_verdict P d n cs))

    pub going_on : lack_verdict n lacking ≡ Accepted → (v u : Verdict) → v ≡ and_then next (next_of d n l.clause)
        → u ≡ and_then (and_then v found) (clause_verdict P d n l.clause) → Going many s r.at (n + 1) v u
    unfolding group_verdict
    going_on e v u ev eu = record {
      rest = l.rest;
      left = l.left;
      same =
          ap (λ (m : ℕ). seen many v u m l.rest) (add-one n)
          ∙ ap₂ (λ (a b : Verdict). and_then (group_verdict many (suc n) l.rest)
          (and_then (and_then a (next_from d (suc n) l.rest)) (and_then b (kept_verdict P d (suc n) l.rest))))
          ev (eu ∙ ap (λ (a : Verdict). and_then (and_then a found) (clause_verdict P d n l.clause)) ev)
          ∙ ap (and_then (group_verdict many (suc n) l.rest)) (sym all_of)
          ∙ sym (ap (λ (v : Verdict). and_then (and_then v (group_verdict many (suc n) l.rest)) (after (l.clause ∷ l.rest))) e)
          ∙ ap (seen many next found n) (sym l.first) ∙ g.same;
    }
      where
        after : List Clause → Verdict
        after cs = and_then (and_then next (next_from d n cs)) (and_then found (kept_verdict P d n cs))

        all_of : after (l.clause ∷ l.rest)
            ≡ and_then (and_then (and_then next (next_of d n l.clause)) (next_from d (suc n) l.rest))
            (and_then (and_then (and_then (and_then next (next_of d n l.clause)) found) (clause_verdict P d n l.clause)) (kept_verdict P d (suc n) l.rest))
        all_of =
            ap₂ (λ (a b : Verdict). and_then (and_then next a) (and_then found b)) (next_first n l.clause l.rest) (kept_first n l.clause l.rest)
            ∙ ap (λ (a : Verdict). and_then a (and_then found (and_then (clause_verdict P d n l.clause) (kept_verdict P d (suc n) l.rest))))
            (sym (then_then next (next_of d n l.clause) (next_from d (suc n) l.rest)))
            ∙ in_order_lem (and_then next (next_of d n l.clause)) (next_from d (suc n) l.rest) found (clause_verdict P d n l.clause)
            (kept_verdict P d (suc n) l.rest)

-- what the program finds of the groups, and the definition's verdict
pub none_lacked : (many n : ℕ) (gs : List ℕ) → first_lacked many gs ≡ 0 → lack_verdict n (lacked many gs) ≡ Accepted
unfolding first_lacked
none_lacked many n [] e = refl
none_lacked many n (g ∷ gs) e = go (ltb g many) (none_lacked many n gs) e
  where
    go : (b : Bool) → (first_lacked many gs ≡ 0 → lack_verdict n (lacked many gs) ≡ Accepted) → cond b (first_lacked many gs) (suc g) ≡ 0
        → lack_verdict n (cond b (lacked many gs) (g ∷ lacked many gs)) ≡ Accepted
    go true rest e = rest e
    go false rest e = absurd (omega arith)

pub some_lacked : (many n x : ℕ) (gs : List ℕ) → first_lacked many gs ≡ suc x → lack_verdict n (lacked many gs) ≡ AboutRules (refused 21 n x)
unfolding first_lacked
some_lacked many n x [] e = absurd (omega arith)
some_lacked many n x (g ∷ gs) e = go (ltb g many) (some_lacked many n x gs) e
  where
    go : (b : Bool) → (first_lacked many gs ≡ suc x → lack_verdict n (lacked many gs) ≡ AboutRules (refused 21 n x))
        → cond b (first_lacked many gs) (suc g) ≡ suc x → lack_verdict n (cond b (lacked many gs) (g ∷ lacked many gs)) ≡ AboutRules (refused 21 n x)
    go true rest e = rest e
    go false rest e = let z : g ≡ x = omega arith in ap (λ (k : ℕ). AboutRules (refused 21 n k)) z
