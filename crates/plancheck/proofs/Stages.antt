-- What is accepted, stage by stage.
use Rattle.std.specs.Prelude.{ℕ, ◌<◌, refl, Bool, true, false, cond, ◌⊎◌, eqb}
use Rattle.std.proofs.Common.{arith, sym, ◌∙◌, inl, inr, eq-eqb, eqb-true}
use Rattle.std.proofs.Math.Path.{◌≡◌, ap, ap₂}
use mathlib.Core.List.{List}
use Rattle.endian.specs.Little.{Bytes}
use Rattle.refusal.specs.Results.{told}
use Rattle.refusal.specs.Codes.{refused}
use Rattle.refusal.specs.Stages.{is_accepted, and_then}
use Rattle.refusal.specs.Accepting.{both_accepted, stops, goes_on}
use Rattle.refusal.specs.declared.Verdict.{Verdict}
use Rattle.refusal.specs.declared.Verdict.TheVariants.{Accepted, Plan as AboutPlan, Rules as AboutRules}
use Rattle.record.specs.All.{All}
use Rattle.floor.specs.Located.{accepts}
use Rattle.floor.specs.declared.Floor.{Floor}
use Rattle.plan.specs.Plan.{PlanNumbers}
use Rattle.plan.specs.After.{ReadAs}
use Rattle.plan.specs.Read.{ReadingCases, floor_refused, plan_refused, both_read, reading_cases, read_on_lem}
use Rattle.plan.specs.RoundTrip.{valid}
use Rattle.moves.specs.Carts.{moves_verdict}
use Rattle.moves.specs.Promises.{AllUnending}
use Rattle.moves.specs.Unending.{all_unending, all_accepted}
use Rattle.conflict.specs.OfPlan.{plan_routes, conflict_verdict, ConflictFree}
use Rattle.conflict.specs.Promises.{Judged}
use Rattle.conflict.proofs.JudgingLaws.{judged as conflict-judged}
use Rattle.grammar.specs.Grammar.{Clause}
use Rattle.grammar.specs.Reader.{Read, accepted, read_sheet}
use Rattle.grammar.specs.Reader as reader
use Rattle.grammar.specs.Answers.{AcceptedSheet}
use Rattle.grammar.proofs.Promised.{promises}
use Rattle.sheet.specs.Rules.{read_verdict, rules_verdict}
use Rattle.cltl.specs.Meaning.{Rows, Proper}
use Rattle.plancheck.specs.Check.{plan_rows, clauses_of, group_verdict, next_verdict, kept_verdict, clauses_verdict, stages, checked}
use Rattle.plancheck.specs.Meaning.{HasGroups, Plain, Kept, ReadAndOpen, NoneAhead}
use Rattle.plancheck.proofs.Lacking.{not_lacking}
use Rattle.plancheck.proofs.FirstClause.{not_refused, accepted_pass, pass_accepted, first_21, first_16, first_17}

module _ (P : Rows) (d : ℕ) where
  -- no refusal 16
  abbrev pub No16 : List Clause → Type 0
  No16 cs = (d ≡ 0) ⊎ All Plain cs

  is_no_16 : (cs : List Clause) → cond (eqb d 0) Accepted (next_verdict 0 cs) ≡ Accepted → No16 cs
  is_no_16 cs e = go (eqb d 0) refl e
    where
      go : (b : Bool) → eqb d 0 ≡ b → cond b Accepted (next_verdict 0 cs) ≡ Accepted → No16 cs
      go true q e = inl (eqb-true d 0 q)
      go false q e = inr (accepted_pass Plain _ _ (first_16 cs) e)

  no_16_is : (cs : List Clause) → No16 cs → cond (eqb d 0) Accepted (next_verdict 0 cs) ≡ Accepted
  no_16_is cs (inl z) = ap (λ (b : Bool). cond b Accepted (next_verdict 0 cs)) (eq-eqb d 0 z)
  no_16_is cs (inr a) = go (eqb d 0)
    where
      go : (b : Bool) → cond b Accepted (next_verdict 0 cs) ≡ Accepted
      go true = refl
      go false = pass_accepted Plain _ _ (λ c t plain. plain t) (first_16 cs) a

  module _ (many : ℕ) (cs : List Clause) where
    pub clauses_accepted : clauses_verdict P d many cs ≡ Accepted → All (HasGroups many) cs × No16 cs × All (Kept P d) cs
    clauses_accepted e =
        let g = both_accepted (group_verdict many 0 cs) _ e in
        let r = both_accepted _ (kept_verdict P d 0 cs) g.1 in
        (accepted_pass (HasGroups many) _ _ (first_21 many cs) g.0, is_no_16 cs r.0, accepted_pass (Kept P d) _ _ (first_17 P d cs) r.1)

    pub accepted_clauses : All (HasGroups many) cs → No16 cs → All (Kept P d) cs → clauses_verdict P d many cs ≡ Accepted
    accepted_clauses has s a =
        ap₂ (λ (u v : Verdict). and_then u (and_then v (kept_verdict P d 0 cs)))
        (pass_accepted (HasGroups many) _ _ (λ c. not_lacking many) (first_21 many cs) has) (no_16_is cs s)
        ∙ pass_accepted (Kept P d) _ _ (λ c n k. n k) (first_17 P d cs) a

-- a sheet of the grammar within the limits is what the reader accepts
pub grammar_read : (s : List ℕ) (cs : List Clause) → AcceptedSheet s cs → read_sheet s ≡ accepted cs
grammar_read s cs a = (promises s).complete cs a.sheet a.fits a.few a.some a.short

pub same_clauses : (s : List ℕ) (cs ds : List Clause) → AcceptedSheet s cs → AcceptedSheet s ds → cs ≡ ds
same_clauses s cs ds a b = ap clauses_of (sym (grammar_read s cs a) ∙ grammar_read s ds b)

pub sheet_read : (r : Read) → read_verdict r ≡ Accepted → r ≡ accepted (clauses_of r)
sheet_read (reader.accepted cs) e = refl
sheet_read (reader.refused w k) e = absurd (not_refused e)

pub proper : (floor plan : List ℕ) → Bytes floor → (f : Floor) (p : PlanNumbers) → ReadAs floor plan f p → Proper (plan_rows floor f p)
proper floor plan fb f p files =
    record { some = (accepts floor f fb files.floor_read).valid.some_cart; lap = (valid f plan p files.plan_read_lem).head.stem }

module _ (floor plan sheet : List ℕ) where
  abbrev K : Floor → PlanNumbers → Clause → Type 0
  K f p = Kept (plan_rows floor f p) p.head.drift

  module _ (f : Floor) (p : PlanNumbers) (files : ReadAs floor plan f p) where
    stem_low : p.head.stem < p.head.steps
    stem_low = (valid f plan p files.plan_read_lem).head.stem

    -- the verdict on narrow places has what is claimed of it
    pub on_routes : Judged (plan_routes floor f p) p.head.drift (conflict_verdict floor f p)
    on_routes = conflict-judged (plan_routes floor f p) p.head.drift (conflict_verdict floor f p) stem_low refl

    stages_accepted : stages floor sheet f p ≡ Accepted → (cs : List Clause) × NoneAhead floor plan sheet f p cs × All (K f p) cs
    unfolding rules_verdict
    stages_accepted e =
        let m = both_accepted (moves_verdict floor f p) _ e in
        let n = both_accepted (conflict_verdict floor f p) _ m.1 in
        let r = both_accepted (rules_verdict sheet) _ n.1 in
        let k = clauses_accepted (plan_rows floor f p) p.head.drift f.groups (clauses_of (read_sheet sheet)) r.1 in
        let cs = (promises sheet).sound _ (sheet_read (read_sheet sheet) r.0) in (
          clauses_of (read_sheet sheet),
          record {
            readable = record { files = files; moves = all_unending floor p stem_low f m.0; clauses = cs };
            no_20 = on_routes.free.0 n.0;
            no_21 = k.0;
            no_16 = k.1;
          },
          k.2,
        )

  -- what can be read, without a conflict, has the verdict of its clauses
  on_clauses : (f : Floor) (p : PlanNumbers) (cs : List Clause) → ReadAndOpen floor plan sheet f p cs → ConflictFree floor f p
      → stages floor sheet f p ≡ clauses_verdict (plan_rows floor f p) p.head.drift f.groups cs
  unfolding rules_verdict
  on_clauses f p cs w free =
      let rest : List Clause → Verdict = clauses_verdict (plan_rows floor f p) p.head.drift f.groups in
      let m = all_accepted floor p (stem_low f p w.files) f w.moves in
      let n = (on_routes f p w.files).free.1 free in
      ap₂ (λ (v u : Verdict). and_then v (and_then u (and_then (rules_verdict sheet) (rest (clauses_of (read_sheet sheet)))))) m n
      ∙ ap (λ (r : Read). and_then (read_verdict r) (rest (clauses_of r))) (grammar_read sheet cs w.clauses)

  pub stages_read : (f : Floor) (p : PlanNumbers) → ReadAs floor plan f p → checked floor plan sheet ≡ stages floor sheet f p
  unfolding checked
  stages_read f p files = read_on_lem told (stages floor sheet) floor plan f p files

  -- with floor and plan read as these
  pub accepted_as : (f : Floor) (p : PlanNumbers) → ReadAs floor plan f p → checked floor plan sheet ≡ Accepted
      → (cs : List Clause) × NoneAhead floor plan sheet f p cs × All (K f p) cs
  accepted_as f p files e = stages_accepted f p files (sym (stages_read f p files) ∙ e)

  pub as_accepted : (f : Floor) (p : PlanNumbers) (cs : List Clause) → NoneAhead floor plan sheet f p cs → All (K f p) cs → checked floor plan sheet ≡ Accepted
  as_accepted f p cs a k =
      stages_read f p a.readable.files ∙ on_clauses f p cs a.readable a.no_20
      ∙ accepted_clauses (plan_rows floor f p) p.head.drift f.groups cs a.no_21 a.no_16 k

  -- what is accepted could be read
  pub accepted_read_lem : checked floor plan sheet ≡ Accepted → (f : Floor) × (p : PlanNumbers) × ReadAs floor plan f p
  unfolding checked
  accepted_read_lem e = go (reading_cases told (stages floor sheet) floor plan)
    where
      go : ReadingCases told (stages floor sheet) floor plan → (f : Floor) × (p : PlanNumbers) × ReadAs floor plan f p
      go (floor_refused x q) = let z : ◌≡◌ {A = ℕ} 0 1 = cc in absurd (omega arith)
      go (plan_refused x q) = let z : ◌≡◌ {A = ℕ} 0 1 = cc in absurd (omega arith)
      go (both_read f n w r) = (f, n, w)

  -- 20, where the moves are open without end
  pub as_20 : (f : Floor) (p : PlanNumbers) → ReadAs floor plan f p → AllUnending floor f p → (c k : ℕ) → conflict_verdict floor f p ≡ AboutPlan (refused 20 c k)
      → checked floor plan sheet ≡ AboutPlan (refused 20 c k)
  as_20 f p files u c k e =
      let m = all_accepted floor p (stem_low f p files) f u in
      stages_read f p files
      ∙ ap₂ (λ (v w : Verdict).
      and_then v (and_then w (and_then (rules_verdict sheet) (clauses_verdict (plan_rows floor f p) p.head.drift f.groups (clauses_of (read_sheet sheet)))))) m e

  -- 21, where nothing is refused before
  pub as_21 : (f : Floor) (p : PlanNumbers) (cs : List Clause) → ReadAndOpen floor plan sheet f p cs → ConflictFree floor f p → (k g : ℕ)
      → group_verdict f.groups 0 cs ≡ AboutRules (refused 21 k g) → checked floor plan sheet ≡ AboutRules (refused 21 k g)
  as_21 f p cs w free k g e =
      let P = plan_rows floor f p in
      let d = p.head.drift in
      stages_read f p w.files ∙ on_clauses f p cs w free
      ∙ ap (λ (v : Verdict). and_then v (and_then (cond (eqb d 0) Accepted (next_verdict 0 cs)) (kept_verdict P d 0 cs))) e

---- The stages one after the other, each by its own verdict.
module _ (floor sheet : List ℕ) (f : Floor) (p : PlanNumbers) (m : Verdict) (em : m ≡ moves_verdict floor f p) where
  abbrev Clauses : Verdict
  Clauses = clauses_verdict (plan_rows floor f p) p.head.drift f.groups (clauses_of (read_sheet sheet))

  abbrev Rest : Verdict → Verdict
  Rest v = and_then v Clauses

  abbrev From20 : Verdict → Verdict
  From20 v = and_then v (Rest (rules_verdict sheet))

  pub stage_moves : is_accepted m ≡ false → m ≡ stages floor sheet f p
  stage_moves e = sym (stops m (From20 (conflict_verdict floor f p)) e) ∙ ap (λ (v : Verdict). and_then v (From20 (conflict_verdict floor f p))) em

  module _ (moved : is_accepted m ≡ true) (n : Verdict) (en : n ≡ conflict_verdict floor f p) where
    moved_on : From20 n ≡ stages floor sheet f p
    moved_on =
        ap From20 en ∙ sym (goes_on m (From20 (conflict_verdict floor f p)) moved) ∙ ap (λ (v : Verdict). and_then v (From20 (conflict_verdict floor f p))) em

    pub stage_conflict : is_accepted n ≡ false → n ≡ stages floor sheet f p
    stage_conflict e = sym (stops n (Rest (rules_verdict sheet)) e) ∙ moved_on

    module _ (clear : is_accepted n ≡ true) (r : Verdict) (er : r ≡ rules_verdict sheet) where
      went_on : Rest r ≡ stages floor sheet f p
      went_on = ap Rest er ∙ sym (goes_on n (Rest (rules_verdict sheet)) clear) ∙ moved_on

      pub stage_sheet : is_accepted r ≡ false → r ≡ stages floor sheet f p
      stage_sheet e = sym (stops r Clauses e) ∙ went_on

      pub stage_clauses : is_accepted r ≡ true → (v : Verdict) → v ≡ Clauses → v ≡ stages floor sheet f p
      stage_clauses e v ev = ev ∙ sym (goes_on r Clauses e) ∙ went_on
