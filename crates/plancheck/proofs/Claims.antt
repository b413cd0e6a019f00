-- The check keeps its promises.
use Rattle.std.specs.Prelude.{ℕ, ◌≤◌, ◌≡◌, refl, ◌↔◌, List, T}
use Rattle.std.proofs.Common.{arith, sym, ap, subst, subst₂, ◌∙◌, inl, inr, ⊎_elim}
use Rattle.endian.specs.Little.{bytes, Bytes}
use Rattle.refusal.specs.Codes.{refused}
use Rattle.refusal.specs.declared.Verdict.{Verdict}
use Rattle.refusal.specs.declared.Verdict.TheVariants.{Accepted, Plan as AboutPlan, Rules as AboutRules}
use Rattle.record.specs.All.{All, all_map, all_both}
use Rattle.record.specs.Record.{encoded, layout}
use Rattle.record.specs.Buffer.{stored}
use Rattle.floor.specs.Located.{accepts}
use Rattle.floor.specs.declared.Floor.{Floor}
use Rattle.plan.specs.Plan.{PlanNumbers, read_plan}
use Rattle.plan.specs.Plan as plan
use Rattle.plan.specs.Valid.{ValidPlan}
use Rattle.plan.specs.Numbers.{plan_file}
use Rattle.plan.specs.After.{ReadAs}
use Rattle.plan.specs.Complete.{file_reads}
use Rattle.plan.specs.RoundTrip.{valid, bytes_back}
use Rattle.moves.specs.Promises.{Moving}
use Rattle.moves.specs.Demands.{read_once}
use Rattle.conflict.specs.Meaning.{Earliest}
use Rattle.conflict.specs.OfPlan.{plan_routes}
use Rattle.conflict.proofs.Smaller.{smaller as less-conflicts}
use Rattle.grammar.specs.Grammar.{Clause}
use Rattle.grammar.specs.Answers.{AcceptedSheet}
use Rattle.cltl.specs.Meaning.{Rows, Run, TrueOf, TrueInStep}
use Rattle.cltl.specs.Rules.{rules}
use Rattle.cltl.proofs.Promises as cltl
use Rattle.plancheck.specs.Check.{plan_rows, checked}
use Rattle.plancheck.specs.Meaning.{drifted, Plain, Kept, Conflict20, Lacks21, ReadAndOpen}
use Rattle.plancheck.specs.Promises.{Means, PlanChecked}
use Rattle.plancheck.proofs.FirstClause.{told_lacking}
use Rattle.plancheck.proofs.Stages.{same_clauses, proper, on_routes, accepted_as, as_accepted, as_20, as_21, accepted_read_lem}
use Rattle.plancheck.proofs.Refusing.{Meant, meant, given, is_plan, is_20, is_21, is_16, is_17, is_clause, is_sheet}

drifted_file : (p : PlanNumbers) (d : ℕ) → stored (plan_file p) 8 (bytes 2 d) ≡ plan_file (drifted p d)
unfolding layout encoded bytes
drifted_file p d = refl

-- the same of whatever says as much
pub means_as : (floor s sheet : List ℕ) {yes yes' : Type 0} → yes ↔ yes' → Means floor s sheet yes → Means floor s sheet yes'
means_as floor s sheet same w = record {
  in_step = λ f p files none. let x = w.in_step f p files none in (λ y. x.0 (same.1 y), λ a. same.0 (x.1 a));
  kept = λ f p cs a. let x = w.kept f p cs a in (λ y. x.0 (same.1 y), λ k. same.0 (x.1 k));
  runs = λ y. w.runs (same.1 y);
  conflict_free = λ y. w.conflict_free (same.1 y);
  smaller = λ y. w.smaller (same.1 y);
  readable = λ y. w.readable (same.1 y);
}

module _ (floor s sheet : List ℕ) (fb : Bytes floor) (pb : Bytes s) where
  module _ (f : Floor) (p : PlanNumbers) (files : ReadAs floor s f p) (yes : checked floor s sheet ≡ Accepted) where
    all_kept : (cs : List Clause) → AcceptedSheet sheet cs → All (Kept (plan_rows floor f p) p.head.drift) cs
    all_kept cs e =
        let a = accepted_as floor s sheet f p files yes in
        subst (All (Kept (plan_rows floor f p) p.head.drift)) (same_clauses sheet a.0 cs a.1.readable.clauses e) a.2

    in_runs : (cs : List Clause) → ReadAndOpen floor s sheet f p cs → All Plain cs → (r : Run f.carts p.head.drift)
        → All (TrueOf (plan_rows floor f p) r) cs
    in_runs cs w plain r =
        let P : Rows = plan_rows floor f p in
        all_both (λ c n k. cltl.runs P (proper floor s fb f p files) p.head.drift c n k r) cs plain (all_kept cs w.clauses)

    drifted_read : (d : ℕ) → d ≤ p.head.drift → ReadAs floor (stored s 8 (bytes 2 d)) f (drifted p d)
    drifted_read d less =
        let v = valid f s p files.plan_read_lem in
        let v' : ValidPlan (drifted p d) f =
        record {
          head = record { some = v.head.some; steps = v.head.steps; stem = v.head.stem; drift = let x = v.head.drift in omega arith };
          carts
              = v.carts;
          steps = v.steps;
          places = v.places;
        } in
        let e : plan_file (drifted p d) ≡ stored s 8 (bytes 2 d) =
        sym (drifted_file p d) ∙ ap (λ (x : List ℕ). stored x 8 (bytes 2 d)) (bytes_back f s p pb files.plan_read_lem) in
        record {
          floor_read = files.floor_read;
          plan_read_lem =
              subst (λ (x : List ℕ). read_plan f x ≡ plan.accepted (drifted p d)) e
              (file_reads f (drifted p d) (accepts floor f fb files.floor_read).valid.few_carts v');
        }

    less_drift : (d : ℕ) → d ≤ p.head.drift → checked floor (stored s 8 (bytes 2 d)) sheet ≡ Accepted
    less_drift d less =
        let a = accepted_as floor s sheet f p files yes in
        let w = a.1.readable in
        as_accepted floor (stored s 8 (bytes 2 d)) sheet f (drifted p d) a.0
        (record {
          readable = record { files = drifted_read d less; moves = w.moves; clauses = w.clauses };
          no_20 = less-conflicts (plan_routes floor f p) p.head.drift d a.1.no_20 less;
          no_21 = a.1.no_21;
          no_16 = ⊎_elim (λ z. inl (omega arith))
              (λ x. inr x) a.1.no_16;
        })
        (all_map (λ c k. cltl.smaller (plan_rows floor f p) (proper floor s fb f p files) p.head.drift d less c 0 k) a.0 a.2)

  module _ (f : Floor) (p : PlanNumbers) (files : ReadAs floor s f p) (none : p.head.drift ≡ 0) where
    step_kept : (c : Clause) → TrueInStep (plan_rows floor f p) c → Kept (plan_rows floor f p) p.head.drift c
    step_kept c t = subst (λ (d : ℕ). T (rules (plan_rows floor f p) d c 0)) (sym none) ((cltl.in_step (plan_rows floor f p) (proper floor s fb f p files) c).1 t)

    kept_step : (c : Clause) → Kept (plan_rows floor f p) p.head.drift c → TrueInStep (plan_rows floor f p) c
    kept_step c k = (cltl.in_step (plan_rows floor f p) (proper floor s fb f p files) c).0 (subst (λ (d : ℕ). T (rules (plan_rows floor f p) d c 0)) none k)

  means : Means floor s sheet (checked floor s sheet ≡ Accepted)
  means = record {
    in_step = λ f p files none. (
      λ yes. let a = accepted_as floor s sheet f p files yes in
          (a.0, a.1.readable, a.1.no_20, a.1.no_21, all_map (kept_step f p files none) a.0 a.2),
      λ w. as_accepted floor s sheet f p w.0 (record { readable = w.1; no_20 = w.2; no_21 = w.3; no_16 = inl none })
          (all_map (step_kept f p files none) w.0 w.4),
    );
    kept = λ f p cs a. (λ yes. all_kept f p a.readable.files yes cs a.readable.clauses, λ k. as_accepted floor s sheet f p cs a k);
    runs = λ yes f p cs w plain r. in_runs f p w.files yes cs w plain r;
    conflict_free = λ yes f p files. (accepted_as floor s sheet f p files yes).1.no_20;
    smaller = λ yes f p files d less. (drifted_read f p files yes d less, less_drift f p files yes d less);
    readable =
        λ yes. let w = accepted_read_lem floor s sheet yes in let a = accepted_as floor s sheet w.0 w.1 w.2 yes in
        (w.0, w.1, a.0, a.1);
  }

  -- 20 is told where its conflict is
  told_20 : (c k : ℕ) → Conflict20 floor s c k → checked floor s sheet ≡ AboutPlan (refused 20 c k)
  told_20 c k w =
      let x = w.moving in
      as_20 floor s sheet x.floor_is x.numbers x.read x.unending c k
      (((on_routes floor s sheet x.floor_is x.numbers x.read).told c k).1 w.earliest)

  -- and of one reading of floor and plan it is that of another
  moved_20 : (x : Moving floor s) (c k : ℕ) → Conflict20 floor s c k
      → Earliest (plan_routes floor x.floor_is x.numbers) x.numbers.head.drift c k
  moved_20 x c k w =
      let y = w.moving in
      let q = read_once floor s y.floor_is x.floor_is y.numbers x.numbers y.read x.read in
      subst₂ (λ (f : Floor) (p : PlanNumbers). Earliest (plan_routes floor f p) p.head.drift c k) q.0 q.1 w.earliest

  -- 21 is told where its clause and its group are
  told_21 : (k g : ℕ) → Lacks21 floor s sheet k g → checked floor s sheet ≡ AboutRules (refused 21 k g)
  told_21 k g w =
      as_21 floor s sheet w.floor_is w.numbers w.clauses w.readable w.no_20 k g
      (told_lacking w.floor_is.groups w.clauses k g w.there w.first w.before)

  pub claims : (v : Verdict) → v ≡ checked floor s sheet → PlanChecked floor s sheet v
  claims v e =
      let m = subst (Meant floor s sheet) (sym e) (meant floor s sheet fb) in
      record {
        verdict = e;
        numbers = given floor s sheet v m;
        means = means_as floor s sheet (λ yes. e ∙ yes, λ yes. sym e ∙ yes) means;
        conflict_20 = λ c k. (λ q. is_20 floor s sheet c k (subst (Meant floor s sheet) q m), λ w. e ∙ told_20 c k w);
        exists_20 = λ x. let j = on_routes floor s sheet x.floor_is x.numbers x.read in (
          λ w. let t = is_20 floor s sheet w.0 w.1 (subst (Meant floor s sheet) w.2 m) in
              j.exists.0 (w.0, w.1, (j.told w.0 w.1).1 (moved_20 x w.0 w.1 t)),
          λ w. let t = j.exists.1 w in (t.0, t.1, e ∙ as_20 floor s sheet x.floor_is x.numbers x.read x.unending t.0 t.1 t.2),
        );
        lacks_21 = λ k g. (λ q. is_21 floor s sheet k g (subst (Meant floor s sheet) q m), λ w. e ∙ told_21 k g w);
        next_16 = λ k x q. is_16 floor s sheet k x (subst (Meant floor s sheet) q m);
        fails_17 = λ k x q. is_17 floor s sheet k x (subst (Meant floor s sheet) q m);
        names_clause_lem = λ x q o. is_clause floor s sheet x o (subst (Meant floor s sheet) q m);
        floor_refused = λ x q. subst (Meant floor s sheet) q m;
        plan_refused = λ x q n20. is_plan floor s sheet x n20 (subst (Meant floor s sheet) q m);
        sheet_refused = λ x q n. is_sheet floor s sheet x n (subst (Meant floor s sheet) q m);
      }
