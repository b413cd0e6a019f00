-- The first of a sheet's clauses that is refused, by 21, by 16 or by 17.
use Rattle.std.specs.Prelude.{ℕ, zero, suc, ◌+◌, ◌<◌, ◌≡◌, refl, Bool, cond, ◌⊎◌, T, length, get_or}
use Rattle.std.proofs.Common.{arith, sym, ap, ap₂, subst, ◌∙◌}
use Rattle.std.proofs.Math.Bool.{true, false}
use Rattle.std.proofs.Math.Logic.{inl, inr}
use mathlib.Core.List.{List, [], ◌∷◌}
use Rattle.refusal.specs.Codes.{refused}
use Rattle.refusal.specs.Stages.{and_then}
use Rattle.refusal.specs.declared.Refusal.{Refusal}
use Rattle.refusal.specs.declared.Verdict.{Verdict}
use Rattle.refusal.specs.declared.Verdict.TheVariants.{Accepted, Rules as AboutRules}
use Rattle.record.specs.All.{All, each}
use Rattle.grammar.specs.Grammar.{top, Clause}
use Rattle.grammar.specs.Groups.{groups}
use Rattle.cltl.specs.Meaning.{Rows}
use Rattle.cltl.specs.Rules.{rules, has_next}
use Rattle.cltl.specs.Step.{failing}
use Rattle.plancheck.specs.Check.{lacked, lack_verdict, group_verdict, next_verdict, kept_verdict}
use Rattle.plancheck.specs.Meaning.{HasGroups, FirstLacking, Plain, Kept}
use Rattle.plancheck.proofs.Lacking.{neither_less, Lacked, none, some, lacks, not_lacking, one_first}

pub not_refused : {x : Refusal} → AboutRules x ≡ Accepted → ⊥
not_refused e = let z : ◌≡◌ {A = ℕ} 0 1 = cc in omega arith

module _ (Ok Bad : Clause → Type 0) (r : ℕ → Clause → Refusal) where
  -- clause `index` of those from n on
  pub record FirstClause (n : ℕ) (cs : List Clause) (v : Verdict) : Type 0 where
    pub index : ℕ
    pub there : index < length cs
    pub bad : Bad (get_or cs index top)
    pub before : (j : ℕ) → j < index → Ok (get_or cs j top)
    pub is : v ≡ AboutRules (r (n + index) (get_or cs index top))

  module _ (verdict : ℕ → List Clause → Verdict) (none : (n : ℕ) → verdict n [] ≡ Accepted)
      (step : (n : ℕ) (c : Clause) (cs : List Clause)
      → (Bad c × (verdict n (c ∷ cs) ≡ AboutRules (r n c))) ⊎ (Ok c × (verdict n (c ∷ cs) ≡ verdict (suc n) cs))) where
    first_clause : (n : ℕ) (cs : List Clause) → (All Ok cs × (verdict n cs ≡ Accepted)) ⊎ FirstClause n cs (verdict n cs)
    first_clause n [] = inl (tt, none n)
    first_clause n (c ∷ cs) = go (step n c cs) (first_clause (suc n) cs)
      where
        go : (Bad c × (verdict n (c ∷ cs) ≡ AboutRules (r n c))) ⊎ (Ok c × (verdict n (c ∷ cs) ≡ verdict (suc n) cs))
            → (All Ok cs × (verdict (suc n) cs ≡ Accepted)) ⊎ FirstClause (suc n) cs (verdict (suc n) cs)
            → (All Ok (c ∷ cs) × (verdict n (c ∷ cs) ≡ Accepted)) ⊎ FirstClause n (c ∷ cs) (verdict n (c ∷ cs))
        go (inl b) rest =
            let z : n ≡ n + 0 = omega arith in
            inr
            (record { index = 0; there = omega arith; bad = b.0; before = λ j q. absurd (omega arith); is = b.1 ∙ ap (λ (k : ℕ). AboutRules (r k c)) z })
        go (inr o) (inl a) = inl ((o.0, a.0), o.1 ∙ a.1)
        go (inr o) (inr w) =
            let z : suc n + w.index ≡ n + suc w.index = omega arith in
            let lower : (j : ℕ) → j < suc w.index → Ok (get_or (c ∷ cs) j top) = elim [ zero ↦ λ q. o.0 | suc j ↦ λ q. w.before j (omega arith) ] in
            inr
            (record {
              index = suc w.index;
              there = let x = w.there in omega arith;
              bad = w.bad;
              before = lower;
              is = o.1 ∙ w.is ∙ ap (λ (k : ℕ). AboutRules (r k (get_or cs w.index top))) z;
            })

  -- so accepted says that all pass
  pub accepted_pass : {n : ℕ} {cs : List Clause} {v : Verdict} → (All Ok cs × (v ≡ Accepted)) ⊎ FirstClause n cs v → v ≡ Accepted → All Ok cs
  accepted_pass (inl a) e = a.0
  accepted_pass (inr w) e = absurd (not_refused (sym w.is ∙ e))

  pub pass_accepted : ((c : Clause) → Bad c → Ok c → ⊥) → {n : ℕ} {cs : List Clause} {v : Verdict}
      → (All Ok cs × (v ≡ Accepted)) ⊎ FirstClause n cs v → All Ok cs → v ≡ Accepted
  pass_accepted apart (inl a) all = a.1
  pass_accepted apart {cs = cs} (inr w) all = absurd (apart _ w.bad (each Ok top cs w.index all w.there))

  -- a clause that does not pass, with all before it passing, is the first
  pub is_first : ((c : Clause) → Bad c → Ok c → ⊥) → {n : ℕ} {cs : List Clause} {v : Verdict} → (All Ok cs × (v ≡ Accepted)) ⊎ FirstClause n cs v
      → (k : ℕ) → k < length cs → Bad (get_or cs k top) → ((j : ℕ) → j < k → Ok (get_or cs j top)) → v ≡ AboutRules (r (n + k) (get_or cs k top))
  is_first apart {cs = cs} (inl a) k l bad before = absurd (apart _ bad (each Ok top cs k a.0 l))
  is_first apart {n} {cs} (inr w) k l bad before =
      let same = neither_less w.index k (λ q. apart _ w.bad (before w.index q)) (λ q. apart _ bad (w.before k q)) in
      w.is ∙ ap (λ (j : ℕ). AboutRules (r (n + j) (get_or cs j top))) same

module _ (many : ℕ) where
  -- the first group that a clause names and the floor lacks, where there is one
  abbrev pub first_lacked : Clause → ℕ
  first_lacked c = get_or (lacked many (groups c)) 0 0

  abbrev pub Lacks : Clause → Type 0
  Lacks c = FirstLacking many (groups c) (first_lacked c)

  -- "(lowest clause, its first such group) for a group the floor lacks"
  pub first_21 : (cs : List Clause)
      → (All (HasGroups many) cs × (group_verdict many 0 cs ≡ Accepted))
      ⊎ FirstClause (HasGroups many) Lacks (λ k c. refused 21 k (first_lacked c)) 0 cs (group_verdict many 0 cs)
  unfolding group_verdict
  first_21 cs = first_clause (HasGroups many) Lacks (λ k c. refused 21 k (first_lacked c)) (group_verdict many) (λ n. refl) step 0 cs
    where
      step : (n : ℕ) (c : Clause) (cs : List Clause)
          → (Lacks c × (group_verdict many n (c ∷ cs) ≡ AboutRules (refused 21 n (first_lacked c))))
          ⊎ (HasGroups many c × (group_verdict many n (c ∷ cs) ≡ group_verdict many (suc n) cs))
      step n c cs = go (lacks many (groups c))
        where
          go : {ls : List ℕ} → Lacked many (groups c) ls
              → (FirstLacking many (groups c) (get_or ls 0 0)
              × (and_then (lack_verdict n ls) (group_verdict many (suc n) cs) ≡ AboutRules (refused 21 n (get_or ls 0 0))))
              ⊎ (HasGroups many c × (and_then (lack_verdict n ls) (group_verdict many (suc n) cs) ≡ group_verdict many (suc n) cs))
          go (none a) = inr (a, refl)
          go (some w) = inl (w, refl)

  -- whichever it is, it is told
  pub told_lacking : (cs : List Clause) (k g : ℕ) → k < length cs → FirstLacking many (groups (get_or cs k top)) g
      → ((j : ℕ) → j < k → HasGroups many (get_or cs j top)) → group_verdict many 0 cs ≡ AboutRules (refused 21 k g)
  told_lacking cs k g l w before = go (lacks many (groups (get_or cs k top))) refl
    where
      go : {ls : List ℕ} → Lacked many (groups (get_or cs k top)) ls → ls ≡ lacked many (groups (get_or cs k top))
          → group_verdict many 0 cs ≡ AboutRules (refused 21 k g)
      go (none a) e = absurd (not_lacking many w a)
      go (some {g = x} u) e =
          let found : first_lacked (get_or cs k top) ≡ g = sym (ap (λ (ls : List ℕ). get_or ls 0 0) e) ∙ one_first many u w in
          let z : 0 + k ≡ k = omega arith in
          is_first (HasGroups many) Lacks (λ k c. refused 21 k (first_lacked c)) (λ c. not_lacking many) (first_21 cs) k l
          (subst (FirstLacking many (groups (get_or cs k top))) (sym found) w) before
          ∙ ap₂ (λ (n g : ℕ). AboutRules (refused 21 n g)) z found

-- "X outside a count (lowest clause, 0)"
pub first_16 : (cs : List Clause)
    → (All Plain cs × (next_verdict 0 cs ≡ Accepted)) ⊎ FirstClause Plain (λ c. T (has_next c)) (λ k c. refused 16 k 0) 0 cs (next_verdict 0 cs)
unfolding next_verdict
first_16 cs = first_clause Plain (λ c. T (has_next c)) (λ k c. refused 16 k 0) next_verdict (λ n. refl) step 0 cs
  where
    step : (n : ℕ) (c : Clause) (cs : List Clause)
        → (T (has_next c) × (next_verdict n (c ∷ cs) ≡ AboutRules (refused 16 n 0))) ⊎ (Plain c × (next_verdict n (c ∷ cs) ≡ next_verdict (suc n) cs))
    step n c cs = go (has_next c)
      where
        go : (b : Bool) → (T b × (cond b (AboutRules (refused 16 n 0)) (next_verdict (suc n) cs) ≡ AboutRules (refused 16 n 0)))
            ⊎ ((T b → ⊥) × (cond b (AboutRules (refused 16 n 0)) (next_verdict (suc n) cs) ≡ next_verdict (suc n) cs))
        go true = inl (tt, refl)
        go false = inr (λ t. t, refl)

module _ (P : Rows) (d : ℕ) where
  -- "lowest clause not true (clause, step)"
  pub first_17 : (cs : List Clause)
      → (All (Kept P d) cs × (kept_verdict P d 0 cs ≡ Accepted))
      ⊎ FirstClause (Kept P d) (λ c. Kept P d c → ⊥) (λ k c. refused 17 k (failing P d c)) 0 cs (kept_verdict P d 0 cs)
  unfolding kept_verdict
  first_17 cs = first_clause (Kept P d) (λ c. Kept P d c → ⊥) (λ k c. refused 17 k (failing P d c)) (kept_verdict P d) (λ n. refl) step 0 cs
    where
      step : (n : ℕ) (c : Clause) (cs : List Clause)
          → ((Kept P d c → ⊥) × (kept_verdict P d n (c ∷ cs) ≡ AboutRules (refused 17 n (failing P d c))))
          ⊎ (Kept P d c × (kept_verdict P d n (c ∷ cs) ≡ kept_verdict P d (suc n) cs))
      step n c cs = go (rules P d c 0)
        where
          go : (b : Bool)
              → ((T b → ⊥) × (cond b (kept_verdict P d (suc n) cs) (AboutRules (refused 17 n (failing P d c))) ≡ AboutRules (refused 17 n (failing P d c))))
              ⊎ (T b × (cond b (kept_verdict P d (suc n) cs) (AboutRules (refused 17 n (failing P d c))) ≡ kept_verdict P d (suc n) cs))
          go true = inr (tt, refl)
          go false = inl (λ t. t, refl)
