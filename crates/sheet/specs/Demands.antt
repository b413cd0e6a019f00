-- What follows from the promise of reading a sheet alone.
use Rattle.std.specs.Prelude.{ℕ, suc, ◌<◌, ◌≡◌, refl, ◌⊎◌, ◌↔◌, List, length, take}
use Rattle.std.proofs.Common.{arith, sym, subst, ◌∙◌, inl, inr}
use Rattle.std.proofs.Math.Path.{ap}
use Rattle.refusal.specs.Codes.{at_offset}
use Rattle.refusal.specs.Given.{OneOf, sheet_numbers, Given, reading_sheet}
use Rattle.refusal.specs.declared.Refusal.{Refusal}
use Rattle.refusal.specs.declared.Verdict.{Verdict}
use Rattle.refusal.specs.declared.Verdict.TheVariants.{Accepted, Written, Floor, Plan, Rules as AboutRules}
use Rattle.grammar.specs.Grammar.{Clause, Sheet}
use Rattle.grammar.specs.Limits.{FewBytes}
use Rattle.grammar.specs.Answers.{AcceptedSheet, RefusedBy, BeginsInRange, Never, Beyond, Allowed, OutOfRange}
use Rattle.grammar.specs.Reader.{Read, accepted, refused, read_sheet}
use Rattle.sheet.specs.Rules.{read_verdict, rules_verdict}
use Rattle.sheet.specs.Promises.{RulesRead}

-- what was read, by the verdict
was_accepted : (r : Read) → read_verdict r ≡ Accepted → (cs : List Clause) × (r ≡ accepted cs)
was_accepted (accepted cs) e = (cs, refl)
was_accepted (refused w k) e = let z : ◌≡◌ {A = ℕ} 0 1 = cc in absurd (omega arith)

was_refused : (r : Read) (w k j : ℕ) → read_verdict r ≡ AboutRules (record { number = w; first = k; second = j }) → (r ≡ refused w k) × (j ≡ 0)
was_refused (accepted cs) w k j e = let z : ◌≡◌ {A = ℕ} 0 1 = cc in absurd (omega arith)
was_refused (refused v i) w k j e =
    let z : at_offset v i ≡ record { number = w; first = k; second = j } = cc in
    let x : v ≡ w = ap (λ (y : Refusal). y.number) z in
    let y : i ≡ k = ap (λ (y : Refusal). y.first) z in
    (cc, sym (ap (λ (y : Refusal). y.second) z))

module _ (s : List ℕ) (v : Verdict) (promise : RulesRead s v) where
  -- accepted: exactly the sheets of the grammar within the limits
  pub accepted_iff : (v ≡ Accepted) ↔ ((cs : List Clause) × AcceptedSheet s cs)
  unfolding rules_verdict
  accepted_iff = (
    λ e. let r = was_accepted (read_sheet s) (sym promise.answer ∙ e) in (r.0, promise.meaning.sound r.0 r.1),
    λ a. let x = a.1 in promise.answer ∙ ap read_verdict (promise.meaning.complete a.0 x.sheet x.fits x.few x.some x.short),
  )

  -- else a refusal of the sheet, by one of 12, 13, 14, 15 and 7
  pub or_refused : (v ≡ Accepted) ⊎ ((r : Refusal) × (v ≡ AboutRules r) × OneOf sheet_numbers r.number)
  or_refused = go v refl promise.numbers
    where
      go : (w : Verdict) → v ≡ w → Given reading_sheet w → (v ≡ Accepted) ⊎ ((r : Refusal) × (v ≡ AboutRules r) × OneOf sheet_numbers r.number)
      go Accepted e g = inl e
      go (Written n) e g = let y : ◌≡◌ {A = ℕ} 0 1 = cc in absurd (omega arith)
      go (Floor r) e g = absurd g
      go (Plan r) e g = absurd g
      go (AboutRules r) e g = inr (r, e, g)

  -- 12 whatever else stands in a sheet that is too long
  pub long_12 : (FewBytes s → ⊥) → v ≡ AboutRules (at_offset 12 0)
  unfolding rules_verdict
  long_12 h = promise.answer ∙ ap read_verdict (promise.meaning.long_12 h)

  -- What each refusal means: number w, an offset k, and 0.
  module _ (w k j : ℕ) (about : v ≡ AboutRules (record { number = w; first = k; second = j })) where
    read_as : (read_sheet s ≡ refused w k) × (j ≡ 0)
    unfolding rules_verdict
    read_as = was_refused (read_sheet s) w k j (sym promise.answer ∙ about)

    read_by : (n : ℕ) → w ≡ n → read_sheet s ≡ refused n k
    read_by n e = subst (λ (x : ℕ). read_sheet s ≡ refused x k) e read_as.0

    pub offset_and_0 : j ≡ 0
    offset_and_0 = read_as.1

    -- 12 is for a sheet that is too long, and 7 for an empty one, both at offset 0
    pub refused_by : RefusedBy s w k
    refused_by = promise.meaning.codes w k read_as.0

    -- "13 the first byte that no sheet of the grammar could have after the bytes before it, or the length if it ends early"
    pub number_13 : w ≡ 13 → BeginsInRange (take k s) × (k < length s → Never (take (suc k) s)) × ((cs : List Clause) → Sheet s cs → ⊥)
    number_13 e =
        let b = promise.meaning.before w k (inl e) read_as.0 in
        let m = promise.meaning.stuck_13 k (read_by 13 e) in
        (b.1, m.0, m.1)

    -- "14 a token past a limit, or the first byte of the 33rd line": with it every sheet is past a limit
    pub number_14 : w ≡ 14 → BeginsInRange (take k s) × (Allowed s k ⊎ ((cs : List Clause) × Sheet (take k s) cs × (length cs ≡ 32))) × Beyond (take (suc k) s)
    number_14 e =
        let b = promise.meaning.before w k (inr (inl e)) read_as.0 in
        (b.1, promise.meaning.token_14 k (read_by 14 e), (promise.meaning.over_14 k (read_by 14 e)).1)

    -- "15 the first byte of a number out of range, in a mark its first digit"
    pub number_15 : w ≡ 15 → BeginsInRange (take k s) × OutOfRange s k
    number_15 e =
        let b = promise.meaning.before w k (inr (inr e)) read_as.0 in
        (b.1, promise.meaning.number_15 k (read_by 15 e))
