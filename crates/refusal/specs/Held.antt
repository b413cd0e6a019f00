-- Writing, by whether there is room; and a buffer to which bytes were written begins with them.
use Rattle.std.specs.Prelude.{ℕ, ◌≤◌, ◌<◌, ◌≡◌, Bool, true, false, cond, List, ◌++◌, ltb, length, take, drop}
use Rattle.std.proofs.Common.{arith, sym, ap₂, ◌∙◌, lt-ltb, le-ltb}
use Rattle.std.proofs.Math.Seq.{take-append_seam}
use Rattle.refusal.specs.Codes.{refused}
use Rattle.refusal.specs.Given.{writes, Refusals, Given}
use Rattle.refusal.specs.Outcome.{Outcome, unchanged, written, Gives}
use Rattle.refusal.specs.declared.Refusal.{Refusal}
use Rattle.refusal.specs.declared.Verdict.{Verdict}
use Rattle.refusal.specs.declared.Verdict.TheVariants.{Written, Floor, Plan}

pub gives_short : (about : Refusal → Verdict) (bytes before : List ℕ) (v : Verdict) → length before < length bytes
    → v ≡ about (refused 18 (length bytes) 0)
    → Gives (written about bytes before) v before
gives_short about bytes before v h e =
    let t = lt-ltb (length before) (length bytes) h in
    record { answer = e ∙ simp t; out = simp t }

pub gives_written : (about : Refusal → Verdict) (bytes before : List ℕ) (v : Verdict) (after : List ℕ) → length bytes ≤ length before
    → v ≡ Written (length bytes) → after ≡ bytes ++ drop (length bytes) before → Gives (written about bytes before) v after
gives_written about bytes before v after h e q =
    let t = le-ltb (length before) (length bytes) h in
    record { answer = e ∙ simp t; out = q ∙ simp t }

pub with_room : (about : Refusal → Verdict) (bytes before : List ℕ) (v : Verdict) (after : List ℕ) → Gives (written about bytes before) v after
    → length bytes ≤ length before → (v ≡ Written (length bytes)) × (after ≡ bytes ++ drop (length bytes) before)
with_room about bytes before v after g h =
    let t = le-ltb (length before) (length bytes) h in
    (g.answer ∙ simp t, g.out ∙ simp t)

pub without_room : (about : Refusal → Verdict) (bytes before : List ℕ) (v : Verdict) (after : List ℕ) → Gives (written about bytes before) v after
    → length before < length bytes → (v ≡ about (refused 18 (length bytes) 0)) × (after ≡ before)
without_room about bytes before v after g h =
    let t = lt-ltb (length before) (length bytes) h in
    (g.answer ∙ simp t, g.out ∙ simp t)

pub written_if : (about : Refusal → Verdict) (bytes before : List ℕ) (v : Verdict) (after : List ℕ) → Gives (written about bytes before) v after
    → length bytes ≤ length before → v ≡ Written (length bytes)
written_if about bytes before v after g h = (with_room about bytes before v after g h).0

-- writing is done, or refused by 18
pub given_written : (t : Refusals) (about : Refusal → Verdict) (bytes before : List ℕ) → t.done ≡ writes → Given t (about (refused 18 (length bytes) 0))
    → Given t (written about bytes before).answer
given_written t about bytes before d h = go (ltb (length before) (length bytes))
  where
    go : (b : Bool) → Given t (cond b (unchanged (about (refused 18 (length bytes) 0)) before)
        (record { answer = Written (length bytes); out = bytes ++ drop (length bytes) before })).answer
    go true = h
    go false = d

-- a refusal is no result
pub about_floor : (r : Refusal) (k : ℕ) → Floor r ≡ Written k → ⊥
about_floor r k e = let z : ◌≡◌ {A = ℕ} 0 1 = cc in omega arith

pub about_plan : (r : Refusal) (k : ℕ) → Plan r ≡ Written k → ⊥
about_plan r k e = let z : ◌≡◌ {A = ℕ} 0 1 = cc in omega arith

module _ (about : Refusal → Verdict) (apart : (r : Refusal) (k : ℕ) → about r ≡ Written k → ⊥)
    (bytes before : List ℕ) (v : Verdict) (after : List ℕ) (k : ℕ) where
  -- the outcome by whether the buffer is too short
  abbrev outcome : Bool → Outcome
  outcome b =
      cond b (unchanged (about (refused 18 (length bytes) 0)) before) (record { answer = Written (length bytes); out = bytes ++ drop (length bytes) before })

  both : Gives (written about bytes before) v after → v ≡ Written k → (k ≡ length bytes) × (take k after ≡ bytes)
  both g e = go (ltb (length before) (length bytes)) g.answer g.out
    where
      go : (b : Bool) → v ≡ (outcome b).answer → after ≡ (outcome b).out → (k ≡ length bytes) × (take k after ≡ bytes)
      go true p q = absurd (apart (refused 18 (length bytes) 0) k (sym p ∙ e))
      go false p q =
          let n : k ≡ length bytes = cc in
          (n, ap₂ take n q ∙ take-append_seam bytes (drop (length bytes) before))

  pub written-length : Gives (written about bytes before) v after → v ≡ Written k → k ≡ length bytes
  written-length g e = (both g e).0

  pub written_front : Gives (written about bytes before) v after → v ≡ Written k → take k after ≡ bytes
  written_front g e = (both g e).1
