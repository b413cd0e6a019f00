-- Carts in order: what holds before each turn, and what the answer is of.
use Prim.Native.Nat.{ℕ, ◌+◌, ◌*◌, ◌≤◌, ◌<◌}
use native.Mathlib.Omega.{arith}
use mathlib.Core.Path.{◌≡◌, refl, sym, ap, subst, ◌∙◌}
use mathlib.Core.Bool.{Bool, true, false}
use mathlib.Core.List.{List, []}
use mathlib.Core.Logic.{inl, inr}
use lib.ListN.{get_or}
use lib.Seq.{get_or-take, get_or-drop}
use Rattle.refusal.specs.Stages.{is_accepted}
use Rattle.refusal.specs.Accepting.{refused_stops}
use Rattle.refusal.specs.Results.{told as told_of, checked}
use Rattle.refusal.specs.declared.Refused.{Refused}
use Rattle.refusal.specs.declared.Verdict.{Verdict}
use Rattle.refusal.specs.declared.Verdict.TheVariants.{Accepted}
use Rattle.row.specs.Round.{step_below}
use Rattle.plan.specs.Plan.{held_numbers}
use Rattle.plan.specs.Read.{row_in}
use Rattle.plan.specs.declared.Head.{Head}
use Rattle.conflict.specs.Meaning.{Routes}
use Rattle.conflict.specs.Search.{narrow_verdict}
use Rattle.conflict.proofs.Cleared.{apart}
use Rattle.conflict.proofs.Outcomes.{Told, Outcome, same_outcome}
use Rattle.conflict.proofs.Found.{found}
use Rattle.conflict.specs.Table.{flag, block_place, table_routes, held_routes, Flags}
use Rattle.conflict.specs.Above.{FirstMet, verdict_of}
use Rattle.conflict.proofs.Lowest.{FreeBelow, all_free, next_free, told}
use Rattle.conflict.proofs.Agree.{outcome_as}
use Rattle.std.specs.Prelude.{Option, Some, None, Result, Ok, Err}

-- no cart below c is in a conflict
pub record Judging (P : Routes) (d c : ℕ) : Type 0 where
  pub lap : P.l < P.h
  pub within : c ≤ P.carts
  pub free : FreeBelow P d c

pub begun : (P : Routes) (d : ℕ) → P.l < P.h → Judging P d 0
begun P d lap = record { lap = lap; within = omega arith; free = λ i v p. absurd (omega arith) }

module _ {P : Routes} {d c : ℕ} (w : Judging P d c) where
  -- the step of a meeting is one of the plan's
  pub on_step : (m : Option ℕ) (s : ℕ) → FirstMet P d c m → m ≡ Some s → s < P.h
  on_step m s f e =
      let x = subst (FirstMet P d c) e f in
      subst (λ (n : ℕ). n < P.h) (sym x.step) (step_below P.h P.l w.lap x.counter)

  refused_by : (m : Option ℕ) → FirstMet P d c m → is_accepted (verdict_of c m) ≡ false → Told P d (verdict_of c m)
  refused_by None f e = absurd (apart true refl e)
  refused_by (Some s) f e = told P d w.lap c w.free s f

  passed_by : (m : Option ℕ) → FirstMet P d c m → is_accepted (verdict_of c m) ≡ true → FreeBelow P d (c + 1)
  passed_by None f e = next_free P d w.lap c w.free f
  passed_by (Some s) f e = absurd (apart false e refl)

  -- the cart judged, by what is told of it
  module _ (m : Option ℕ) {r : Result (Unit {0}) Refused} (f : FirstMet P d c m) (e : checked r ≡ verdict_of c m) where
    pub refused : (x : Refused) → r ≡ Err x → Outcome P d (told_of x)
    refused x q =
        let v : told_of x ≡ verdict_of c m = ap checked (sym q) ∙ e in
        inr (subst (Told P d) (sym v) (refused_by m f (ap is_accepted (sym v) ∙ refused_stops x)))

    pub onward : r ≡ Ok tt → c < P.carts → Judging P d (c + 1)
    onward q more = record { lap = w.lap; within = omega arith; free = passed_by m f (ap is_accepted (sym e ∙ ap checked q)) }

  pub accepted : P.carts ≤ c → Outcome P d Accepted
  accepted p = let e : c ≡ P.carts = omega (arith, w.within) in inl (all_free P d (subst (FreeBelow P d) e w.free), refl)

module _ (bays : List ℕ) (carts : ℕ) (h : Head) (block : List ℕ) (bytes : (i : ℕ) → get_or block i 0 < 256) (lap : h.stem < h.steps) where
  -- a place in the block is that of the plan's row
  in_row : (i s : ℕ) → i < carts → s < h.steps → block_place block i s ≡ get_or (get_or (held_numbers carts h block).rows i []) s 0
  in_row i s p q =
      sym (ap (λ (x : List ℕ). get_or x s 0) (row_in carts h.steps block i p) ∙ get_or-take h.steps _ s 0 q ∙ get_or-drop (64 * i) block s 0)

  pub answered : (v : Verdict) → Outcome (table_routes bays carts h block) h.drift v → (narrow : ℕ → Bool) → Flags bays narrow
      → v ≡ narrow_verdict (held_routes narrow carts h block) h.drift
  answered v o narrow marks =
      let place : ℕ → ℕ → ℕ = λ i s. get_or (get_or (held_numbers carts h block).rows i []) s 0 in
      same_outcome (held_routes narrow carts h block) h.drift v (narrow_verdict (held_routes narrow carts h block) h.drift)
      (outcome_as carts h.steps h.stem h.drift lap (block_place block) (flag bays) place narrow
      (λ i s p q. (in_row i s p q, marks (block_place block i s) (bytes (64 * i + s)) ∙ ap narrow (in_row i s p q))) v o)
      (found (held_routes narrow carts h block) lap h.drift)
