use Rattle.std.specs.Prelude.{Result, Ok, Err}
use Rattle.std.proofs.Common.{rules, ap}
use Rattle.refusal.specs.Results.{wrote}
use Rattle.refusal.specs.declared.Refused.{Refused}
use Rattle.refusal.specs.declared.Refused.TheVariants.{Floor as RefusedFloor}
use Prim.Native.Nat.{ℕ}
use native.Mathlib.Omega.{arith}
use mathlib.Core.Path.{◌≡◌, refl, sym, subst, ◌∙◌}
use mathlib.Core.List.{List}
use Rattle.refusal.specs.Outcome.{Gives}
use Rattle.refusal.specs.declared.Verdict.{Verdict}
use Rattle.floor.specs.Floor.{read_floor}
use Rattle.floor.specs.Numbers.{FloorNumbers, Words, floor_bytes, by_reading, write_floor}
use Rattle.floor.specs.Complete.{complete}
use Rattle.floor.specs.Promises.{FloorWritten}
use Rattle.floor.specs.Refusing.{writing_given}
use Rattle.refusal.specs.Given.{Given, writing_floor}
use Rattle.floor.specs.RoundTrip.{whole, reads_back}
use Rattle.floor.proofs.writing.write.Goals as goal
use Rattle.floor.specs.declared.Floor.{Floor}
use Rattle.refusal.specs.declared.Refusal.{Refusal}

promise : (n : FloorNumbers) (before : List ℕ) (v : Verdict) (after : List ℕ) → Words n.places → Words n.groups
    → (a : Result Floor Refusal) → read_floor (floor_bytes n) ≡ a
    → Gives (by_reading a (floor_bytes n) before) v after → FloorWritten n before v after
unfolding write_floor
promise n before v after w u a e g =
    let o : Gives (write_floor n before) v after = subst (λ (x : Result Floor Refusal). Gives (by_reading x (floor_bytes n) before) v after) (sym e) g in
    record {
      outcome = o;
      numbers = subst (Given writing_floor) (sym o.answer) (writing_given n before);
      complete = λ f q. subst (λ (x : Result Floor Refusal). Gives (by_reading x (floor_bytes n) before) v after) (complete n f q) o;
      reads_back = reads_back n before v after w u o;
    }

-- and of what is refused
refused : (n : FloorNumbers) (before : List ℕ) (v : Result ℕ Refused) → Words n.places → Words n.groups
    → (a : Result Floor Refusal) → a ≡ read_floor (floor_bytes n) → (r : Refusal) × (a ≡ Err r) × (v ≡ Err (RefusedFloor r)) → FloorWritten n before (wrote v) before
refused n before v w u a q (r, e, o) = promise n before (wrote v) before w u (Err r) (sym q ∙ e) (record { answer = ap wrote o; out = refl })

pub put_numbers-requires : goal.put_numbers-requires
put_numbers-requires c =
    let e : c.judge_numbers.result ≡ Ok c.in_ok-map_err.field-0 = search rules in
    (whole _ _ (sym c.judge_numbers.ensures ∙ e)).short

pub returns-in_err-map_err : goal.returns-in_err-map_err
returns-in_err-map_err c =
    refused _ _ c.from_residual.result (λ i. omega (arith, c.type_inv.places i)) (λ i. omega (arith, c.type_inv.groups i)) c.judge_numbers.result
    c.judge_numbers.ensures (search rules)

pub returns : goal.returns
returns c =
    let e : c.judge_numbers.result ≡ Ok c.in_ok-map_err.field-0 = search rules in
    promise _ _ _ _ (λ i. omega (arith, c.type_inv.places i)) (λ i. omega (arith, c.type_inv.groups i)) _ (sym c.judge_numbers.ensures ∙ e) c.put_numbers.ensures
