use Prim.Native.Nat.{ℕ, ◌≤◌, ◌<◌}
use Rattle.std.specs.Prelude.{Option, None, Some, IsSome, MatchOption}
use Rattle.std.proofs.lemmas.Option.{MatchOption-at_some}
use native.Mathlib.Omega.{arith}
use mathlib.Core.List.{List}
use mathlib.Core.Path.{◌≡◌, refl, ap, ◌∙◌}
use lib.ListN.{length}
use Rattle.refusal.specs.Held.{gives_written}
use Rattle.refusal.specs.declared.Verdict.TheVariants.{Written, Plan as AboutPlan}
use Rattle.plan.specs.Numbers.{head_of, plan_bytes}
use Rattle.plan.specs.RoundTrip.{length_plan, length_head}
use Rattle.plan.specs.declared.Head.{Head}
use Rattle.plan.proofs.Storing.{plan_stored}
use Rattle.plan.proofs.writing.put_numbers.Goals as goal

-- a file that is short enough has a size, as long as it is laid out
there : {l : ℕ} (o : Option ℕ) → MatchOption o (65536 < l) (λ k. (k ≡ l) × (k ≤ 65536)) → l ≤ 65536 → IsSome o
there None w short = absurd (omega arith)
there (Some k) w short = refl

size : (h g : Head) (rows : List ℕ) (n : ℕ) (o : Option ℕ) → o ≡ Some n
    → MatchOption o (65536 < length (plan_bytes h rows)) (λ k. (k ≡ length (plan_bytes h rows)) × (k ≤ 65536)) → h ≡ g → n ≡ length (plan_bytes g rows)
size h g rows n o e w q = (MatchOption-at_some _ _ _ e w).0 ∙ ap (λ (x : Head). length (plan_bytes x rows)) q

pub unwrap-n-requires : goal.unwrap-n-requires
unwrap-n-requires c = let a = c.args in
    there _ c.laid_size.ensures (rw c.head_of.ensures c.requires.1)

pub put-requires : goal.put-requires
put-requires c =
    let a = c.args in
    let h = head_of a.steps a.stem a.drift in
    let n = ap length c.head_bytes.ensures ∙ length_head h in
    (omega arith, omega (arith, size _ _ _ _ _ c.unwrap-n.ensures c.laid_size.ensures c.head_of.ensures, length_plan h a.rows.now))

pub put_parts-requires : goal.put_parts-requires
put_parts-requires c =
    let a = c.args in
    let h = head_of a.steps a.stem a.drift in
    let s = size _ _ _ _ _ c.unwrap-n.ensures c.laid_size.ensures c.head_of.ensures in
    rw c.from.ensures (c.requires.0, omega arith, omega (arith, s, length_plan h a.rows.now, c.put.auto.out))

pub returns : goal.returns
returns c =
    let a = c.args in
    let h = head_of a.steps a.stem a.drift in
    let s = size _ _ _ _ _ c.unwrap-n.ensures c.laid_size.ensures c.head_of.ensures in
    gives_written AboutPlan (plan_bytes h a.rows.now) a.out.now _ _ (omega arith) (ap Written s)
    (plan_stored h a.rows.now a.out.now _ _ _ (omega arith) c.head_bytes.ensures c.put.ensures (rw c.from.ensures at c.put_parts.ensures.out_after))
