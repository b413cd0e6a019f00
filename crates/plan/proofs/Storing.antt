-- A head and rows stored one behind the other are the plan's bytes.
use Prim.Native.Nat.{ℕ, ◌+◌, ◌≤◌}
use native.Mathlib.Omega.{arith}
use mathlib.Core.Path.{◌≡◌, ap, ap₂, ◌∙◌}
use mathlib.Core.List.{List, ◌++◌}
use lib.ListN.{length, drop}
use Rattle.record.specs.Record.{encoded, layout}
use Rattle.record.specs.Parts.{of_kind, laid}
use Rattle.record.specs.Buffer.{stored}
use Rattle.record.specs.Stored.{stored_more, stored_front}
use Rattle.record.specs.RoundTrip.{length-encoded}
use Rattle.plan.specs.Numbers.{head_bytes, plan_bytes}
use Rattle.plan.specs.RoundTrip.{length_head, length_plan}
use Rattle.plan.specs.declared.Head.{Head}

pub plan_stored : (h : Head) (rows out body x y : List ℕ) → length (plan_bytes h rows) ≤ length out → body ≡ head_bytes h
    → x ≡ stored out 0 (encoded (of_kind 4 body)) → y ≡ stored x 10 (laid 5 h.steps rows)
    → y ≡ plan_bytes h rows ++ drop (length (plan_bytes h rows)) out
unfolding layout
plan_stored h rows out body x y room b p q =
    let one : List ℕ = encoded (of_kind 4 (head_bytes h)) in
    let n : 10 ≡ 0 + length one = omega (arith, length-encoded (of_kind 4 (head_bytes h)), length_head h) in
    q ∙ ap₂ (λ (w : List ℕ) (k : ℕ). stored w k (laid 5 h.steps rows)) (p ∙ ap (λ (z : List ℕ). stored out 0 (encoded (of_kind 4 z))) b) n
    ∙ stored_more out 0 one (laid 5 h.steps rows) (omega (arith, length_plan h rows)) ∙ stored_front out (plan_bytes h rows)
