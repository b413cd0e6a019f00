use Rattle.std.specs.Prelude.{Ok, Err}
use Rattle.endian.specs.RoundTrip.{two_at}
use Prim.Native.Nat.{ℕ}
use native.Mathlib.Omega.{arith}
use mathlib.Core.Path.{◌≡◌, sym, ap, ap₂, ◌∙◌}
use mathlib.Core.List.{List, [], ◌∷◌}
use mathlib.Core.Bool.{Bool}
use lib.ListN.{length, take, drop, get_or}
use borrow.Author.Tests.{eq-eqb}
use Rattle.endian.specs.Little.{value}
use Rattle.plan.specs.Plan.{head_from, out_of_range, judged_head}
use Rattle.plan.specs.declared.Head.{Head}
use Rattle.plan.proofs.heads.judge_head.Goals as goal

-- a head's numbers, byte by byte
head_read : (b : List ℕ) (x y z : ℕ) → length b ≡ 6 → x ≡ value (get_or b 0 0 ∷ get_or b 1 0 ∷ []) → y ≡ value (get_or b 2 0 ∷ get_or b 3 0 ∷ [])
    → z ≡ value (get_or b 4 0 ∷ get_or b 5 0 ∷ [])
    → ◌≡◌ {A = Head} (record { steps = x; stem = y; drift = z }) (head_from b)
head_read b x y z e p q r =
    ap₂ (λ (u v : ℕ). record { steps = u; stem = v; drift = z }) (p ∙ ap value (sym (two_at b 0 (omega arith))))
    (q ∙ ap value (sym (two_at b 2 (omega arith))))
    ∙ ap (λ (w : ℕ). record { steps = value (take 2 b); stem = value (take 2 (drop 2 b)); drift = w }) (r ∙ ap value (sym (two_at b 4 (omega arith))))

-- whether the head's numbers are in range, as its bytes say
in_bytes : (b : List ℕ) (h : Head) (r t : Bool) → h ≡ head_from b → r ≡ out_of_range h → r ≡ t → out_of_range (head_from b) ≡ t
in_bytes b h r t e q p = sym (ap out_of_range e) ∙ sym q ∙ p

pub returns-then-out_of_range : goal.returns-then-out_of_range
unfolding judged_head
returns-then-out_of_range c =
    let e = head_read c.args.body.now _ _ _ c.if-body-ne6.false (c.from.ensures ∙ c.number16.ensures) (c.from-2.ensures ∙ c.number16-2.ensures)
    (c.from-3.ensures ∙ c.number16-3.ensures) in
    ap Err c.at_offset-then-out_of_range.ensures
    ∙ simp (eq-eqb _ _ c.if-kind-ne4.false, eq-eqb _ _ c.if-body-ne6.false, in_bytes _ _ _ _ e c.out_of_range.ensures c.if-out_of_range.true)

pub returns : goal.returns
unfolding judged_head
returns c =
    let e = head_read c.args.body.now _ _ _ c.if-body-ne6.false (c.from.ensures ∙ c.number16.ensures) (c.from-2.ensures ∙ c.number16-2.ensures)
    (c.from-3.ensures ∙ c.number16-3.ensures) in
    ap Ok e ∙ simp (eq-eqb _ _ c.if-kind-ne4.false, eq-eqb _ _ c.if-body-ne6.false, in_bytes _ _ _ _ e c.out_of_range.ensures c.if-out_of_range.false)
