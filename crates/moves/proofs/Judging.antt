-- Carts judged in order: what holds before each turn.
use Prim.Native.Nat.{ℕ, ◌+◌, ◌-◌, ◌≤◌, ◌<◌}
use native.Mathlib.Omega.{arith}
use native.Mathlib.Numerals.{add-one}
use mathlib.Core.Path.{◌≡◌, sym, ap, ap₂, subst, ◌∙◌}
use mathlib.Core.Bool.{Bool, true, false}
use mathlib.Core.List.{List}
use lib.ListN.{length}
use Rattle.refusal.specs.Stages.{is_accepted}
use Rattle.refusal.specs.declared.Verdict.{Verdict}
use Rattle.plan.specs.Plan.{held_numbers}
use Rattle.plan.specs.Read.{row_in, block_part, part_is, part_length}
use Rattle.plan.specs.declared.Head.{Head}
use Rattle.moves.specs.Carts.{cart_verdict, row_verdict, row_accepted, judged_carts}
use Rattle.moves.specs.Judged.{cart_passed, cart_refused}

-- the carts from c on decide
abbrev pub Judging : List ℕ → ℕ → Head → List ℕ → ℕ → Type 0
Judging floor carts h block c =
    judged_carts floor (held_numbers carts h block) carts 0 ≡ judged_carts floor (held_numbers carts h block) (carts - c) c

module _ (carts : ℕ) (h : Head) (block : List ℕ) (c : ℕ) (few : carts ≤ 32) (l : c < carts) (fits : h.steps ≤ 64) (size : length block ≡ 2048) where
  abbrev part : List ℕ
  part = block_part h.steps block c

  -- the cart judged
  module _ (floor : List ℕ) (w : Judging floor carts h block c) (v : Verdict) (e : v ≡ cart_verdict floor c part (length part) h.stem) where
    judged : v ≡ row_verdict floor (held_numbers carts h block) c
    judged =
        e
        ∙ ap₂ (λ (x : List ℕ) (n : ℕ). cart_verdict floor c x n h.stem) (part_is h.steps block c ∙ sym (row_in carts h.steps block c l))
        (part_length h.steps block c (omega arith) fits size)

    by : (b : Bool) → is_accepted v ≡ b → row_accepted floor (held_numbers carts h block) c ≡ b
    by b z = ap is_accepted (sym judged) ∙ z

    pub refused : is_accepted v ≡ false → v ≡ judged_carts floor (held_numbers carts h block) carts 0
    refused z = judged ∙ sym (w ∙ cart_refused floor (held_numbers carts h block) carts c l (by false z))

    pub onward : is_accepted v ≡ true → Judging floor carts h block (c + 1)
    onward z =
        subst (Judging floor carts h block) (sym (add-one c)) (w ∙ cart_passed floor (held_numbers carts h block) carts c l (by true z))
