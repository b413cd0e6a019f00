use Rattle.std.specs.Int.{div_ceil}
use Rattle.std.proofs.Common.{refl, eqb-true}
use Rattle.std.proofs.lemmas.Bool.{eqb-false}
use Rattle.std.proofs.lemmas.Grind.{div_ceil_times}
use Prim.Native.Nat.{ℕ, ◌+◌, ◌-◌, ◌*◌, ◌≤◌, ◌<◌, min}
use native.Mathlib.Nat.{div-le_self, div-eq_of_lt-le, suc-mul}
use native.Mathlib.Omega.{arith}
use mathlib.Core.Bool.{Bool, true, false}
use mathlib.Core.List.{List}
use mathlib.Core.Path.{◌≡◌}
use lib.Dec.{eqb}
use lib.ListN.{length}
use Rattle.record.specs.Parts.{part_count}
use Rattle.plan.specs.Judged.{length_empty, length_zero, length_some, length_over}
use Rattle.plan.specs.Numbers.{plan_bytes}
use Rattle.plan.specs.declared.Head.{Head}
use Rattle.plan.proofs.writing.laid_size.Goals as goal
use Rattle.plan.proofs.writing.laid_size.Goals.{then-h-eq0, else-h-eq0}

-- how many parts bytes make is a division rounded up
rounded_up : (n size : ℕ) → 0 < size → part_count size n ≡ div_ceil n size
rounded_up n size p =
    let b = div_ceil_times n size p in
    let m = suc-mul (div_ceil n size) size in
    div-eq_of_lt-le {k = div_ceil n size} size {m = n + (size - 1)} (omega (arith, b)) (omega (arith, b, m))

few : (n size : ℕ) → div_ceil n size ≤ n + 1
few n size = omega (arith, div-le_self n size)

module _ (h : Head) (rows : List ℕ) where
  one_record : h.steps ≡ 0 → 10 + length rows + min (length rows) 1 * 4 ≡ length (plan_bytes h rows)
  one_record z = go (eqb (length rows) 0) refl
    where
      go : (b : Bool) → eqb (length rows) 0 ≡ b → 10 + length rows + min (length rows) 1 * 4 ≡ length (plan_bytes h rows)
      go true q = let n : length rows ≡ 0 = eqb-true _ _ q in omega (arith, length_empty h rows n)
      go false q =
          let n : (length rows ≡ 0 → ⊥) = eqb-false _ _ q in
          omega (arith, length_zero h rows z (omega arith))

  whole_records : 0 < h.steps → 10 + length rows + div_ceil (length rows) h.steps * 4 ≡ length (plan_bytes h rows)
  whole_records p =
      let r : part_count h.steps (length rows) ≡ div_ceil (length rows) h.steps = rounded_up (length rows) h.steps p in
      omega (arith, length_some h rows p)

pub returns-then-len-gt65536 : goal.returns-then-len-gt65536
returns-then-len-gt65536 c = omega (arith, length_over c.args.h c.args.rows.now)

pub overflow_mul-size : goal.overflow_mul-size
overflow_mul-size c =
    elim c.if-h-eq0.branch [ then-h-eq0 w ↦ omega arith | else-h-eq0 w ↦ omega (arith, few (length c.args.rows.now) c.args.h.steps) ]

pub overflow_add-size-2 : goal.overflow_add-size-2
overflow_add-size-2 c =
    elim c.if-h-eq0.branch [ then-h-eq0 w ↦ omega arith | else-h-eq0 w ↦ omega (arith, few (length c.args.rows.now) c.args.h.steps) ]

pub returns-then-size-gt65536 : goal.returns-then-size-gt65536
returns-then-size-gt65536 c = elim c.if-h-eq0.branch [
  | then-h-eq0 w ↦ let r = one_record c.args.h c.args.rows.now w.if-h-eq0.true in omega arith
  | else-h-eq0 w ↦ let r = whole_records c.args.h c.args.rows.now (omega arith) in omega arith
]

pub returns : goal.returns
returns c = elim c.if-h-eq0.branch [
  | then-h-eq0 w ↦ let r = one_record c.args.h c.args.rows.now w.if-h-eq0.true in (omega arith, omega arith)
  | else-h-eq0 w ↦ let r = whole_records c.args.h c.args.rows.now (omega arith) in (omega arith, omega arith)
]
