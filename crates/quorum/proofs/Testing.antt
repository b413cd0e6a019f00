-- A bit, or none, by a test.
use Prim.Native.Nat.{ℕ}
use mathlib.Core.Path.{◌≡◌, sym, ap, ◌∙◌}
use mathlib.Core.Bool.{Bool, true, false, cond}

pub yes : (b : Bool) (bit r : ℕ) → b ≡ true → r ≡ bit → r ≡ cond b bit 0
yes b bit r e q = q ∙ sym (ap (λ (t : Bool). cond t bit 0) e)

pub no : (b : Bool) (bit r : ℕ) → b ≡ false → r ≡ 0 → r ≡ cond b bit 0
no b bit r e q = q ∙ sym (ap (λ (t : Bool). cond t bit 0) e)
