-- A text's words, step by step.
use Prim.Native.Nat.{ℕ}
use mathlib.Core.Path.{◌≡◌, ap, ◌∙◌}
use mathlib.Core.Bool.{Bool, not, ◌&&◌, and_comm}
use lib.Bits.{bit_and, bit_xor, and_le_r}
use Rattle.mask.specs.Mask.{on, signed}
use Rattle.mask.specs.EachBit.{on_and}
use Rattle.table.specs.Table.{Word}
use Rattle.table.specs.Words.{signed_word}
use Rattle.quorum.specs.Words.{Of}

-- a word turned over or not, and of it the carts in `who`
pub carts_of : (who a flip s : ℕ) (p : Bool) (f : ℕ → ℕ → Bool) → ((i : ℕ) → signed p (on a i) ≡ f i s) → Word (λ i. not p) flip
    → Of who f s (bit_and (bit_xor a flip) who)
carts_of who a flip s p f e turn = record {
  low = and_le_r (bit_xor a flip) who;
  each = λ i q.
      on_and (bit_xor a flip) who i ∙ ap (λ (x : Bool). x && on who i) (signed_word p a flip turn i q ∙ e i) ∙ and_comm (f i s) (on who i);
}
