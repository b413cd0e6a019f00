-- A cart's class and start in the floor's file.
use Rattle.std.specs.Prelude.{ℕ, ◌+◌, ◌*◌, ◌<◌, ◌≡◌, List, get_or}
use Rattle.std.proofs.Common.{arith, sym, ap, subst, ◌∙◌}
use Rattle.record.specs.Laid.{part_of, field_of}
use Rattle.floor.specs.Numbers.{numbers_of, cart_at}
use Rattle.floor.specs.Promises.{AcceptedFloor}
use Rattle.floor.specs.declared.Floor.{Floor}
use Rattle.row.proofs.FloorBytes.{cart_byte}
use Rattle.moves.specs.Carts.{class_of, start_of}

module _ (s : List ℕ) (f : Floor) (w : AcceptedFloor s f) (c : ℕ) (l : c < f.carts) where
  -- behind the length and kind of its record
  pub class_at : (at : ℕ) → at ≡ cart_at f c → class_of s c ≡ get_or s (at + 4) 0
  class_at at e =
      let q : cart_at f c + 4 + 0 ≡ at + 4 = omega arith in
      cart_byte s f w c 0 l (omega arith) ∙ ap (λ (n : ℕ). get_or s n 0) q

  pub start_at : (at : ℕ) → at ≡ cart_at f c → start_of s c ≡ get_or s (at + 4 + 1) 0
  start_at at e = cart_byte s f w c 1 l (omega arith) ∙ ap (λ (n : ℕ). get_or s (n + 4 + 1) 0) (sym e)

  pub class_low : class_of s c < 8
  class_low =
      let n = (numbers_of s).carts in
      let e : class_of s c ≡ get_or n (2 * c + 0) 0 =
      ap (λ (x : List ℕ). get_or x 0 0) (part_of 2 (omega arith) f.carts n w.valid.carts c l) ∙ field_of 2 n c 0 (omega arith) in
      let z : 2 * c + 0 ≡ 2 * c = omega arith in
      subst (λ (x : ℕ). x < 8) (sym (e ∙ ap (λ (k : ℕ). get_or n k 0) z)) (w.valid.cart_class c l)
