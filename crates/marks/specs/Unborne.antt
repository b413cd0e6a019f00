-- A mark without a table is borne by no place of a row; how many tables there are is fixed.
use Rattle.std.specs.Prelude.{ℕ, ◌-◌, ◌≤◌, ◌<◌, ◌≡◌, Bool, true, false, List}
use Rattle.std.proofs.Common.{sym, ◌∙◌, arith}
use Rattle.row.specs.Round.{pick}
use Rattle.marks.specs.Bears.{block_place, Borne, NoneFrom}

pub none_from : (floor block : List ℕ) (carts h places r : ℕ) → ((i s : ℕ) → i < carts → s < h → block_place block i s < places)
    → Borne floor places r → NoneFrom floor block carts h r
none_from floor block carts h places r on b = record { none = λ i s k p q u v. b.none (block_place block i s) k (on i s p q) u v }

module _ (floor : List ℕ) (places : ℕ) where
  at_most : (a b : ℕ) → Borne floor places a → Borne floor places b → a ≤ b
  at_most a b x y =
      pick b a (a ≤ b)
      (λ p.
      let w = x.some (omega arith) in
      let e : ◌≡◌ {A = Bool} true false = sym w.2 ∙ y.none w.0 (a - 1) w.1 (omega arith) (omega (arith, x.few)) in
      let z : ◌≡◌ {A = ℕ} 0 1 = cc in
      absurd (omega arith))
      (λ p. p)

  pub borne_fixed : (a b : ℕ) → Borne floor places a → Borne floor places b → a ≡ b
  borne_fixed a b x y = let p = at_most a b x y in let q = at_most b a y x in omega arith
