-- Tests that decide.
use Prim.Native.Nat.{ℕ, ◌+◌}
use mathlib.Core.Path.{◌≡◌, refl, sym, ap, subst, ◌∙◌}
use mathlib.Core.Bool.{Bool, true, false, not, ◌&&◌}
use mathlib.Core.List.{List}
use lib.Dec.{eqb, ltb}
use borrow.Author.Tests.{eq-eqb, ne_eqb, eqb-true, eqb-false}
use Rattle.conflict.specs.Table.{block_place, Goes}
use Rattle.conflict.specs.Columns.{Decides, near}

module _ (A : Type 0) (t : Bool) (d : Decides A t) where
  pub if_true : t ≡ true → A
  if_true e = subst (Decides A) e d

  pub if_false : t ≡ false → A → ⊥
  if_false e = subst (Decides A) e d

-- a test that decides one statement decides another that is the same
pub decides_as : (A B : Type 0) (t : Bool) → (A → B) → ((A → ⊥) → B → ⊥) → Decides A t → Decides B t
decides_as A B true f g d = f d
decides_as A B false f g d = g d

pub goes_by : (block : List ℕ) (b step next q p m : ℕ) → block_place block b step ≡ q → m ≡ block_place block b next
    → Decides (Goes block step next q p b) (eqb m p)
goes_by block b step next q p m here there = go (eqb m p) refl
  where
    go : (t : Bool) → eqb m p ≡ t → Decides (Goes block step next q p b) t
    go true e = record { here = here; then = sym there ∙ eqb-true m p e }
    go false e = λ g. eqb-false m p e (there ∙ g.then)

module _ (m v d : ℕ) where
  pub never : m ≡ 0 → false ≡ near m v d
  never z = sym (ap (λ (t : Bool). not t && ltb v (m + d)) (eq-eqb m 0 z))

  pub once : (n : ℕ) → n ≡ m → (m ≡ 0 → ⊥) → ltb v (n + d) ≡ near m v d
  once n e z = ap (λ (k : ℕ). ltb v (k + d)) e ∙ sym (ap (λ (t : Bool). not t && ltb v (m + d)) (ne_eqb m 0 z))
