-- Carts looked at one after the other.
use Prim.Native.Nat.{ℕ, ◌+◌, ◌≤◌, ◌<◌}
use native.Mathlib.Omega.{arith}
use mathlib.Core.Path.{◌≡◌, refl, sym, ap, subst, ◌∙◌}
use mathlib.Core.Bool.{Bool, true, false}
use mathlib.Core.List.{List}
use mathlib.Core.Logic.{inl, inr, ⊎_elim}
use lib.Dec.{eqb}
use lib.ListN.{get_or, length, set, length-set}
use lib.Seq.{get_or-set_same, get_or-set_other}
use borrow.Author.Tests.{eqb-true, eqb-false}
use Rattle.row.specs.Round.{pick}
use Rattle.conflict.specs.Columns.{Some, Entry, Entered}

module _ (from : ℕ) (Q : ℕ → Type 0) where
  pub none_yet : Some from from Q → ⊥
  none_yet s = omega (arith, s.low, s.high)

  -- one cart more
  pub still : (b : ℕ) → Some from b Q → Some from (b + 1) Q
  still b s = record { cart = s.cart; low = s.low; high = omega (arith, s.high); has = s.has }

  pub it : (b : ℕ) → from ≤ b → Q b → Some from (b + 1) Q
  it b p q = record { cart = b; low = p; high = omega arith; has = q }

  pub neither : (b : ℕ) → (Some from b Q → ⊥) → (Q b → ⊥) → Some from (b + 1) Q → ⊥
  neither b n q s =
      pick s.cart b ⊥ (λ l. n (record { cart = s.cart; low = s.low; high = l; has = s.has }))
      (λ l. let e : s.cart ≡ b = omega (arith, s.high) in q (subst Q e s.has))

module _ (from : ℕ) (place : ℕ → ℕ) (mark : ℕ) where
  abbrev on : ℕ → ℕ → Type 0
  on p b = place b ≡ p

  pub begun : (table : List ℕ) → Entered from from place mark table table
  begun table = record { kept = refl; each = λ p. inr (none_yet from (on p), refl) }

  pub onward : (b at : ℕ) (before now : List ℕ) → Entered from b place mark before now → from ≤ b → at ≡ place b → at < length now
      → Entered from (b + 1) place mark before (set now at mark)
  onward b at before now w low here inside = record { kept = simp length-set w.kept; each = λ p. go p (eqb p at) refl }
    where
      other : (p : ℕ) → eqb p at ≡ false → get_or (set now at mark) p 0 ≡ get_or now p 0
      other p e = get_or-set_other now at p mark 0 (eqb-false p at e)

      go : (p : ℕ) (t : Bool) → eqb p at ≡ t → Entry from (b + 1) place mark before (set now at mark) p
      go p true e =
          let same : p ≡ at = eqb-true p at e in
          inl (it from (on p) b low (sym here ∙ sym same), ap (λ (n : ℕ). get_or (set now at mark) n 0) same ∙ get_or-set_same now at mark 0 inside)
      go p false e =
          ⊎_elim (λ x. inl (still from (on p) b x.0, other p e ∙ x.1))
          (λ x. inr (neither from (on p) b x.0 (λ q. eqb-false p at e (sym q ∙ sym here)), other p e ∙ x.1)) (w.each p)
