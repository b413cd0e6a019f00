-- A number read, by what the definition gives.
use Prim.Native.Nat.{ℕ, min, ◌≤◌}
use mathlib.Core.Path.{◌≡◌, refl, sym, subst}
use mathlib.Core.Bool.{true}
use mathlib.Core.List.{List}
use lib.ListN.{drop}
use lib.Dec.{leb}
use borrow.Author.Tests.{leb-true}
use Rattle.std.specs.Prelude.{Ok, Err}
use Rattle.grammar.proofs.Each.{both_left}
use Rattle.grammar.specs.Reader.{Got, got, no, is_digit}
use Rattle.token.specs.Tokens.{NumIs}
use Rattle.token.specs.declared.Fault.{Fault}
use Rattle.token.specs.declared.Num.{Num}

pub none : (s : List ℕ) (at : ℕ) (f : Fault) (g : Got ℕ) → f ≡ record { number = 13; at = at } → g ≡ no 13 (drop at s) → NumIs s (Err f) g
none s at f g e q =
    subst (λ (x : Fault). NumIs s (Err x) g) (sym e) (subst (NumIs s (Err (record { number = 13; at = at }))) (sym q) (refl, refl))

pub some : (s : List ℕ) (at k v n : ℕ) (r : Num) (g : Got ℕ) → r ≡ record { value = v; at = at } → v ≡ min k 1000 → g ≡ got k n (drop at s)
    → NumIs s (Ok r) g
some s at k v n r g e m q =
    subst (λ (x : Num). NumIs s (Ok x) g) (sym e) (subst (NumIs s (Ok (record { value = v; at = at }))) (sym q) (refl, m))

pub low : (b : ℕ) → is_digit b ≡ true → 48 ≤ b
low b e = leb-true 48 b (both_left (leb 48 b) (leb b 57) e)
