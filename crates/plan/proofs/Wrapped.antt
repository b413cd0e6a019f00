-- What `map_err` gives: the value, or the error as it is wrapped, as in the file that it is about.
use Rattle.std.specs.Prelude.{Result, Ok, Err}
use Rattle.std.specs.Result.{MatchResult, IsErrAnd}
use Rattle.std.proofs.lemmas.Result.{err_from_is_err_and}
use Prim.Native.Nat.{ℕ}
use native.Mathlib.Omega.{arith}
use mathlib.Core.Path.{◌≡◌, refl, subst}

-- W says what an error is wrapped as
module _ {A E F : Type 0} (W : E → F → Type 0) (r : Result A E) (x : Result A F) (w : MatchResult r (λ v. x ≡ Ok v) (λ e. IsErrAnd x (W e))) where
  pub kept : (v : A) → x ≡ Ok v → r ≡ Ok v
  kept = go r w
    where
      go : (r : Result A E) → MatchResult r (λ v. x ≡ Ok v) (λ e. IsErrAnd x (W e)) → (v : A) → x ≡ Ok v → r ≡ Ok v
      go (Ok u) w v q = cc
      go (Err e) w v q = let p = err_from_is_err_and x w in let z : ◌≡◌ {A = ℕ} 0 1 = cc in absurd (omega arith)

  pub refused : (y : F) → x ≡ Err y → (e : E) × (r ≡ Err e) × W e y
  refused = go r w
    where
      go : (r : Result A E) → MatchResult r (λ v. x ≡ Ok v) (λ e. IsErrAnd x (W e)) → (y : F) → x ≡ Err y → (e : E) × (r ≡ Err e) × W e y
      go (Ok u) w y q = let z : ◌≡◌ {A = ℕ} 0 1 = cc in absurd (omega arith)
      go (Err e) w y q =
          let p = err_from_is_err_and x w in
          let z : p.0 ≡ y = cc in
          (e, refl, subst (W e) z p.2)
