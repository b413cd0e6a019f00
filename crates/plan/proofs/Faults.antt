-- The number of the refusal behind what judging a record gives.
use Rattle.std.specs.Prelude.{Result, Ok, Err}
use Prim.Native.Nat.{ℕ, zero, suc}
use native.Mathlib.Omega.{arith}
use mathlib.Core.Path.{◌≡◌, refl}
use Rattle.refusal.specs.Codes.{unless_fault}

abbrev pub judged_by : ℕ → Result (Unit {0}) ℕ
judged_by n = unless_fault n (Ok tt) Err

pub no_fault : (n : ℕ) → Ok tt ≡ judged_by n → n ≡ 0
no_fault zero e = refl
no_fault (suc n) e = let z : ◌≡◌ {A = ℕ} 0 1 = cc in absurd (omega arith)

pub fault_is : (n m : ℕ) → Err m ≡ judged_by n → n ≡ m
fault_is zero m e = let z : ◌≡◌ {A = ℕ} 0 1 = cc in absurd (omega arith)
fault_is (suc n) m e = cc

pub not_zero : (n m : ℕ) → Err m ≡ judged_by n → m ≡ 0 → ⊥
not_zero zero m e z = let z : ◌≡◌ {A = ℕ} 0 1 = cc in absurd (omega arith)
not_zero (suc n) m e z = let q : suc n ≡ m = cc in omega arith
