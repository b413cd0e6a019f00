-- Where no refusal is named, no test holds.
use Rattle.std.specs.Prelude.{ℕ, zero, suc, ◌≡◌, refl, Bool, true, false, cond, not, ◌||◌}
use Rattle.std.proofs.Common.{arith, sym, ap}
use Rattle.refusal.specs.Codes.{unless_fault}

-- of the first test, and then of those behind it
pub none_holds : (t : Bool) (n rest : ℕ) → cond t (suc n) rest ≡ 0 → (t ≡ false) × (rest ≡ 0)
none_holds true n rest e = absurd (omega arith)
none_holds false n rest e = (refl, e)

-- what is no refusal is what is given where no test holds
pub no_fault : {A : Type 0} (n : ℕ) (good : A) (fault : ℕ → A) (x : A) → ((m : ℕ) → fault m ≡ x → ⊥) → unless_fault n good fault ≡ x → (n ≡ 0) × (good ≡ x)
no_fault zero good fault x apart e = (refl, e)
no_fault (suc n) good fault x apart e = absurd (apart (suc n) e)

pub not-not : (b : Bool) → not b ≡ false → b ≡ true
not-not true e = refl
not-not false e = sym e

pub either_false : (a b : Bool) → a || b ≡ false → (a ≡ false) × (b ≡ false)
either_false true b e = let z : ◌≡◌ {A = ℕ} 0 1 = cc in absurd (omega arith)
either_false false b e = (refl, e)

pub not_is : (x b : Bool) → not x ≡ b → x ≡ not b
not_is true b e = ap not e
not_is false b e = ap not e

pub or-true : (b : Bool) → b || true ≡ true
or-true true = refl
or-true false = refl
