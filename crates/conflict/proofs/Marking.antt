-- The places that records of kind 6 name, marked one after the other.
use Prim.Native.Nat.{ℕ, ◌+◌, ◌<◌}
use native.Mathlib.Numerals.{add-one}
use native.Mathlib.Nat.{add-zero}
use native.Mathlib.Omega.{arith}
use mathlib.Core.Path.{◌≡◌, refl, sym, ap, ◌∙◌}
use mathlib.Core.Bool.{Bool, true, false, not, ◌||◌}
use mathlib.Core.List.{List, [], ◌∷◌, ◌++◌}
use lib.Dec.{eqb}
use lib.ListN.{length, take, drop, get_or, set, length-take, length-drop}
use lib.Seq.{get_or-take, get_or-drop, take-suc, get_or-set_same, get_or-set_other}
use borrow.Author.Tests.{eqb-true, eqb-false}
use Rattle.refusal.specs.Faults.{or-true}
use Rattle.floor.specs.Numbers.{numbers_of, narrow_at, body_at}
use Rattle.floor.specs.Promises.{AcceptedFloor}
use Rattle.floor.specs.declared.Floor.{Floor}
use Rattle.conflict.specs.Table.{flag, Flags}
use Rattle.conflict.specs.OfPlan.{named}

or-false : (b : Bool) → b || false ≡ b
or-false true = refl
or-false false = refl

-- one more named
named_more : (ns : List ℕ) (n p : ℕ) → named (ns ++ (n ∷ [])) p ≡ named ns p || eqb n p
unfolding named
named_more [] n p = or-false (eqb n p)
named_more (m ∷ ns) n p = ap (λ (b : Bool). eqb m p || b) (named_more ns n p) ∙ or_assoc (eqb m p) (named ns p) (eqb n p)
  where
    or_assoc : (a b c : Bool) → a || (b || c) ≡ (a || b) || c
    or_assoc true b c = refl
    or_assoc false b c = refl

pub none_named : (bays : List ℕ) → ((p : ℕ) → get_or bays p 0 ≡ 0) → Flags bays (named [])
unfolding named
none_named bays z p l = ap (λ (n : ℕ). not (eqb n 0)) (z p)

pub one_marked : (bays ns : List ℕ) (i q : ℕ) → length bays ≡ 256 → q < 256 → i < length ns → q ≡ get_or ns i 0 → Flags bays (named (take i ns))
    → Flags (set bays q 1) (named (take (i + 1) ns))
one_marked bays ns i q size low there e m p l =
    by (eqb (get_or ns i 0) p) refl
    ∙ sym (named_more (take i ns) (get_or ns i 0) p)
    ∙ ap (λ (x : List ℕ). named x p) (sym (ap (λ (k : ℕ). take k ns) (add-one i) ∙ take-suc ns i 0 there))
  where
    by : (b : Bool) → eqb (get_or ns i 0) p ≡ b → flag (set bays q 1) p ≡ named (take i ns) p || b
    by true h =
        let same : p ≡ q = sym (e ∙ eqb-true _ _ h) in
        ap (λ (k : ℕ). flag (set bays q 1) k) same ∙ ap (λ (n : ℕ). not (eqb n 0)) (get_or-set_same bays q 1 0 (omega arith))
        ∙ sym (or-true (named (take i ns) p))
    by false h =
        let other : (p ≡ q → ⊥) = λ x. eqb-false _ _ h (sym (x ∙ e)) in
        ap (λ (n : ℕ). not (eqb n 0)) (get_or-set_other bays q p 1 0 other) ∙ m p l ∙ sym (or-false (named (take i ns) p))

-- and the byte that names it in the file
module _ (s : List ℕ) (f : Floor) (w : AcceptedFloor s f) (i : ℕ) (l : i < f.narrow) where
  pub narrow_byte : get_or s (narrow_at f i + 4) 0 ≡ get_or (numbers_of s).narrow i 0
  narrow_byte =
      sym (ap (λ (k : ℕ). get_or s k 0) (add-zero (narrow_at f i + 4))) ∙ sym (get_or-drop (narrow_at f i + 4) s 0 0)
      ∙ sym (get_or-take 1 (drop (narrow_at f i + 4) s) 0 0 (omega arith)) ∙ ap (λ (x : List ℕ). get_or x 0 0) (w.narrow i l)

  pub narrow_inside : narrow_at f i + 4 < length s
  narrow_inside =
      let one : length (body_at 1 (narrow_at f i) s) ≡ 1 = ap length (w.narrow i l) in
      omega (arith, length-take 1 (drop (narrow_at f i + 4) s), length-drop (narrow_at f i + 4) s)
