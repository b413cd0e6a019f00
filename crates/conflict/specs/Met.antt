-- Two carts' counters at which they meet: the test taken apart.
use Rattle.std.specs.Prelude.{ℕ, suc, ◌+◌, ◌≤◌, ◌<◌, ◌≡◌, refl, Bool, true, false, ◌&&◌, ◌||◌, ◌⊎◌, T, eqb}
use Rattle.std.proofs.Common.{arith, inl, inr, eqb→eq, eqb-true, eq-eqb}
use Rattle.std.proofs.lemmas.Bool.{eqb-false}
use Rattle.cltl.proofs.Basics.{or_l, or_r, and_l, and_r, and_i}
use Rattle.conflict.specs.Meaning.{Routes, stands_on, Narrow}
use Rattle.conflict.specs.Search.{meets}

pub true-T : (t : Bool) → t ≡ true → T t
true-T true e = tt
true-T false e = let z : ◌≡◌ {A = ℕ} 0 1 = cc in absurd (omega arith)

pub T_true : (t : Bool) → T t → t ≡ true
T_true true h = refl
T_true false h = absurd h

module _ (P : Routes) (a v b w : ℕ) where
  abbrev p : ℕ
  p = stands_on P a v

  abbrev q : ℕ
  q = stands_on P b w

  -- both in one narrow place
  pub record Same : Type 0 where
    pub narrow : Narrow P (stands_on P a v)
    pub one : stands_on P a v ≡ stands_on P b w

  -- each goes next to the other's narrow place
  pub record Exchanged : Type 0 where
    pub narrow : Narrow P (stands_on P a v)
    pub other_narrow : Narrow P (stands_on P b w)
    pub there : stands_on P a (suc v) ≡ stands_on P b w
    pub back : stands_on P b (suc w) ≡ stands_on P a v

  -- the parts of the test
  abbrev moved : Bool
  moved = eqb (stands_on P a (suc v)) q && eqb (stands_on P b (suc w)) p

  abbrev changed : Bool
  changed = P.narrow q && moved

  pub same_meets : Same → T (meets P a v b w)
  same_meets s = and_i (P.narrow p) (eqb p q || changed) s.narrow (or_l (eqb p q) changed (true-T (eqb p q) (eq-eqb p q s.one)))

  pub exchange_meets : Exchanged → T (meets P a v b w)
  exchange_meets x =
      let next = stands_on P a (suc v) in
      let next' = stands_on P b (suc w) in
      let there = true-T (eqb next q) (eq-eqb next q x.there) in
      let back = true-T (eqb next' p) (eq-eqb next' p x.back) in
      and_i (P.narrow p) (eqb p q || changed) x.narrow
      (or_r (eqb p q) changed (and_i (P.narrow q) moved x.other_narrow (and_i (eqb next q) (eqb next' p) there back)))

  -- the place decides: in one place they are in it, else they exchange
  pub meets_cases : T (meets P a v b w) → Same ⊎ (((stands_on P a v ≡ stands_on P b w) → ⊥) × Exchanged)
  meets_cases m = go (eqb p q) refl (and_r (P.narrow p) (eqb p q || changed) m)
    where
      here : Narrow P p
      here = and_l (P.narrow p) (eqb p q || changed) m

      exchanged : T changed → Exchanged
      exchanged n =
          let next = stands_on P a (suc v) in
          let next' = stands_on P b (suc w) in
          let k = and_r (P.narrow q) moved n in
          record {
            narrow = here;
            other_narrow = and_l (P.narrow q) moved n;
            there = eqb→eq next q (and_l (eqb next q) (eqb next' p) k);
            back = eqb→eq next' p (and_r (eqb next q) (eqb next' p) k);
          }

      go : (t : Bool) → eqb p q ≡ t → T (t || changed) → Same ⊎ ((p ≡ q → ⊥) × Exchanged)
      go true e n = inl (record { narrow = here; one = eqb-true p q e })
      go false e n = inr (eqb-false p q e, exchanged n)

-- carts a and b, two of the fleet, meet at counters at most d apart
pub record Met (P : Routes) (d a v b w : ℕ) : Type 0 where
  pub cart_there : a < P.carts
  pub other_there : b < P.carts
  pub two : a ≡ b → ⊥
  pub behind : v ≤ w + d
  pub ahead : w ≤ v + d
  pub meeting : T (meets P a v b w)
