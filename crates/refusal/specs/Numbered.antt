-- A verdict that an operation may give is told by its four numbers: it is done exactly if its number is 0.
use Rattle.std.specs.Prelude.{ℕ, zero, suc, ◌<◌, ◌≡◌, refl, Bool, true, false, cond, not, ◌&&◌, ◌||◌, ◌⊎◌, List, [], ◌∷◌, ◌++◌, eqb, ltb}
use Rattle.std.proofs.Common.{arith, sym, ap, subst, ◌∙◌, inl, inr, eqb-true, eq-eqb, ltb-true}
use Rattle.std.proofs.lemmas.Bool.{eqb-false}
use Rattle.refusal.specs.Codes.{first_fault, unless_fault, code_of}
use Rattle.refusal.specs.Faults.{either_false, not_is, or-true}
use Rattle.refusal.specs.Given.{OneOf, accepts, writes, Refusals, Given, Answered}
use Rattle.refusal.specs.declared.Verdict.{Verdict}
use Rattle.refusal.specs.declared.Verdict.TheVariants.{Accepted, Written, Floor, Plan, Rules}

both : (a b : Bool) → a && b ≡ true → (a ≡ true) × (b ≡ true)
both true b e = (refl, e)
both false b e = let y : ◌≡◌ {A = ℕ} 0 1 = cc in absurd (omega arith)

-- one of these is one of these and others
pub one_left : (xs ys : List ℕ) (n : ℕ) → OneOf xs n → OneOf (xs ++ ys) n
one_left [] ys n h = absurd h
one_left (x ∷ xs) ys n (inl e) = inl e
one_left (x ∷ xs) ys n (inr h) = inr (one_left xs ys n h)

pub one_right : (xs ys : List ℕ) (n : ℕ) → OneOf ys n → OneOf (xs ++ ys) n
one_right [] ys n h = h
one_right (x ∷ xs) ys n h = inr (one_right xs ys n h)

-- and one of any that hold them all: a test that computes on two lists
abbrev pub among : List ℕ → ℕ → Bool
among [] n = false
among (x ∷ xs) n = eqb n x || among xs n

abbrev pub all_among : List ℕ → List ℕ → Bool
all_among ys [] = true
all_among ys (x ∷ xs) = among ys x && all_among ys xs

pub one_among : (ys : List ℕ) (n : ℕ) → among ys n ≡ true → OneOf ys n
one_among [] n e = let y : ◌≡◌ {A = ℕ} 0 1 = cc in absurd (omega arith)
one_among (y ∷ ys) n e = go (eqb n y) refl (one_among ys n) e
  where
    go : (b : Bool) → eqb n y ≡ b → (among ys n ≡ true → OneOf ys n) → b || among ys n ≡ true → OneOf (y ∷ ys) n
    go true q f e = inl (eqb-true n y q)
    go false q f e = inr (f e)

pub among_one : (ys : List ℕ) (n : ℕ) → OneOf ys n → among ys n ≡ true
among_one [] n h = absurd h
among_one (y ∷ ys) n (inl e) = ap (λ (b : Bool). b || among ys n) (eq-eqb n y e)
among_one (y ∷ ys) n (inr h) = ap (λ (b : Bool). eqb n y || b) (among_one ys n h) ∙ or-true (eqb n y)

pub among_none : (ys : List ℕ) (n : ℕ) → (OneOf ys n → ⊥) → among ys n ≡ false
among_none ys n f = go (among ys n) refl
  where
    go : (b : Bool) → among ys n ≡ b → b ≡ false
    go true e = absurd (f (one_among ys n e))
    go false e = refl

-- a number that is none of these is not one of them
pub not_among : (xs : List ℕ) (m n : ℕ) → among xs m ≡ false → OneOf xs n → n ≡ m → ⊥
not_among [] m n e h q = h
not_among (x ∷ xs) m n e (inl h) q = eqb-false m x (either_false (eqb m x) (among xs m) e).0 (sym q ∙ h)
not_among (x ∷ xs) m n e (inr h) q = not_among xs m n (either_false (eqb m x) (among xs m) e).1 h q

-- and lists that share no number: a test that computes on two lists
abbrev pub apart : List ℕ → List ℕ → Bool
apart ys [] = true
apart ys (x ∷ xs) = not (among ys x) && apart ys xs

pub not_both : (xs ys : List ℕ) (n : ℕ) → apart ys xs ≡ true → OneOf xs n → OneOf ys n → ⊥
not_both [] ys n e h k = h
not_both (x ∷ xs) ys n e (inl q) k = not_among ys x n (not_is (among ys x) true (both (not (among ys x)) (apart ys xs) e).0) k q
not_both (x ∷ xs) ys n e (inr h) k = not_both xs ys n (both (not (among ys x)) (apart ys xs) e).1 h k

pub one_of_more : (xs ys : List ℕ) (n : ℕ) → all_among ys xs ≡ true → OneOf xs n → OneOf ys n
one_of_more [] ys n e h = absurd h
one_of_more (x ∷ xs) ys n e (inl q) = subst (OneOf ys) (sym q) (one_among ys x (both (among ys x) (all_among ys xs) e).0)
one_of_more (x ∷ xs) ys n e (inr h) = one_of_more xs ys n (both (among ys x) (all_among ys xs) e).1 h

-- the first of several tests gives one of their numbers, or 0
abbrev pub fault_numbers : List (Bool × ℕ) → List ℕ
fault_numbers [] = []
fault_numbers (t ∷ ts) = t.1 ∷ fault_numbers ts

one_fault : (ts : List (Bool × ℕ)) → (first_fault ts ≡ 0) ⊎ OneOf (fault_numbers ts) (first_fault ts)
one_fault [] = inl refl
one_fault (t ∷ ts) = go t.0 (one_fault ts)
  where
    go : (b : Bool) → (first_fault ts ≡ 0) ⊎ OneOf (fault_numbers ts) (first_fault ts)
        → (cond b t.1 (first_fault ts) ≡ 0) ⊎ OneOf (t.1 ∷ fault_numbers ts) (cond b t.1 (first_fault ts))
    go true h = inr (inl refl)
    go false (inl e) = inl e
    go false (inr h) = inr (inr h)

-- so what holds of each refusal of these numbers, and where there is none, holds
pub by_number : {A : Type 0} (P : A → Type 0) (ts : List (Bool × ℕ)) (good : A) (fault : ℕ → A) → P good
    → ((n : ℕ) → OneOf (fault_numbers ts) n → P (fault n)) → P (unless_fault (first_fault ts) good fault)
by_number P ts good fault g h = go (first_fault ts) (one_fault ts)
  where
    go : (n : ℕ) → (n ≡ 0) ⊎ OneOf (fault_numbers ts) n → P (unless_fault n good fault)
    go zero o = g
    go (suc n) (inl e) = absurd (omega arith)
    go (suc n) (inr o) = h (suc n) o

-- no refusal has number 0: a test that computes on a table
abbrev pub positive : List ℕ → Bool
positive [] = true
positive (x ∷ xs) = ltb 0 x && positive xs

abbrev pub numbered : Refusals → Bool
numbered t = positive t.floor && (positive t.plan && positive t.rules)

some_number : (xs : List ℕ) (n : ℕ) → positive xs ≡ true → OneOf xs n → n ≡ 0 → ⊥
some_number [] n p h z = h
some_number (x ∷ xs) n p (inl e) z = let w : 0 < x = ltb-true 0 x (both (ltb 0 x) (positive xs) p).0 in omega arith
some_number (x ∷ xs) n p (inr h) z = some_number xs n (both (ltb 0 x) (positive xs) p).1 h z

module _ (t : Refusals) (ok : numbered t ≡ true) where
  floor_some : positive t.floor ≡ true
  floor_some = (both (positive t.floor) _ ok).0

  plan_some : positive t.plan ≡ true
  plan_some = (both (positive t.plan) _ (both (positive t.floor) _ ok).1).0

  rules_some : positive t.rules ≡ true
  rules_some = (both (positive t.plan) _ (both (positive t.floor) _ ok).1).1

  -- an operation that accepts: number 0 is accepted
  pub zero_accepts : t.done ≡ accepts → (v : Verdict) → Given t v → (code_of v).number ≡ 0 → v ≡ Accepted
  zero_accepts d Accepted g z = refl
  zero_accepts d (Written n) g z = let e : accepts ≡ writes = sym d ∙ g in let y : ◌≡◌ {A = ℕ} 0 1 = cc in absurd (omega arith)
  zero_accepts d (Floor r) g z = absurd (some_number t.floor r.number floor_some g z)
  zero_accepts d (Plan r) g z = absurd (some_number t.plan r.number plan_some g z)
  zero_accepts d (Rules r) g z = absurd (some_number t.rules r.number rules_some g z)

  -- one that writes: number 0 is a result of so many bytes
  pub zero_writes : t.done ≡ writes → (v : Verdict) → Given t v → (code_of v).number ≡ 0 → v ≡ Written (code_of v).first
  zero_writes d Accepted g z = let e : accepts ≡ writes = sym g ∙ d in let y : ◌≡◌ {A = ℕ} 0 1 = cc in absurd (omega arith)
  zero_writes d (Written n) g z = refl
  zero_writes d (Floor r) g z = absurd (some_number t.floor r.number floor_some g z)
  zero_writes d (Plan r) g z = absurd (some_number t.plan r.number plan_some g z)
  zero_writes d (Rules r) g z = absurd (some_number t.rules r.number rules_some g z)

  pub answered : (v : Verdict) → Given t v → Answered t (code_of v)
  answered Accepted g = record { done = λ z. (refl, refl, λ d. refl); refused = λ n. absurd (n refl) }
  answered (Written k) g = record {
    done = λ z. (refl, refl, λ d. let e : accepts ≡ writes = sym d ∙ g in let y : ◌≡◌ {A = ℕ} 0 1 = cc in absurd (omega arith));
    refused = λ n. absurd (n refl);
  }
  answered (Floor r) g = record { done = λ z. absurd (some_number t.floor r.number floor_some g z); refused = λ n. inl (refl, g) }
  answered (Plan r) g = record { done = λ z. absurd (some_number t.plan r.number plan_some g z); refused = λ n. inr (inl (refl, g)) }
  answered (Rules r) g = record { done = λ z. absurd (some_number t.rules r.number rules_some g z); refused = λ n. inr (inr (refl, g)) }
