-- Numbers and amounts, whatever nodes are still allowed.
use Rattle.std.specs.Prelude.{ℕ, ◌+◌, ◌-◌, ◌*◌, ◌≡◌, refl, Bool, true, false, List, [], ◌∷◌, leb, eqb}
use Rattle.std.proofs.Common.{ap, ◌∙◌}
use Rattle.grammar.specs.Grammar.{Over, fleet, group, Amount, amount}
use Rattle.grammar.specs.Limits.{most}
use Rattle.grammar.specs.Reader.{Got, got, no, Reader, bind, pick, skip, digits, number, percent, limits, is_group, group_digit, over_at, overs, amounts, is_digit}

-- a number is the same whatever nodes are allowed
abbrev pub relabel : {A : Type 0} → ℕ → Got A → Got A
relabel n (got x m t) = got x n t
relabel n (no w t) = no w t

digits_any : (v n : ℕ) (u : List ℕ) → digits v n u ≡ relabel n (digits v 0 u)
unfolding digits
digits_any v n [] = refl
digits_any v n (b ∷ u) = go (is_digit b) (digits_any (v * 10 + (b - 48)) n u)
  where
    go : (x : Bool) → digits (v * 10 + (b - 48)) n u ≡ relabel n (digits (v * 10 + (b - 48)) 0 u)
        → pick x (digits (v * 10 + (b - 48)) n u) (got v n (b ∷ u)) ≡ relabel n (pick x (digits (v * 10 + (b - 48)) 0 u) (got v 0 (b ∷ u)))
    go true e = e
    go false e = refl

pub number_any : (n : ℕ) (u : List ℕ) → number n u ≡ relabel n (number 0 u)
unfolding number
number_any n [] = refl
number_any n (b ∷ u) = go (eqb b 48) (is_digit b)
  where
    go : (x y : Bool)
        → pick x (got 0 n u) (pick y (digits (b - 48) n u) (no 13 (b ∷ u))) ≡ relabel n (pick x (got 0 0 u) (pick y (digits (b - 48) 0 u) (no 13 (b ∷ u))))
    go true y = refl
    go false true = digits_any (b - 48) n u
    go false false = refl

-- a number is refused as 13
abbrev pub Only13 : Got ℕ → Type 0
Only13 (got k m t) = Unit {0}
Only13 (no w t) = w ≡ 13

digits_13 : (v n : ℕ) (u : List ℕ) → Only13 (digits v n u)
unfolding digits
digits_13 v n [] = tt
digits_13 v n (b ∷ u) = go (is_digit b) (digits_13 (v * 10 + (b - 48)) n u)
  where
    go : (x : Bool) → Only13 (digits (v * 10 + (b - 48)) n u) → Only13 (pick x (digits (v * 10 + (b - 48)) n u) (got v n (b ∷ u)))
    go true h = h
    go false h = tt

pub number_13 : (n : ℕ) (u : List ℕ) → Only13 (number n u)
unfolding number
number_13 n [] = refl
number_13 n (b ∷ u) = go (eqb b 48) (is_digit b)
  where
    go : (x y : Bool) → Only13 (pick x (got 0 n u) (pick y (digits (b - 48) n u) (no 13 (b ∷ u))))
    go true y = tt
    go false true = digits_13 (b - 48) n u
    go false false = refl

pub percent_any : (n m : ℕ) (t : List ℕ) → percent n t ≡ relabel n (percent m t)
unfolding percent
percent_any n m [] = refl
percent_any n m (b ∷ t) = go (eqb b 37)
  where
    go : (x : Bool) → pick x (got true n t) (got false n (b ∷ t)) ≡ relabel n (pick x (got true m t) (got false m (b ∷ t)))
    go true = refl
    go false = refl

-- what is the same whatever nodes are allowed, and what follows it too
pub any_bind : {A B : Type 0} (n : ℕ) (g : Got A) (f : A → Reader B) → ((a : A) (m : ℕ) (r : List ℕ) → f a n r ≡ relabel n (f a m r))
    → bind (relabel n g) f ≡ relabel n (bind g f)
unfolding bind
any_bind n (got a m r) f e = e a m r
any_bind n (no w r) f e = refl

any_pick : {A : Type 0} (n m : ℕ) (a : A) (r s : List ℕ) (w : ℕ) (x : Bool) → pick x (got a n r) (no w s) ≡ relabel n (pick x (got a m r) (no w s))
any_pick n m a r s w true = refl
any_pick n m a r s w false = refl

pub limits_any : (n : ℕ) (u : List ℕ) → limits n u ≡ relabel n (limits 0 u)
unfolding limits
limits_any n u =
    ap (λ (g : Got ℕ). bind g (λ k m r. by k (percent m r))) (number_any n u)
    ∙ any_bind n (number 0 u) (λ k m r. by k (percent m r))
    (λ k m r. ap (by k) (percent_any n m r) ∙ any_bind n (percent m r) (λ p m₁ r₁. pick (leb k (most p)) (got (k, p) m₁ r₁) (no 15 u))
    (λ p m₁ r₁. any_pick n m₁ (k, p) r₁ u 15 (leb k (most p))))
  where
    by : ℕ → Got Bool → Got (ℕ × Bool)
    by k g = bind g (λ p m₁ r₁. pick (leb k (most p)) (got (k, p) m₁ r₁) (no 15 u))

group_digit_any : (n m : ℕ) (s : List ℕ) → group_digit n s ≡ relabel n (group_digit m s)
unfolding group_digit
group_digit_any n m [] = refl
group_digit_any n m (b ∷ r) = any_pick n m (group (b - 48)) r (b ∷ r) 13 (is_group b)

over_at_any : (n m : ℕ) (s r : List ℕ) → over_at n s r ≡ relabel n (over_at m s r)
unfolding over_at
over_at_any n m s [] = refl
over_at_any n m s (b ∷ r) = go (eqb b 64)
  where
    go : (x : Bool) → pick x (group_digit n r) (got fleet n s) ≡ relabel n (pick x (group_digit m r) (got fleet m s))
    go true = group_digit_any n m r
    go false = refl

pub overs_any : (n m : ℕ) (s : List ℕ) → overs n s ≡ relabel n (overs m s)
unfolding overs
overs_any n m s = over_at_any n m s (skip s)

pub amounts_any : (n : ℕ) (u : List ℕ) → amounts n u ≡ relabel n (amounts 0 u)
unfolding amounts
amounts_any n u =
    ap (λ (g : Got (ℕ × Bool)). bind g (λ x m r. by x (overs m r))) (limits_any n u)
    ∙ any_bind n (limits 0 u) (λ x m r. by x (overs m r))
    (λ x m r. ap (by x) (overs_any n m r) ∙ any_bind n (overs m r) (λ o m₁ r₁. got (amount x.0 x.1 o) m₁ r₁) (λ o m₁ r₁. refl))
  where
    by : ℕ × Bool → Got Over → Got Amount
    by x g = bind g (λ o m₁ r₁. got (amount x.0 x.1 o) m₁ r₁)
