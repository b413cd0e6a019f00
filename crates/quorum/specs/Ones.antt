-- The bits of a word are as many as the carts that have one.
use Rattle.std.specs.Prelude.{ℕ, zero, suc, ◌+◌, ◌-◌, ◌/◌, ◌^◌, ◌≤◌, ◌<◌, ◌≡◌, refl, Bool, true, false, not, cond, ◌&&◌, T, leb, eqb}
use Rattle.std.proofs.Common.{sym, ap, ap₂, subst, ◌∙◌, arith, pow-suc, leb→le, le→leb, eqb→eq, pow_pos}
use Rattle.std.proofs.Math.Arith.{lt-one, bin_ind}
use Rattle.std.specs.Int.Count.{ones, ones_step, ones-ones}
use Rattle.std.proofs.lemmas.Nat.{ones-le}
use Rattle.std.proofs.Math.Dec.{eqb_refl, not_T}
use Rattle.row.specs.Round.{pick}
use Rattle.cltl.specs.Counting.{tally, every}
use Rattle.cltl.proofs.Basics.{bool_ext}
use Rattle.cltl.proofs.Tally.{tally_le, tally_all, every_at}
use Rattle.cltl.proofs.Agree.{tally_agrees}
use Rattle.mask.specs.Mask.{on, Row}
use Rattle.mask.specs.EachBit.{on_shr}
use Rattle.quorum.specs.Below.{lowest}

eq→eqb : (m n : ℕ) → m ≡ n → T (eqb m n)
eq→eqb m n e = subst (λ (k : ℕ). T (eqb m k)) e (eqb_refl m)

-- the first one apart
tally_first : (f : ℕ → Bool) (n : ℕ) → tally f (suc n) ≡ cond (f 0) 1 0 + tally (λ i. f (suc i)) n
unfolding tally
tally_first f zero = go (f 0)
  where
    go : (b : Bool) → cond b 1 0 ≡ cond b 1 0 + 0
    go true = refl
    go false = refl
tally_first f (suc n) = ap (λ (k : ℕ). cond (f (suc n)) (suc k) k) (tally_first f n) ∙ go (f (suc n)) (cond (f 0) 1 0) (tally (λ i. f (suc i)) n)
  where
    go : (b : Bool) (a k : ℕ) → cond b (suc (a + k)) (a + k) ≡ a + cond b (suc k) k
    go true a k = omega arith
    go false a k = refl

ones-tally : (k x : ℕ) → x < 2 ^ k → ones x ≡ tally (on x) k
unfolding tally ones
ones-tally zero x p = ap ones (lt-one p)
ones-tally (suc k) x p =
    ones_step x ∙ ap₂ (λ (a b : ℕ). a + b) (lowest x)
    (ones-tally k (x / 2) (omega (arith, pow-suc 2 k)) ∙ tally_agrees (on (x / 2)) (λ i. on x (suc i)) k
    (λ i _. let e : 1 + i ≡ suc i = omega arith in on_shr x 1 i ∙ ap (on x) e)) ∙ sym (tally_first (on x) k)

-- a word that is the row of the carts
pub counted : (carts x : ℕ) (g : ℕ → Bool) → Row carts x g → ones x ≡ tally g carts
counted carts x g r = ones-tally carts x r.low ∙ tally_agrees (on x) g carts r.at

full : (f : ℕ → Bool) (n : ℕ) → n ≤ tally f n → T (every f n)
unfolding tally every
full f zero p = tt
full f (suc n) p = go (f n) (tally_le f n) p (full f n)
  where
    go : (b : Bool) → tally f n ≤ n → suc n ≤ cond b (suc (tally f n)) (tally f n) → (n ≤ tally f n → T (every f n)) → T (b && every f n)
    go true q r h = h (omega arith)
    go false q r h = absurd (omega arith)

-- as many as there are: all of them
pub all_counted : (f : ℕ → Bool) (n : ℕ) → leb n (tally f n) ≡ every f n
all_counted f n =
    bool_ext _ _ (λ t. full f n (leb→le n _ t)) (λ t. let e = tally_all f n (λ i p. every_at f n i p t) in le→leb n _ (omega arith))

-- as many bits as there is room for: every one of them
most : (k x : ℕ) → x < 2 ^ k → k ≤ ones x → x ≡ 2 ^ k - 1
most zero x p q = omega arith
most (suc k) x p q =
    let few = ones-le k (x / 2) (omega (arith, pow-suc 2 k)) in
    let rest = most k (x / 2) (omega (arith, pow-suc 2 k)) (omega (arith, ones_step x)) in
    omega (arith, ones_step x, pow-suc 2 k, pow_pos k)

pub full_word : (k x : ℕ) → x < 2 ^ k → eqb x (2 ^ k - 1) ≡ leb k (ones x)
full_word k x p =
    bool_ext _ _
    (λ t. let e : ones x ≡ k = ap ones (eqb→eq x (2 ^ k - 1) t) ∙ ones-ones k in le→leb k (ones x) (omega arith))
    (λ t. eq→eqb x (2 ^ k - 1) (most k x p (leb→le k (ones x) t)))

-- no bit at all
none : (x : ℕ) → ones x ≡ 0 → x ≡ 0
none = bin_ind (λ (x : ℕ). ones x ≡ 0 → x ≡ 0) (λ _. refl) (λ x ih e. let half = ih (omega (arith, ones_step x)) in omega (arith, ones_step x))

pub bits_left : (x : ℕ) → not (eqb x 0) ≡ leb 1 (ones x)
unfolding ones
bits_left x =
    bool_ext _ _ (λ t. le→leb 1 (ones x) (go (eqb x 0) (eq→eqb x 0) t))
    (λ t. not_T (eqb x 0) (λ u. let e : ones x ≡ 0 = ap ones (eqb→eq x 0 u) in let q = leb→le 1 (ones x) t in omega arith))
  where
    go : (b : Bool) → (x ≡ 0 → T b) → T (not b) → 1 ≤ ones x
    go true f t = absurd t
    go false f t = pick (ones x) 1 (1 ≤ ones x) (λ q. absurd (f (none x (omega arith)))) (λ q. q)
