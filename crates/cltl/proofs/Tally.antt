-- Counting below a number, by a test and as a statement; the least of some numbers.
use Rattle.std.specs.Prelude.{ℕ, zero, suc, ◌+◌, ◌≤◌, ◌<◌, min, ◌≡◌, refl, Bool, true, false, not, cond, ◌&&◌, ◌||◌, ◌⊎◌, T}
use Rattle.std.proofs.Common.{sym, ap, subst, true≢false, inl, inr, ⊎_elim, arith, eq-or-lt_of_le, le_refl}
use Rattle.std.proofs.lemmas.Bool.{false≢true}
use Rattle.cltl.specs.Counting.{tally, every}
use Rattle.cltl.specs.Meaning.{AtLeast}
use Rattle.cltl.proofs.Basics.{and_l, and_r, and_i, lt_or_le}

least_step : (b : Bool) (k m : ℕ) {X Y Z : Type 0} → (T b → X) → (m ≤ k → Y) → (suc m ≤ k → Z) → suc m ≤ cond b (suc k) k → (X × Y) ⊎ Z
least_step true k m x y z q = inl (x tt, y (omega arith))
least_step false k m x y z q = inr (z q)

pub tally_least : (f : ℕ → Bool) (P : ℕ → Type 0) (n : ℕ) → ((i : ℕ) → i < n → T (f i) → P i) → (m : ℕ) → m ≤ tally f n → AtLeast P m n
unfolding tally
tally_least f P zero g zero q = tt
tally_least f P (suc n) g zero q = tt
tally_least f P zero g (suc m) q = omega arith
tally_least f P (suc n) g (suc m) q =
    least_step (f n) (tally f n) m (g n (le_refl (suc n))) (tally_least f P n (λ i p. g i (omega arith)) m)
    (tally_least f P n (λ i p. g i (omega arith)) (suc m)) q

pub cond_le : (b : Bool) (k : ℕ) → cond b (suc k) k ≤ suc k
cond_le true k = le_refl (suc k)
cond_le false k = omega arith

cond_not : (b : Bool) (k : ℕ) → (T b → ⊥) → cond b (suc k) k ≡ k
cond_not true k h = absurd (h tt)
cond_not false k h = refl

cond_yes : (b : Bool) (k : ℕ) → T b → cond b (suc k) k ≡ suc k
cond_yes true k t = refl
cond_yes false k t = absurd t

cond_mono : (b b' : Bool) (k k' : ℕ) → (T b → T b') → k ≤ k' → cond b (suc k) k ≤ cond b' (suc k') k'
cond_mono true true k k' f h = omega arith
cond_mono true false k k' f h = absurd (f tt)
cond_mono false true k k' f h = omega arith
cond_mono false false k k' f h = h

pub tally_le : (f : ℕ → Bool) (n : ℕ) → tally f n ≤ n
unfolding tally
tally_le f zero = omega arith
tally_le f (suc n) = let h = tally_le f n in let c = cond_le (f n) (tally f n) in omega arith

-- of the numbers that pass the test s, m have P, and none of these passes f
pub tally_among : (f s : ℕ → Bool) (P : ℕ → Type 0) (n : ℕ) → ((i : ℕ) → i < n → T (f i) → T (s i) × (P i → ⊥)) → ((i : ℕ) → i < n → P i → T (s i))
    → (m : ℕ) → AtLeast P m n → m + tally f n ≤ tally s n
unfolding tally
tally_among f s P zero g q zero a = omega arith
tally_among f s P (suc n) g q zero a =
    let h = tally_among f s P n (λ i p. g i (omega arith)) (λ i p. q i (omega arith)) zero tt in
    let c = cond_mono (f n) (s n) (tally f n) (tally s n) (λ t. (g n (le_refl (suc n)) t).0) (omega arith) in
    omega arith
tally_among f s P zero g q (suc m) a = absurd a
tally_among f s P (suc n) g q (suc m) a =
    ⊎_elim
    (λ y.
    let h = tally_among f s P n (λ i p. g i (omega arith)) (λ i p. q i (omega arith)) m y.1 in
    let b = cond_not (f n) (tally f n) (λ t. (g n (le_refl (suc n)) t).1 y.0) in
    let c = cond_yes (s n) (tally s n) (q n (le_refl (suc n)) y.0) in
    omega arith)
    (λ y.
    go (f n) (s n) (λ t. (g n (le_refl (suc n)) t).0) (tally f n) (tally s n)
    (tally_among f s P n (λ i p. g i (omega arith)) (λ i p. q i (omega arith)) (suc m) y))
    a
  where
    go : (b c : Bool) → (T b → T c) → (x y : ℕ) → suc m + x ≤ y → suc m + cond b (suc x) x ≤ cond c (suc y) y
    go true true t x y h = omega arith
    go true false t x y h = absurd (t tt)
    go false true t x y h = omega arith
    go false false t x y h = h

pub tally_most : (f : ℕ → Bool) (P : ℕ → Type 0) (n : ℕ) → ((i : ℕ) → i < n → T (f i) → P i → ⊥) → (m : ℕ) → AtLeast P m n → m + tally f n ≤ n
tally_most f P n g m a =
    let most = tally_among f (λ i. true) P n (λ i p t. (tt, g i p t)) (λ i p y. tt) m a in
    let all = tally_le (λ i. true) n in
    omega arith

pub one_of : (P : ℕ → Type 0) (n i : ℕ) → i < n → P i → AtLeast P 1 n
one_of P zero i h p = omega arith
one_of P (suc n) i h p = ⊎_elim (λ e. inl (subst P e p, tt)) (λ q. inr (one_of P n i q p)) (eq-or-lt_of_le {n = i} {m = n} (omega arith))

pub not_all : (P : ℕ → Type 0) (n i : ℕ) → i < n → (P i → ⊥) → (m : ℕ) → AtLeast P m n → m < n
not_all P zero i h p m a = omega arith
not_all P (suc n) i h p zero a = omega arith
not_all P (suc n) i h p (suc m) a =
    ⊎_elim
    (λ y. ⊎_elim (λ e. absurd (p (subst P (sym e) y.0))) (λ q. let r = not_all P n i q p m y.1 in omega arith)
    (eq-or-lt_of_le {n = i} {m = n} (omega arith)))
    (λ y. let r = tally_most (λ j. false) P n (λ j q t _. t) (suc m) y in omega arith)
    a

pub at_least_map : (P Q : ℕ → Type 0) (n : ℕ) → ((i : ℕ) → i < n → P i → Q i) → (m : ℕ) → AtLeast P m n → AtLeast Q m n
at_least_map P Q n f zero a = tt
at_least_map P Q zero f (suc m) a = absurd a
at_least_map P Q (suc n) f (suc m) a =
    ⊎_elim (λ y. inl (f n (le_refl (suc n)) y.0, at_least_map P Q n (λ i p. f i (omega arith)) m y.1))
    (λ y. inr (at_least_map P Q n (λ i p. f i (omega arith)) (suc m) y)) a

pub every_at : (f : ℕ → Bool) (n i : ℕ) → i < n → T (every f n) → T (f i)
unfolding every
every_at f zero i h t = absurd (omega arith)
every_at f (suc n) i h t =
    ⊎_elim (λ e. subst (λ (j : ℕ). T (f j)) (sym e) (and_l (f n) (every f n) t)) (λ q. every_at f n i q (and_r (f n) (every f n) t))
    (eq-or-lt_of_le {n = i} {m = n} (omega arith))

pub every_of : (f : ℕ → Bool) (n : ℕ) → ((i : ℕ) → i < n → T (f i)) → T (every f n)
unfolding every
every_of f zero h = tt
every_of f (suc n) h = and_i (f n) (every f n) (h n (le_refl (suc n))) (every_of f n (λ i p. h i (omega arith)))

pub every_agrees : (f g : ℕ → Bool) (n : ℕ) → ((i : ℕ) → i < n → f i ≡ g i) → every f n ≡ every g n
unfolding every
every_agrees f g zero e = refl
every_agrees f g (suc n) e = rw (e n (le_refl (suc n)), every_agrees f g n (λ i p. e i (omega arith)))

-- the least of f 0 .. f n
unfoldable pub low : (ℕ → ℕ) → ℕ → ℕ
low f zero = f zero
low f (suc n) = min (f (suc n)) (low f n)

pub low_le : (f : ℕ → ℕ) (n i : ℕ) → i ≤ n → low f n ≤ f i
unfolding low
low_le f zero i h = let e : f zero ≡ f i = ap f (omega arith) in omega arith
low_le f (suc n) i h =
    ⊎_elim (λ q. let e : f i ≡ f (suc n) = ap f q in omega arith) (λ q. let r : low f n ≤ f i = low_le f n i (omega arith) in omega arith) (eq-or-lt_of_le h)

pub low_at : (f : ℕ → ℕ) (n : ℕ) → (i : ℕ) × (i ≤ n) × (f i ≡ low f n)
unfolding low
low_at f zero = (zero, omega arith, refl)
low_at f (suc n) =
    let r : (i : ℕ) × (i ≤ n) × (f i ≡ low f n) = low_at f n in
    ⊎_elim (λ q. (suc n, omega arith, omega arith)) (λ q. (r.0, omega arith, omega arith)) (lt_or_le (f (suc n)) (low f n))

pub tally_mono : (f g : ℕ → Bool) (n : ℕ) → ((i : ℕ) → i < n → T (f i) → T (g i)) → tally f n ≤ tally g n
unfolding tally
tally_mono f g zero h = omega arith
tally_mono f g (suc n) h = cond_mono (f n) (g n) (tally f n) (tally g n) (h n (le_refl (suc n))) (tally_mono f g n (λ i p. h i (omega arith)))

pub tally_all : (f : ℕ → Bool) (n : ℕ) → ((i : ℕ) → i < n → T (f i)) → tally f n ≡ n
unfolding tally
tally_all f zero h = refl
tally_all f (suc n) h = go (f n) (h n (le_refl (suc n))) (tally_all f n (λ i p. h i (omega arith)))
  where
    go : (b : Bool) → T b → tally f n ≡ n → cond b (suc (tally f n)) (tally f n) ≡ suc n
    go true t e = ap suc e
    go false t e = absurd t

-- those that pass s are those that pass f too and those that do not
pub tally_split : (s f g : ℕ → Bool) → ((i : ℕ) → f i ≡ not (g i)) → (n : ℕ) → tally (λ i. s i && f i) n + tally (λ i. s i && g i) n ≡ tally s n
unfolding tally
tally_split s f g h zero = refl
tally_split s f g h (suc n) = go (s n) (f n) (g n) (h n) _ _ _ (tally_split s f g h n)
  where
    go : (a b c : Bool) → b ≡ not c → (x y z : ℕ) → x + y ≡ z → cond (a && b) (suc x) x + cond (a && c) (suc y) y ≡ cond a (suc z) z
    go false b c q x y z e = e
    go true true true q x y z e = absurd (true≢false q)
    go true true false q x y z e = omega arith
    go true false true q x y z e = omega arith
    go true false false q x y z e = absurd (false≢true q)

pub tally-not : (f g : ℕ → Bool) → ((i : ℕ) → f i ≡ not (g i)) → (n : ℕ) → tally f n + tally g n ≡ n
tally-not f g h n = let e = tally_split (λ i. true) f g h n in let all = tally_all (λ i. true) n (λ i p. tt) in omega arith

pub tally_or : (f g : ℕ → Bool) (n : ℕ) → tally (λ i. f i || g i) n ≤ tally f n + tally g n
unfolding tally
tally_or f g zero = omega arith
tally_or f g (suc n) = go (f n) (g n) _ (tally f n) (tally g n) (tally_or f g n)
  where
    go : (a b : Bool) (x y z : ℕ) → x ≤ y + z → cond (a || b) (suc x) x ≤ cond a (suc y) y + cond b (suc z) z
    go true true x y z q = omega arith
    go true false x y z q = omega arith
    go false true x y z q = omega arith
    go false false x y z q = q

pub tally_none : (n : ℕ) → tally (λ i. false) n ≡ 0
unfolding tally
tally_none zero = refl
tally_none (suc n) = tally_none n
