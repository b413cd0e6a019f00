-- Small facts on tests and orders.
use Rattle.std.specs.Prelude.{ℕ, ◌≤◌, ◌<◌, Bool, true, false, not, ◌&&◌, ◌||◌, ◌≡◌, refl, ◌⊎◌, T, ltb}
use Rattle.std.proofs.Common.{inl, inr, ⊎_elim, ltb→lt, nltb→le}
use Rattle.cltl.specs.Rules.{join, mix}

pub or_cases : (x y : Bool) → T (x || y) → T x ⊎ T y
or_cases true y h = inl tt
or_cases false y h = inr h

pub or_l : (x y : Bool) → T x → T (x || y)
or_l true y h = tt
or_l false y h = absurd h

pub or_r : (x y : Bool) → T y → T (x || y)
or_r true y h = tt
or_r false y h = h

pub and_l : (x y : Bool) → T (x && y) → T x
and_l true y h = tt
and_l false y h = absurd h

pub and_r : (x y : Bool) → T (x && y) → T y
and_r true y h = h
and_r false y h = absurd h

pub and_i : (x y : Bool) → T x → T y → T (x && y)
and_i true y h k = k
and_i false y h k = absurd h

pub T_or_not : (x : Bool) → T x ⊎ T (not x)
T_or_not true = inl tt
T_or_not false = inr tt

pub lt_or_le : (a b : ℕ) → (a < b) ⊎ (b ≤ a)
lt_or_le a b = go (ltb a b) (ltb→lt a b) (nltb→le a b)
  where
    go : (t : Bool) → (T t → a < b) → (T (not t) → b ≤ a) → (a < b) ⊎ (b ≤ a)
    go true f g = inl (f tt)
    go false f g = inr (g tt)

pub join_mono : (p x x' y y' : Bool) → (T x → T x') → (T y → T y') → T (join p x y) → T (join p x' y')
join_mono true x x' y y' f g h = and_i x' y' (f (and_l x y h)) (g (and_r x y h))
join_mono false x x' y y' f g h = ⊎_elim (λ k. or_l x' y' (f k)) (λ k. or_r x' y' (g k)) (or_cases x y h)

pub mix_mono : (p x x' y y' z z' : Bool) → (T x → T x') → (T y → T y') → (T z → T z') → T (mix p x y z) → T (mix p x' y' z')
mix_mono true x x' y y' z z' f g k = join_mono false y y' (x && z) (x' && z') g (join_mono true x x' z z' f k)
mix_mono false x x' y y' z z' f g k = join_mono true y y' (x || z) (x' || z') g (join_mono false x x' z z' f k)

-- what makes no difference beside what it implies
pub or_absorb : (z x : Bool) → (T z → T x) → (z || x) ≡ x
or_absorb true true h = refl
or_absorb true false h = absurd (h tt)
or_absorb false x h = refl

-- nor where until asks for a or b, and release for a
pub mix_absorb : (p z a b rest : Bool) → (T z → T (join (not p) a b)) → mix p (z || a) b rest ≡ mix p a b rest
mix_absorb p false a b rest h = refl
mix_absorb p true true b rest h = refl
mix_absorb true true false true rest h = refl
mix_absorb true true false false rest h = absurd (h tt)
mix_absorb false true false b rest h = absurd (h tt)

pub join-not : (p x y : Bool) → join (not p) (not x) (not y) ≡ not (join p x y)
join-not true true y = refl
join-not true false y = refl
join-not false true y = refl
join-not false false y = refl

pub mix-not : (p x y z : Bool) → mix (not p) (not x) (not y) (not z) ≡ not (mix p x y z)
mix-not true true true z = refl
mix-not true true false z = refl
mix-not true false true z = refl
mix-not true false false z = refl
mix-not false true true z = refl
mix-not false true false z = refl
mix-not false false true z = refl
mix-not false false false z = refl

pub bool_opp : (x y : Bool) → (T x → T y → ⊥) → ((T y → ⊥) → T x) → x ≡ not y
bool_opp true true f g = absurd (f tt tt)
bool_opp true false f g = refl
bool_opp false true f g = refl
bool_opp false false f g = absurd (g (λ e. e))

pub bool_ext : (x y : Bool) → (T x → T y) → (T y → T x) → x ≡ y
bool_ext true true f g = refl
bool_ext true false f g = absurd (f tt)
bool_ext false true f g = absurd (g tt)
bool_ext false false f g = refl
