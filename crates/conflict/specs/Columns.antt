-- Where the carts from one on stand, column by column: the latest counter at which one of them stood on each place.
use Rattle.std.specs.Prelude.{ℕ, suc, ◌+◌, ◌≤◌, ◌<◌, ◌≡◌, Bool, true, false, not, ◌&&◌, List, ◌⊎◌, eqb, ltb, length, get_or}

-- a statement decided
abbrev pub Decides : Type 0 → Bool → Type 0
Decides A true = A
Decides A false = A → ⊥

-- numbers, as of carts, from one on and below another
module _ (from top : ℕ) where
  -- one of them with Q
  pub record Some (Q : ℕ → Type 0) : Type 0 where
    pub cart : ℕ
    pub low : from ≤ cart
    pub high : cart < top
    pub has : Q cart

  -- the carts of a column enter a mark where they stand, and nothing else changes
  abbrev pub Entry : (ℕ → ℕ) → ℕ → List ℕ → List ℕ → ℕ → Type 0
  Entry place mark before after p =
      (Some (λ b. place b ≡ p) × (get_or after p 0 ≡ mark)) ⊎ ((Some (λ b. place b ≡ p) → ⊥) × (get_or after p 0 ≡ get_or before p 0))

  pub record Entered (place : ℕ → ℕ) (mark : ℕ) (before after : List ℕ) : Type 0 where
    pub kept : length after ≡ length before
    pub each : (p : ℕ) → Entry place mark before after p

  -- one of them on p at a counter from u on and below w
  pub record Between (place : ℕ → ℕ → ℕ) (p u w : ℕ) : Type 0 where
    pub counter : ℕ
    pub since : u ≤ counter
    pub until : counter < w
    pub on : Some (λ b. place b counter ≡ p)

  -- m is one more than the latest counter below w at which one of them was on p
  pub record Last (place : ℕ → ℕ → ℕ) (p w m : ℕ) : Type 0 where
    pub counter : ℕ
    pub is : m ≡ suc counter
    pub below : counter < w
    pub on : Some (λ b. place b counter ≡ p)
    pub later : Between place p (suc counter) w → ⊥

  -- or it is 0, and none was
  abbrev pub LastOn : (ℕ → ℕ → ℕ) → ℕ → ℕ → ℕ → Type 0
  LastOn place p w m = ((m ≡ 0) × (Between place p 0 w → ⊥)) ⊎ Last place p w m

  -- a table of these numbers, by place
  pub record Latest (place : ℕ → ℕ → ℕ) (w : ℕ) (last : List ℕ) : Type 0 where
    pub size : length last ≡ 256
    pub each : (p : ℕ) → LastOn place p w (get_or last p 0)

-- whether m is of a counter, and v at most d ahead of it
abbrev pub near : ℕ → ℕ → ℕ → Bool
near m v d = not (eqb m 0) && ltb v (m + d)
