-- Narrow places: the conflicts that document 02, 2) forbids, over runs. Nothing here computes.
use Rattle.std.specs.Prelude.{ℕ, suc, ◌<◌, ◌≡◌, Bool, ◌⊎◌, T}
use Rattle.row.specs.Lasso.{step_of}
use Rattle.cltl.specs.Meaning.{Run}

-- "Rows .. are those of the files": so many carts, h steps with the lap from l on, the place on a step of a cart's row, and whether a place is narrow.
pub record Routes : Type 0 where
  pub carts : ℕ
  pub h : ℕ
  pub l : ℕ
  pub place : ℕ → ℕ → ℕ
  pub narrow : ℕ → Bool

module _ (P : Routes) where
  -- the place of cart i at counter v
  abbrev pub stands_on : ℕ → ℕ → ℕ
  stands_on i v = P.place i (step_of P.h P.l v)

  abbrev pub Narrow : ℕ → Type 0
  Narrow p = T (P.narrow p)

  -- Carts a and b at moment t, `at t i` being the counter of cart i.
  module _ (at : ℕ → ℕ → ℕ) (t a b : ℕ) where
    -- "two carts in one narrow place at a moment": a vertex conflict
    pub record Vertex : Type 0 where
      pub same : stands_on a (at t a) ≡ stands_on b (at t b)
      pub narrow : Narrow (stands_on a (at t a))

    -- "exchange two carts between two narrow places in one tick": a swap conflict
    pub record Swap : Type 0 where
      pub differ : stands_on a (at t a) ≡ stands_on b (at t b) → ⊥
      pub narrow : Narrow (stands_on a (at t a))
      pub other_narrow : Narrow (stands_on b (at t b))
      pub there : stands_on a (at (suc t) a) ≡ stands_on b (at t b)
      pub back : stands_on b (at (suc t) b) ≡ stands_on a (at t a)

    abbrev pub Conflicting : Type 0
    Conflicting = Vertex ⊎ Swap

  -- some run within d has cart a in a conflict at its counter v, "for an exchange the counter before the tick"
  pub record Conflict (d a v : ℕ) : Type 0 where
    pub run : Run P.carts d
    pub moment : ℕ
    pub other : ℕ
    pub cart_there : a < P.carts
    pub other_there : other < P.carts
    pub two : a ≡ other → ⊥
    pub counter : run.at moment a ≡ v
    pub conflicting : Conflicting run.at moment a other

  -- "No run within the drift may have two carts in one narrow place at a moment, nor exchange two carts between two narrow places in one tick."
  abbrev pub Free : ℕ → Type 0
  Free d = (r : Run P.carts d) (t a b : ℕ) → a < P.carts → b < P.carts → (a ≡ b → ⊥) → Conflicting r.at t a b → ⊥

  -- "20 (lowest cart in any conflict, the step of its earliest counter in one ..)"
  pub record Earliest (d a s : ℕ) : Type 0 where
    pub counter : ℕ
    pub conflict : Conflict d a counter
    pub step : s ≡ step_of P.h P.l counter
    pub lowest : (i v : ℕ) → i < a → Conflict d i v → ⊥
    pub before : (v : ℕ) → v < counter → Conflict d a v → ⊥
