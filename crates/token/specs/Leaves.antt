-- What the readers of single tokens give, in the terms of a part.
use Rattle.std.specs.Prelude.{ℕ, suc, ◌+◌, ◌*◌, ◌≤◌, ◌<◌, ◌≡◌, Bool, true, false, List, [], ◌∷◌, length, drop, Option, None, Some, Result, Ok, Err}
use Rattle.record.specs.Buffer.{stored}
use Rattle.grammar.specs.Grammar.{Over, fleet, group, Amount, amount}
use Rattle.grammar.specs.Nodes.{Node}
use Rattle.grammar.specs.Reader.{Got, got, no, bind, node, literal, overs, skip}
use Rattle.token.specs.Block.{node_bytes}
use Rattle.token.specs.declared.Part.{Part}
use Rattle.token.specs.declared.Fault.{Fault}
use Rattle.token.specs.declared.Amount.{Amount as AmountRead}

-- a refusal: the block still has its length
pub record PartRefused (s before : List ℕ) (f : Fault) (after : List ℕ) (w : ℕ) (rest : List ℕ) : Type 0 where
  pub number : f.number ≡ w
  pub some : f.number ≡ 0 → ⊥
  pub behind : drop f.at s ≡ rest
  pub inside : f.at ≤ length s
  pub block : length after ≡ length before

-- a refused leaf leaves the block as it is
pub record LeafRefused (s before : List ℕ) (f : Fault) (after : List ℕ) (w : ℕ) (rest : List ℕ) : Type 0 where
  pub part : PartRefused s before f after w rest
  pub unchanged : after ≡ before

-- a leaf with its one node
module _ {A : Type 0} (node : A → Node) (s : List ℕ) (n left : ℕ) (before : List ℕ) where
  pub record Placed (r : Part) (after : List ℕ) (x : A) (m : ℕ) (rest : List ℕ) : Type 0 where
    pub behind : drop r.at s ≡ rest
    pub inside : r.at ≤ length s
    pub allowed : r.left ≡ m
    pub slots : r.n ≡ n + 1
    pub kept : r.n + r.left ≡ n + left
    pub block : after ≡ stored before (4 * n) (node_bytes (node x))

  abbrev pub LeafIs : Result Part Fault → List ℕ → Got A → Type 0
  LeafIs (Ok r) after (got x m rest) = Placed r after x m rest
  LeafIs (Err f) after (no w rest) = LeafRefused s before f after w rest
  LeafIs (Ok r) after (no w rest) = ⊥
  LeafIs (Err f) after (got x m rest) = ⊥

-- byte c behind a part and spaces: the part up to behind it
pub record Found (s : List ℕ) (r : Part) (c : ℕ) (q : Part) : Type 0 where
  pub there : skip (drop r.at s) ≡ c ∷ drop q.at s
  pub inside : q.at ≤ length s
  pub allowed : q.left ≡ r.left
  pub slots : q.n ≡ r.n

-- or 13 where it should be
pub record Missing (s : List ℕ) (r : Part) (c : ℕ) (f : Fault) : Type 0 where
  pub none : (t : List ℕ) → skip (drop r.at s) ≡ c ∷ t → ⊥
  pub number : f.number ≡ 13
  pub behind : drop f.at s ≡ skip (drop r.at s)
  pub inside : f.at ≤ length s

abbrev pub Expected : List ℕ → Part → ℕ → Result Part Fault → Type 0
Expected s r c (Ok q) = Found s r c q
Expected s r c (Err f) = Missing s r c f

-- behind a part that was read; a refused one is handed on
abbrev pub ExpectedIfRead : List ℕ → Result Part Fault → ℕ → Result Part Fault → Type 0
ExpectedIfRead s (Ok p) c q = Expected s p c q
ExpectedIfRead s (Err f) c q = q ≡ Err f

-- `true`, from its first byte on
abbrev pub word_got : List ℕ → ℕ → ℕ → Got (Unit {0})
word_got s left i = bind (literal {A = Unit {0}} (114 ∷ 117 ∷ 101 ∷ []) tt left (drop (suc i) s)) (λ u m r₁. node (drop i s) m (λ m₁. got tt m₁ r₁))

-- whether byte c stands at an offset
pub record ByteAt (s : List ℕ) (j c : ℕ) (b : Bool) : Type 0 where
  pub yes : b ≡ true → drop j s ≡ c ∷ drop (suc j) s
  pub low : b ≡ true → j < length s
  pub no : b ≡ false → (t : List ℕ) → drop j s ≡ c ∷ t → ⊥

-- a number with its `%`, of the whole fleet
abbrev pub LimitIs : List ℕ → Result AmountRead Fault → Got (ℕ × Bool) → Type 0
LimitIs s (Ok r) (got x m t) = (drop r.at s ≡ t) × (r.value ≡ x.0) × (r.percent ≡ x.1) × (r.value ≤ 999) × (r.over ≡ None)
LimitIs s (Err f) (no w t) = (f.number ≡ w) × (drop f.at s ≡ t) × (w ≡ 0 → ⊥)
LimitIs s (Ok r) (no w t) = ⊥
LimitIs s (Err f) (got x m t) = ⊥

-- the carts by their group, or none
abbrev pub over_of : Option ℕ → Over
over_of None = fleet
over_of (Some g) = group g

abbrev pub low_group : Option ℕ → Type 0
low_group None = Unit {0}
low_group (Some g) = g ≤ 7

-- a group's digit at an offset
abbrev pub DigitIs : List ℕ → ℕ → Option ℕ → Got Over → Type 0
DigitIs s j (Some g) (got o m t) = (group g ≡ o) × (g ≤ 7) × (j < length s) × (drop (suc j) s ≡ t)
DigitIs s j None (no w t) = (w ≡ 13) × (drop j s ≡ t)
DigitIs s j (Some g) (no w t) = ⊥
DigitIs s j None (got o m t) = ⊥

-- an amount, from its number's first digit on
abbrev pub amount_of : AmountRead → Amount
amount_of r = amount r.value r.percent (over_of r.over)

abbrev pub AmountIs : List ℕ → Result AmountRead Fault → Got Amount → Type 0
AmountIs s (Ok r) (got x m t) = (drop r.at s ≡ t) × (amount_of r ≡ x) × (r.value ≤ 999) × low_group r.over
AmountIs s (Err f) (no w t) = (f.number ≡ w) × (drop f.at s ≡ t) × (w ≡ 0 → ⊥)
AmountIs s (Ok r) (no w t) = ⊥
AmountIs s (Err f) (got x m t) = ⊥

-- what its number and its `%` make of the group behind them
abbrev pub grouped_got : List ℕ → AmountRead → Got Amount
grouped_got s k = bind (overs 0 (drop k.at s)) (λ o m r. got (amount k.value k.percent o) m r)
